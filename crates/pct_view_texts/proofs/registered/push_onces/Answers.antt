use Rattle.pct_names.proofs.Names.{◌++◌, ap, inl, inr, iter_rest, length, List, zip, zip_first, zip_second, ℕ, ◌∙◌, ◌≡◌, ◌⊎◌}
use Rattle.pct_view_texts.specs.Fields.{after_commas}
use Rattle.pct_view_texts.specs.States.{once_phrases}
use Rattle.pct_view_texts.specs.TextBuffers.{text_in}
use Rattle.pct_view_texts.proofs.PhraseTexts.{no_pairs, none_left, phrases_each}
use Rattle.pct_view_texts.proofs.registered.push_onces.Goals as goal

pub returns : goal.returns
returns c =
    let none : (length (iter_rest (zip_first c.loop-name.name-iterator)) ≡ 0) ⊎ (length (iter_rest (zip_second c.loop-name.name-iterator)) ≡ 0) = elim c.in-None.ensures.steps [
      | inl first ↦ inl first.1.0
      | inr second ↦ inr second.1.0
    ] in
    none_left (λ o. after_commas (once_phrases c.args.pid o)) (zip (iter_rest (zip_first c.loop-name.name-iterator)) (iter_rest (zip_second c.loop-name.name-iterator))) _ _ (no_pairs (iter_rest (zip_first c.loop-name.name-iterator)) (iter_rest (zip_second c.loop-name.name-iterator)) none) c.loop-name.invariant
    ∙ ap (λ (text : List ℕ). text_in c.args.phrases.now ++ text) (phrases_each (once_phrases c.args.pid) (zip c.args.names.now c.args.states.now))
