use Rattle.pct_names.proofs.Names.{◌++◌, codes, inl, inr, iter_rest, length, zip, zip_first, zip_second, ◌≡◌, ◌⊎◌}
use Rattle.pct_view_texts.specs.Fields.{phrase_text}
use Rattle.pct_view_texts.specs.States.{mutex_phrase}
use Rattle.pct_view_texts.proofs.PhraseTexts.{no_pairs, none_left}
use Rattle.pct_view_texts.proofs.values.push_owners.Goals as goal

pub returns : goal.returns
returns c =
    let none : (length (iter_rest (zip_first c.loop-name.name-iterator)) ≡ 0) ⊎ (length (iter_rest (zip_second c.loop-name.name-iterator)) ≡ 0) = elim c.in-None.ensures.steps [
      | inl first ↦ inl first.1.0
      | inr second ↦ inr second.1.0
    ] in
    none_left (λ v. codes ", " ++ phrase_text (mutex_phrase c.args.pid v)) (zip (iter_rest (zip_first c.loop-name.name-iterator)) (iter_rest (zip_second c.loop-name.name-iterator))) _ _ (no_pairs (iter_rest (zip_first c.loop-name.name-iterator)) (iter_rest (zip_second c.loop-name.name-iterator)) none) c.loop-name.invariant
