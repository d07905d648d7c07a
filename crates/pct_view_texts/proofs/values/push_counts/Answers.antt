use Rattle.pct_names.proofs.Names.{◌++◌, codes, inl, inr, iter_rest, length, map, SemDecl, zip, zip_first, zip_second, ◌≡◌, ◌⊎◌}
use Rattle.pct_view_texts.specs.Fields.{phrase_text}
use Rattle.pct_view_texts.specs.States.{value_words}
use Rattle.pct_view_texts.proofs.PhraseTexts.{no_named_pairs, none_left}
use Rattle.pct_view_texts.proofs.values.push_counts.Goals as goal

pub returns : goal.returns
returns c =
    let none : (length (iter_rest (zip_first c.loop-sem.sem-iterator)) ≡ 0) ⊎ (length (iter_rest (zip_second c.loop-sem.sem-iterator)) ≡ 0) = elim c.in-None.ensures.steps [
      | inl first ↦ inl first.1.0
      | inr second ↦ inr second.1.0
    ] in
    none_left (λ v. codes ", " ++ phrase_text (value_words v)) (zip (map (λ (d : SemDecl). d.name) (iter_rest (zip_first c.loop-sem.sem-iterator))) (iter_rest (zip_second c.loop-sem.sem-iterator))) _ _ (no_named_pairs (λ (d : SemDecl). d.name) (iter_rest (zip_first c.loop-sem.sem-iterator)) (iter_rest (zip_second c.loop-sem.sem-iterator)) none) c.loop-sem.invariant
