use Rattle.pct_names.proofs.Names.{◌++◌, codes, flat_map, iter_rest, map, zip, zip_first, zip_second, ◌≡◌}
use Rattle.pct_view_texts.specs.Fields.{phrase_text}
use Rattle.pct_view_texts.specs.States.{value_words}
use Rattle.pct_view_texts.specs.TextBuffers.{text_in}
use Rattle.pct_view_texts.proofs.values.push_counts.Given as goal

-- the text, with the counts that are left, is the whole text
abbrev pub invariant-loop-sem : goal.invariant-loop-sem
invariant-loop-sem l =
    text_in l.phrases ++ flat_map (λ v. codes ", " ++ phrase_text (value_words v)) (zip (map (λ d. d.name) (iter_rest (zip_first l.sem-iterator))) (iter_rest (zip_second l.sem-iterator)))
    ≡ text_in l.initial.phrases ++ flat_map (λ v. codes ", " ++ phrase_text (value_words v)) (zip (map (λ d. d.name) l.sems) l.counts)
