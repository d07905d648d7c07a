use Rattle.pct_names.proofs.Names.{◌++◌, flat_map, iter_rest, zip, zip_first, zip_second, ◌≡◌}
use Rattle.pct_view_texts.specs.Fields.{phrase_text}
use Rattle.pct_view_texts.specs.States.{value_words}
use Rattle.pct_view_texts.specs.TextBuffers.{text_in}
use Rattle.pct_view_texts.proofs.values.push_values.Given as goal

-- the text, with the values that are left, is the whole text
abbrev pub invariant-loop-name : goal.invariant-loop-name
invariant-loop-name l =
    text_in l.text ++ flat_map (λ v. l.before ++ phrase_text (value_words v)) (zip (iter_rest (zip_first l.name-iterator)) (iter_rest (zip_second l.name-iterator)))
    ≡ text_in l.initial.text ++ flat_map (λ v. l.before ++ phrase_text (value_words v)) (zip l.names l.values)
