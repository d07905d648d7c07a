use Rattle.pct_names.proofs.Names.{◌++◌, flat_map, iter_rest, zip, zip_first, zip_second, ◌≡◌}
use Rattle.pct_view_texts.specs.Fields.{after_commas}
use Rattle.pct_view_texts.specs.States.{once_phrases}
use Rattle.pct_view_texts.specs.TextBuffers.{text_in}
use Rattle.pct_view_texts.proofs.registered.push_onces.Given as goal

-- the text, with the once controls that are left, is the whole text
abbrev pub invariant-loop-name : goal.invariant-loop-name
invariant-loop-name l =
    text_in l.phrases ++ flat_map (λ o. after_commas (once_phrases l.pid o)) (zip (iter_rest (zip_first l.name-iterator)) (iter_rest (zip_second l.name-iterator)))
    ≡ text_in l.initial.phrases ++ flat_map (λ o. after_commas (once_phrases l.pid o)) (zip l.names l.states)
