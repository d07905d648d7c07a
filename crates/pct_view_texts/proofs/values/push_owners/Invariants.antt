use Rattle.pct_names.proofs.Names.{◌++◌, codes, flat_map, iter_rest, zip, zip_first, zip_second, ◌≡◌}
use Rattle.pct_view_texts.specs.Fields.{phrase_text}
use Rattle.pct_view_texts.specs.States.{mutex_phrase}
use Rattle.pct_view_texts.specs.TextBuffers.{text_in}
use Rattle.pct_view_texts.proofs.values.push_owners.Given as goal

-- the text, with the mutexes that are left, is the whole text
abbrev pub invariant-loop-name : goal.invariant-loop-name
invariant-loop-name l =
    text_in l.phrases ++ flat_map (λ m. codes ", " ++ phrase_text (mutex_phrase l.pid m)) (zip (iter_rest (zip_first l.name-iterator)) (iter_rest (zip_second l.name-iterator)))
    ≡ text_in l.initial.phrases ++ flat_map (λ m. codes ", " ++ phrase_text (mutex_phrase l.pid m)) (zip l.names l.owners)
