use Rattle.pct_names.proofs.Names.{◌++◌, codes, event_names, event_words, take, ◌≡◌}
use Rattle.std.specs.List.{flat_map}
use Rattle.pct_view_texts.specs.Fields.{phrase_text}
use Rattle.pct_view_texts.specs.TextBuffers.{text_in}
use Rattle.pct_view_texts.proofs.events.push_other_events.Given as goal

abbrev pub invariant-loop-event : goal.invariant-loop-event
invariant-loop-event l = text_in l.text ≡ text_in l.initial.text ++ flat_map (λ e. codes ", " ++ phrase_text (event_words (event_names l.script) e.what)) (take l.event-index l.events)
