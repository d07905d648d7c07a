use Rattle.pct_names.proofs.Names.{◌++◌, codes, flat_map, take, ◌≡◌}
use Rattle.pct_view_texts.specs.Fields.{phrase_text}
use Rattle.pct_view_texts.specs.States.{fork_handlers_phrase}
use Rattle.pct_view_texts.specs.TextBuffers.{text_in}
use Rattle.pct_view_texts.proofs.registered.push_fork_handlers.Given as goal

abbrev pub invariant-loop-handlers : goal.invariant-loop-handlers
invariant-loop-handlers l = text_in l.phrases ≡ text_in l.initial.phrases ++ flat_map (λ h. codes ", " ++ phrase_text (fork_handlers_phrase l.script h)) (take l.handlers-index l.registrations)
