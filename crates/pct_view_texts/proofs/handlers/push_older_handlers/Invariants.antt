use Rattle.pct_names.proofs.Names.{◌++◌, codes, length, ◌≡◌}
use Rattle.std.specs.List.{flat_map}
use Rattle.pct_view_texts.specs.Choices.{handler_phrase}
use Rattle.pct_view_texts.specs.Fields.{phrase_text}
use Rattle.pct_view_texts.specs.TextBuffers.{text_in}
use Rattle.pct_view_texts.proofs.handlers.push_older_handlers.Given as goal

-- the text, with the handlers that are left, is the whole text
abbrev pub invariant-loop-handler : goal.invariant-loop-handler
invariant-loop-handler l =
    text_in l.text ++ flat_map (λ handler. codes ", " ++ phrase_text (handler_phrase l.script handler)) l.left
    ≡ text_in l.initial.text ++ flat_map (λ handler. codes ", " ++ phrase_text (handler_phrase l.script handler)) l.initial.left

abbrev pub decreases-loop-handler : goal.decreases-loop-handler
decreases-loop-handler l = length l.left
