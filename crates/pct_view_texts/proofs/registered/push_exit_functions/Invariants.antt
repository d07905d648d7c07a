use Rattle.pct_names.proofs.Names.{◌++◌, codes, flat_map, length, ◌≡◌}
use Rattle.pct_view_texts.specs.Fields.{phrase_text}
use Rattle.pct_view_texts.specs.States.{exit_function_phrase}
use Rattle.pct_view_texts.specs.TextBuffers.{text_in}
use Rattle.pct_view_texts.proofs.registered.push_exit_functions.Given as goal

-- the text, with the functions that are left, is the whole text
abbrev pub invariant-loop-function : goal.invariant-loop-function
invariant-loop-function l =
    text_in l.phrases ++ flat_map (λ f. codes ", " ++ phrase_text (exit_function_phrase l.script f)) l.left
    ≡ text_in l.initial.phrases ++ flat_map (λ f. codes ", " ++ phrase_text (exit_function_phrase l.script f)) l.functions

abbrev pub decreases-loop-function : goal.decreases-loop-function
decreases-loop-function l = length l.left
