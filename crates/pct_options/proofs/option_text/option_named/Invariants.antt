use Rattle.pct_names.proofs.Names.{all_options, drop, find, is_named, ◌≡◌}
use Rattle.pct_options.proofs.option_text.option_named.Given as goal

-- none of the options so far has the name
abbrev pub invariant-loop-option : goal.invariant-loop-option
invariant-loop-option l = find (is_named l.name) (drop l.option-index l.option-items) ≡ find (is_named l.name) all_options
