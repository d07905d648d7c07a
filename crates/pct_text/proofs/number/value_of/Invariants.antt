use Rattle.pct_names.proofs.Names.{drop, ◌≡◌}
use Rattle.pct_text.specs.Digits.{value_from}
use Rattle.pct_text.proofs.number.value_of.Given as goal

abbrev pub invariant-loop-digit : goal.invariant-loop-digit
invariant-loop-digit l = value_from l.value (drop l.digit-index l.word) ≡ value_from 0 l.word
