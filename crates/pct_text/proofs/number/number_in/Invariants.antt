use Rattle.pct_names.proofs.Names.{drop, ◌≡◌}
use Rattle.pct_text.specs.Digits.{number_from, number_in}
use Rattle.pct_text.proofs.number.number_in.Given as goal

abbrev pub invariant-loop-digit : goal.invariant-loop-digit
invariant-loop-digit l = number_from l.value (drop l.digit-index l.rest) ≡ number_in l.word
