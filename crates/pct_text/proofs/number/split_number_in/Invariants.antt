use Rattle.pct_names.proofs.Names.{length, ◌≡◌}
use Rattle.pct_text.specs.Digits.{number_until, split_number_in}
use Rattle.pct_text.proofs.number.split_number_in.Given as goal

abbrev pub invariant-loop-byte : goal.invariant-loop-byte
invariant-loop-byte l = number_until l.value l.rest ≡ split_number_in l.bytes

abbrev pub decreases-loop-byte : goal.decreases-loop-byte
decreases-loop-byte l = length l.rest
