use Rattle.pct_set.proofs.KeyedSlots.{keyed_first}
use Rattle.pct_set.proofs.keyed_sets.KeyedSets.new.Goals as goal

pub invariant_of-result : goal.invariant_of-result
invariant_of-result c = rw (c.no_keys.ensures, c.first_sets.ensures) keyed_first
