use Rattle.pct_ready_sets.proofs.FreshGroups.{fresh_groups}
use Rattle.pct_ready_sets.proofs.ready_sets.ReadySets.new.Goals as goal

pub invariant_of-result : goal.invariant_of-result
invariant_of-result c = rw (c.in_ok-no_conditions.ensures, c.in_ok-first_groups.ensures) fresh_groups
