use Rattle.pct_set.proofs.BitLemmas.{counted}
use Rattle.pct_set.proofs.SlotLemmas.{rising, below, determined}
use Rattle.pct_set.proofs.slot_set.SlotSet.len.Goals as goal

pub returns-clause-value : goal.returns-clause-value
returns-clause-value c = rw (← c.self.view_is) (counted _ c.self.invariant)

pub returns-clause-rising : goal.returns-clause-rising
returns-clause-rising c = rw (← c.self.view_is) (rising _)

pub returns-clause-below : goal.returns-clause-below
returns-clause-below c = rw (← c.self.view_is) (below _)

pub returns-clause-determined : goal.returns-clause-determined
returns-clause-determined c = rw (← c.self.view_is) (determined _)
