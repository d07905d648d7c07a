use Rattle.pct_names.proofs.Names.{◌≡◌}
use Rattle.pct_set.specs.Slots.{slots_where}
use Rattle.pct_threads.proofs.FreeSlots.{is_free_below}
use Rattle.pct_threads.proofs.threads.Threads.free.Given as goal

abbrev pub invariant-loop-slot : goal.invariant-loop-slot
invariant-loop-slot l = l.free ≡ slots_where (is_free_below l.self l.slot)
