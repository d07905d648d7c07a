-- What `first_unfollowed` keeps in its loop.
use Rattle.std.specs.Prelude.{◌≡◌, ℕ, ◌<◌, false}
use Rattle.pct_process_monitors.specs.UnfollowedEvents.{is_unfollowed}
use Rattle.pct_process_monitors.proofs.leftovers.first_unfollowed.Given as goal

abbrev pub invariant-loop-index : goal.invariant-loop-index
invariant-loop-index l = (place : ℕ) → place < l.index → is_unfollowed l.events place ≡ false
