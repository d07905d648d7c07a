-- The law of cleanup handlers and destructors, by what is kept of a thread.
use Rattle.std.specs.Prelude.{ℕ, ◌-◌, Bool, true, false, not, ◌&&◌, ◌||◌, Option, Some, None, is_none, nat_eq, nat_lt, nat_le, length}
use Rattle.pct_model.specs.declared.event.What.{What}
use Rattle.pct_model.specs.declared.event.What.TheVariants as what
use Rattle.pct_model.specs.StopTable.{has_begun_to_end}
use Rattle.pct_laws.specs.Once.{is_pair, value_of_end}
use Rattle.pct_laws.specs.ThreadSummary.{ThreadSummary}
use Rattle.pct_audit.specs.declared.snapshot.Snapshot.{Snapshot}
use Rattle.pct_audit.specs.Stacks.{newest}

-- there is a newest handler, and it is this one
abbrev pub is_newest : ℕ → ℕ → Option (ℕ × ℕ) → Bool
is_newest f a (Some handler) = is_pair f a handler
is_newest f a None = false

-- whether an event of a thread may come: `destroyed` says that its key had a destructor called in the pass
unfoldable pub allows : ℕ → What → Snapshot → Bool → Bool
allows passes (what.Popped f a run) t destroyed = is_newest f a t.newest && (not (has_begun_to_end t.reason) || nat_lt t.left t.pushed)
allows passes (what.HandlerRun f a) t destroyed = is_newest f a t.newest && has_begun_to_end t.reason && nat_eq t.pushed t.left
allows passes (what.EndingExit v) t destroyed = not (has_begun_to_end t.reason)
allows passes what.EndingCanceled t destroyed = not (has_begun_to_end t.reason)
allows passes (what.EndingInWait c m) t destroyed = not (has_begun_to_end t.reason)
allows passes (what.EndedWith v) t destroyed = has_begun_to_end t.reason && is_none t.ended && nat_eq t.pushed 0 && nat_eq v (value_of_end t.reason)
allows passes (what.PassBegun n) t destroyed = has_begun_to_end t.reason && nat_eq t.pushed 0 && (nat_lt 0 n && nat_eq (n - 1) t.passes) && nat_le n passes
allows passes (what.DtorRun pass key f v) t destroyed = nat_eq pass t.passes && nat_lt 0 pass && nat_eq t.pushed 0 && not destroyed
allows passes (what.Leftover n) t destroyed = nat_lt 0 n && nat_eq t.passes passes
allows passes _ t destroyed = true

-- what is read of a thread
abbrev pub snapshot_of : ThreadSummary → Snapshot
snapshot_of s = record { newest = newest s.handlers; pushed = length s.handlers; left = length s.left; reason = s.reason; ended = s.ended; passes = s.passes }
