-- The newest event of a thread. The events are listed newest first, as in the trace of a run.
use Rattle.std.specs.Prelude.{ℕ, Bool, false, if◌then◌else◌, List, [], ◌∷◌, Option, Some, None, nat_eq}
use Rattle.std.specs.Option.{option_map_or}
use Rattle.pct_model.specs.declared.event.Event.{Event}
use Rattle.pct_model.specs.declared.event.What.{What}
use Rattle.pct_model.specs.declared.event.What.TheVariants as what
use Rattle.pct_laws.specs.KnownThreads.{is_own}

-- the newest event of thread tid of process pid, if it has one
abbrev pub newest_event : ℕ → ℕ → List Event → Option What
newest_event pid tid [] = None
newest_event pid tid (e ∷ earlier) = if is_own pid tid e then Some e.what else newest_event pid tid earlier

-- thread tid of process pid has an event, and the newest passes a test
abbrev pub newest_is : (What → Bool) → ℕ → ℕ → List Event → Bool
newest_is test pid tid events = option_map_or test (newest_event pid tid events) false

-- the event is a call of the cancellation point with an index
abbrev pub reports_call : ℕ → What → Bool
reports_call index (what.Called i) = nat_eq i index
reports_call index _ = false
