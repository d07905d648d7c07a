-- What a note stands for.
use Rattle.std.specs.Prelude.{◌≡◌, ℕ, List}
use Rattle.pct_model.specs.declared.event.Event.{Event}
use Rattle.pct_model.specs.StopTable.{has_begun_to_end}
use Rattle.pct_laws.specs.CancelEvents.{is_requested, is_enabled_last}
use Rattle.pct_laws.specs.KnownThreads.{is_known}
use Rattle.pct_laws.specs.NewestEvents.{newest_event}
use Rattle.pct_laws.specs.ThreadSummary.{summary_of, thread_ended}
use Rattle.pct_thread_monitors.specs.declared.note.Note.{Note}

-- a note stands for thread tid of process pid
pub record IsNote (note : Note) (pid tid : ℕ) (events : List Event) : Type 0 where
  pub requested : note.requested ≡ is_requested pid tid events
  pub enabled : note.enabled ≡ is_enabled_last pid tid events
  pub begun : note.begun ≡ has_begun_to_end (summary_of pid tid events).reason
  pub exiting : note.exiting ≡ (summary_of pid tid events).exiting
  pub ended : note.ended ≡ thread_ended pid tid events
  pub known : note.known ≡ is_known pid tid events
  pub newest : note.newest ≡ newest_event pid tid events
