-- The law of cancellation: a thread is canceled only by a request, and only with cancelability enabled (XSH pthread_cancel, 2.9.5.1,
-- 2.9.5.3); a thread with cancelability enabled and a request pending returns from no function that it calls then and that shall be a
-- cancellation point, and is suspended in none: it acts on the request (XSH 2.9.5.2); with cancelability deferred it acts only at a
-- cancellation point (XSH 2.9.5.1, 2.9.5.2), and in a condition wait by the stages of the wait (XSH pthread_cond_wait); one that was
-- suspended before is awakened (XSH 2.9.5.2); and a thread that has begun to end enables cancelability no more (XSH 2.9.5.3). The
-- cancelability state and type of a thread change in its own steps only as their events say (XSH pthread_setcancelstate, 2.9.5.3).
use Rattle.std.specs.Prelude.{◌≡◌, if◌then◌else◌, Bool, true, false, not, ◌&&◌, ◌||◌, List, [], ◌∷◌}
use Rattle.std.specs.List.{list_any}
use Rattle.pct_model.specs.declared.event.Event.{Event}
use Rattle.pct_model.specs.declared.event.What.{What}
use Rattle.pct_model.specs.declared.event.What.TheVariants as what
use Rattle.pct_model.specs.declared.schedule.Alt.{Alt}
use Rattle.pct_model.specs.declared.schedule.Alt.TheVariants as alt
use Rattle.pct_model.specs.declared.schedule.Config.{Config}
use Rattle.pct_model.specs.declared.schedule.Entry.{Entry}
use Rattle.pct_model.specs.declared.script.Script.{Script}
use Rattle.pct_model.specs.declared.state.Cause.TheVariants as cause
use Rattle.pct_model.specs.declared.state.Mode.{Mode}
use Rattle.pct_model.specs.declared.state.Mode.TheVariants.{Asynchronous, Deferred}
use Rattle.pct_model.specs.declared.state.State.{State}
use Rattle.pct_model.specs.declared.state.State.TheVariants.{Disable, Enable}
use Rattle.pct_model.specs.declared.state.Status.{Status}
use Rattle.pct_model.specs.declared.state.Status.TheVariants as status
use Rattle.pct_model.specs.CancelCalls.{called_kind, is_required}
use Rattle.pct_model.specs.ChoiceTable.{choices_of}
use Rattle.pct_laws.specs.CancelEvents.{is_asynchronous_last, has_to_act}
use Rattle.pct_model.specs.NextStatement.{NextStatement, NoStatement, StatementIn, next_of}
use Rattle.pct_laws.specs.ThreadSteps.{ThreadStep, EachStep}
use Rattle.pct_laws.specs.Kept.{EachProcess, EachThreadOf}
use Rattle.pct_model.specs.StatusKinds.{is_at_cancellation_point}
use Rattle.pct_model.specs.Run.{Run}
use Rattle.pct_laws.specs.AfterAll.{after_all}
use Rattle.pct_laws.specs.Each.{each}
use Rattle.pct_laws.specs.RanAll.{leaves_all}
use Rattle.pct_laws.specs.RequestsLaw as RequestsLaw
use Rattle.pct_model.specs.World.{World}

-- ---- the law of a step

-- the event is that a thread acts on a request: it is canceled, or leaves its condition wait
abbrev pub is_cancellation : What → Bool
is_cancellation what.EndingCanceled = true
is_cancellation (what.WaitCanceled c) = true
is_cancellation _ = false

-- a thread acts on a request where it may: at a cancellation point, or anywhere if it set its cancelability asynchronous last
abbrev pub acts_where_it_may : Script → ThreadStep → Bool
acts_where_it_may script s =
    not (list_any is_cancellation s.events) || is_at_cancellation_point (next_of script s.before.frames) s.before.status || is_asynchronous_last s.pid s.tid s.earlier

-- a thread with this status runs
abbrev pub is_running : Status → Bool
is_running status.Running = true
is_running _ = false

-- the next statement calls a function that shall be a cancellation point
abbrev pub calls_required_point : NextStatement → Bool
calls_required_point NoStatement = false
calls_required_point (StatementIn frame s) = is_required (called_kind s)

-- the events of a step are that the thread is canceled, or a stop
abbrev pub acts_or_stops : List What → Bool
acts_or_stops (what.EndingCanceled ∷ []) = true
acts_or_stops (what.Stopped why ∷ []) = true
acts_or_stops _ = false

-- a thread that is to call a function that shall be a cancellation point, with a request to act upon, acts, unless the call is a misuse
-- that stops the run (XSH 2.9.5.2)
abbrev pub acts_at_calls : Script → ThreadStep → Bool
acts_at_calls script s =
    not (is_running s.before.status && calls_required_point (next_of script s.before.frames) && has_to_act s.pid s.tid s.earlier) || acts_or_stops s.events

-- the cancelability state of a thread after an event of its own: that of a pthread_setcancelstate, and disabled as the thread begins to end
-- (XSH pthread_setcancelstate, 2.9.5.3). That it is disabled as the thread begins to exit its process is a choice of this host
abbrev pub state_after : What → State → State
state_after (what.StateSet true) state = Enable
state_after (what.StateSet false) state = Disable
state_after w state = if leaves_all w then Disable else state

-- its type after such an event: that of a pthread_setcanceltype, and deferred as the thread begins to end (XSH pthread_setcancelstate,
-- 2.9.5.3). That it is deferred as the thread begins to exit its process is a choice of this host
abbrev pub mode_after : What → Mode → Mode
mode_after (what.ModeSet true) mode = Asynchronous
mode_after (what.ModeSet false) mode = Deferred
mode_after w mode = if leaves_all w then Deferred else mode

-- what a step does to the cancelability of its thread
pub record SetsCancelability (s : ThreadStep) : Type 0 where
  pub state : s.after.state ≡ after_all state_after s.events s.before.state
  pub mode : s.after.mode ≡ after_all mode_after s.events s.before.mode

-- ---- the law of a state

-- a thread with this status is suspended in a cancellation point, and has acted upon no request there
abbrev pub is_suspended : Status → Bool
is_suspended (status.AtPoint index) = true
is_suspended (status.Joining id) = true
is_suspended (status.InSem s) = true
is_suspended (status.InWaitPid pid) = true
is_suspended (status.Waiting c m) = true
is_suspended (status.Reacquire c m cause.Signalled) = true
is_suspended (status.Reacquire c m cause.Broadcast) = true
is_suspended (status.Reacquire c m cause.TimedOut) = true
is_suspended _ = false

-- the choice is to act upon a request
abbrev pub is_to_act : Alt → Bool
is_to_act (alt.Act n) = true
is_to_act _ = false

-- a thread that is suspended in a cancellation point, with cancelability enabled and a request pending, is awakened: it may act upon the
-- request (XSH 2.9.5.2)
abbrev pub Awakened : Script → Config → World → List Event → Type 0
Awakened script config w events =
    EachProcess w (λ pid p. EachThreadOf p (λ tid t. is_suspended t.status ≡ true → has_to_act pid tid events ≡ true → list_any is_to_act (choices_of script config w p t) ≡ true))

-- ---- the law

-- the law of cancellation, of the run of a schedule
pub record CancelLaw (script : Script) (config : Config) (entries : List Entry) (r : Run) : Type 0 where
  pub requests : each RequestsLaw.allows r.events ≡ true
  pub acts : EachStep script config entries (λ s. acts_where_it_may script s ≡ true)
  pub at_calls : EachStep script config entries (λ s. acts_at_calls script s ≡ true)
  pub set : EachStep script config entries SetsCancelability
  pub awakened : Awakened script config r.world r.events
