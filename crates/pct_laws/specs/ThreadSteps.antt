-- What a step does to the thread that makes it, for the laws that speak of steps; and what holds of each step of a run.
use Rattle.std.specs.Prelude.{◌≡◌, ℕ, List, ◌∷◌, ◌++◌, Some}
use Rattle.pct_model.specs.declared.event.Event.{Event}
use Rattle.pct_model.specs.declared.event.What.{What}
use Rattle.pct_model.specs.declared.script.Script.{Script}
use Rattle.pct_model.specs.declared.schedule.Config.{Config}
use Rattle.pct_model.specs.declared.schedule.Entry.{Entry}
use Rattle.pct_model.specs.Run.{Run, run}
use Rattle.pct_model.specs.Step.{Legal, legal_step}
use Rattle.pct_model.specs.World.{Thread, Process, made_process, made_thread}

-- a step: its process and its thread, by their ids, and each before and after it; the events before it, newest first, and its own events
pub record ThreadStep : Type 0 where
  pub pid : ℕ
  pub tid : ℕ
  pub earlier : List Event
  pub process : Process
  pub before : Thread
  pub process_after : Process
  pub after : Thread
  pub events : List What

-- an entry is legal after a run, and this is the step that it makes
pub record IsThreadStep (script : Script) (config : Config) (r : Run) (e : Entry) (s : ThreadStep) : Type 0 where
  pub legal : Legal script config r.world e
  pub pid : e.pid ≡ s.pid
  pub tid : e.tid ≡ s.tid
  pub earlier : r.events ≡ s.earlier
  pub process : legal.process ≡ s.process
  pub before : legal.thread ≡ s.before
  pub process_after : made_process e.pid (legal_step script config r.world e legal).world ≡ Some s.process_after
  pub after : made_thread e.pid e.tid (legal_step script config r.world e legal).world ≡ Some s.after
  pub events : (legal_step script config r.world e legal).events ≡ s.events

-- the fact is true of each step of the run of a schedule
abbrev pub EachStep : Script → Config → List Entry → (ThreadStep → Type 0) → Type 0
EachStep script config entries Holds =
    (before after : List Entry) (e : Entry) (r : Run) (s : ThreadStep)
    → before ++ e ∷ after ≡ entries → run script config before ≡ Some r → IsThreadStep script config r e s → Holds s

-- each entry of a schedule with a run makes a step, so a fact that is true of each step is one of each entry
abbrev pub EachHasStep : Script → Config → List Entry → Type 0
EachHasStep script config entries =
    (before after : List Entry) (e : Entry) → before ++ e ∷ after ≡ entries
    → (r : Run) × ((run script config before ≡ Some r) × ((s : ThreadStep) × IsThreadStep script config r e s))
