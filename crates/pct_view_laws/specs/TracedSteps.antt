-- The steps of a run: where each begins, its entry and its events.
use Rattle.std.specs.Prelude.{◌≡◌, List, [], ◌∷◌, map, reverse, flat_map, find, Option, Some, slice_get, option_and_then, option_map}
use Rattle.std.specs.Option.{option_map_or}
use Rattle.pct_model.specs.declared.event.Event.{Event}
use Rattle.pct_model.specs.declared.event.What.{What}
use Rattle.pct_model.specs.declared.frame.Frame.{Frame}
use Rattle.pct_model.specs.declared.schedule.Config.{Config}
use Rattle.pct_model.specs.declared.schedule.Entry.{Entry}
use Rattle.pct_model.specs.declared.script.Script.{Script}
use Rattle.pct_model.specs.declared.statement.Stmt.{Stmt}
use Rattle.pct_model.specs.Actions.{is_live_process}
use Rattle.pct_model.specs.Run.{Run, run, event_of}
use Rattle.pct_model.specs.Step.{step}
use Rattle.pct_model.specs.ThreadSlots.{with_id}
use Rattle.pct_model.specs.World.{Thread, World, opening}
use Rattle.pct_view_laws.specs.declared.position.Position.{Position}
use Rattle.pct_view_laws.specs.declared.position.StepStart.{StepStart}

-- ---- where a thread is

-- the position of a frame
abbrev pub position_in : Frame → Position
position_in frame = record { func = frame.func; pc = frame.pc }

-- the position of a thread: that of its top frame, if it has frames
abbrev pub position_of : Thread → Option Position
position_of t = option_map position_in (slice_get t.frames 0)

-- the statement at a position
unfoldable pub statement_on : Script → Position → Option Stmt
statement_on script position = option_and_then (λ f. slice_get f.body position.pc) (slice_get script.funcs position.func)

-- where a step of a thread begins
abbrev pub start_of : Thread → StepStart
start_of t = record { status = t.status; position = position_of t }

-- the thread that an entry names, if it holds its slot in a process that has not ended
abbrev pub acting_thread : World → Entry → Option Thread
acting_thread w e = option_and_then (λ p. with_id e.tid p.threads) (find (is_live_process e.pid) w.processes)

-- where the step of an entry begins in a state
unfoldable pub start_in : World → Entry → Option StepStart
start_in w e = option_map start_of (acting_thread w e)

-- ---- the steps of a run

-- a step: where it begins, its entry and its events
pub record TracedStep : Type 0 where
  pub start : Option StepStart
  pub entry : Entry
  pub events : List What

-- the steps of these entries from a state on, up to the first entry that is not legal at its turn
unfoldable pub steps_from : Script → Config → World → List Entry → List TracedStep
steps_from script config w [] = []
steps_from script config w (e ∷ entries) =
    option_map_or (λ s. record { start = start_in w e; entry = e; events = s.events } ∷ steps_from script config s.world entries) (step script config w e) []

-- the steps of a schedule from the initial state on
abbrev pub steps_of : Script → Config → List Entry → List TracedStep
steps_of script config entries = steps_from script config (opening script) entries

-- the events of a step
abbrev pub events_of : TracedStep → List Event
events_of s = map (event_of s.entry) s.events

-- ---- the theorem

-- the steps have the entries of the schedule and the events of its run, in order
pub record IsTraceOf (entries : List Entry) (after : Run) (steps : List TracedStep) : Type 0 where
  pub entries_are : map (λ (s : TracedStep). s.entry) steps ≡ entries
  pub events_are : flat_map events_of steps ≡ reverse after.events

-- so it is of each run
abbrev pub TracesRuns : Type 0
TracesRuns = (script : Script) (config : Config) (entries : List Entry) (after : Run) → run script config entries ≡ Some after → IsTraceOf entries after (steps_of script config entries)
