-- The transition relation: which entries of a schedule are legal, and the step that a legal entry makes. An entry names
-- a thread and the scheduler's choice, so the step is a partial function of the state and the entry.
use Rattle.std.specs.Prelude.{◌≡◌, ◌≤◌, true, ◌&&◌, if◌then◌else◌, List, Option, Some, None, is_none, nat_le, option_map, option_and_then, find}
use Rattle.pct_model.specs.declared.script.Script.{Script}
use Rattle.pct_model.specs.declared.schedule.Config.{Config}
use Rattle.pct_model.specs.declared.schedule.Entry.{Entry}
use Rattle.pct_model.specs.declared.event.What.{What}
use Rattle.pct_model.specs.declared.limits.TheConstants.{MAX_WORKER}
use Rattle.pct_model.specs.declared.transition.Transition.{Transition}
use Rattle.pct_model.specs.World.{Thread, Process, World}
use Rattle.pct_model.specs.ThreadSlots.{with_id}
use Rattle.pct_model.specs.ChoiceTable.{choices_of, offers}
use Rattle.pct_model.specs.TransitionTable.{transition_by}
use Rattle.pct_model.specs.Actions.{is_live_process, after_transition}

-- an entry is legal in a state
pub record Legal (script : Script) (config : Config) (w : World) (e : Entry) : Type 0 where
  -- the process and the thread that the entry names
  pub process : Process
  pub thread : Thread
  -- the run was not stopped
  pub running : w.stop ≡ None
  -- the worker is within the limit
  pub worker : e.worker ≤ MAX_WORKER
  -- the process with this id has not ended
  pub live : find (is_live_process e.pid) w.processes ≡ Some process
  -- the thread with this id holds its slot
  pub holds : with_id e.tid process.threads ≡ Some thread
  -- the choice is one of the choices of the thread
  pub offered : offers (choices_of script config w process thread) e.alt ≡ true

-- the state after a step, and the events of the step; each row of the tables has at most three
pub record Successor : Type 0 where
  pub world : World
  pub events : List What

-- the step by a transition of the thread that an entry names
abbrev pub successor_of : World → Entry → Transition → Successor
successor_of w e o = record { world = after_transition e.pid e.tid o w; events = o.events }

-- the step of a legal entry
abbrev pub legal_step : (script : Script) (config : Config) (w : World) (e : Entry) → Legal script config w e → Successor
legal_step script config w e legal = successor_of w e (transition_by script config w legal.process legal.thread e.alt)

-- the entry is legal, and this is its step
abbrev pub IsLegalStep : Script → Config → World → Entry → Successor → Type 0
IsLegalStep script config w e s = (legal : Legal script config w e) × (legal_step script config w e legal ≡ s)

-- the transition of a thread by an entry, if its choice is offered
abbrev pub if_offered : Script → Config → World → Process → Entry → Thread → Option Transition
if_offered script config w p e t = if offers (choices_of script config w p t) e.alt then Some (transition_by script config w p t e.alt) else None

-- the transition that an entry takes, if a thread that holds its slot, of a process that has not ended, has the choice
abbrev pub transition_of : Script → Config → World → Entry → Option Transition
transition_of script config w e = option_and_then (λ p. option_and_then (if_offered script config w p e) (with_id e.tid p.threads)) (find (is_live_process e.pid) w.processes)

-- the step of an entry that is legal, else None: the tests are the facts of `Legal`, in their order
unfoldable pub step : Script → Config → World → Entry → Option Successor
step script config w e =
    if is_none w.stop && nat_le e.worker MAX_WORKER
    then option_map (successor_of w e) (transition_of script config w e)
    else None
