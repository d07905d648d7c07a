-- Runs: the steps of a schedule from the initial state. The events of a run are its trace; a state is reachable if some
-- run ends in it; a property of all reachable states is an invariant. The verdict classifies the state after a run.
use Rattle.std.specs.Prelude.{ℕ, suc, Bool, not, ◌&&◌, if◌then◌else◌, List, [], ◌∷◌, ◌++◌, length, map, reverse, Option, Some, None, nat_eq, nat_le, option_map, option_and_then}
use Rattle.std.specs.List.{list_all, list_any}
use Rattle.std.specs.Option.{option_map_or}
use Rattle.pct_model.specs.declared.script.Script.{Script}
use Rattle.pct_model.specs.declared.schedule.Config.{Config}
use Rattle.pct_model.specs.declared.schedule.Entry.{Entry}
use Rattle.pct_model.specs.declared.event.Event.{Event}
use Rattle.pct_model.specs.declared.event.What.{What}
use Rattle.pct_model.specs.declared.limits.TheConstants.{MAX_BUDGET, MIN_PASSES, MAX_PASSES, MAX_SLOTS}
use Rattle.pct_model.specs.declared.stop.Why.{Why}
use Rattle.pct_model.specs.declared.stop.Verdict.{Verdict}
use Rattle.pct_model.specs.declared.stop.Verdict.TheVariants.{Complete, Deadlock, Budget, Undefined, Open}
use Rattle.pct_model.specs.World.{Thread, Process, World, opening}
use Rattle.pct_model.specs.ThreadSlots.{holds_slot}
use Rattle.pct_model.specs.ChoiceTable.{choices_of, is_enabled}
use Rattle.pct_model.specs.Actions.{has_ended}
use Rattle.pct_model.specs.Step.{step}

-- a state and a trace: the events that led to the state, newest first
pub record Run : Type 0 where
  pub world : World
  pub events : List Event

-- the event of a step of an entry
abbrev pub event_of : Entry → What → Event
event_of e what = record { pid = e.pid; tid = e.tid; what = what }

-- the run with one more entry, if it is legal
unfoldable pub run_step : Script → Config → Run → Entry → Option Run
run_step script config r e = option_map (λ s. record { world = s.world; events = map (event_of e) (reverse s.events) ++ r.events }) (step script config r.world e)

-- the run with more entries, if each is legal at its turn
unfoldable pub run_from : Script → Config → Run → List Entry → Option Run
run_from script config r [] = Some r
run_from script config r (e ∷ entries) = option_and_then (λ next. run_from script config next entries) (run_step script config r e)

-- the number of the first entry that is not legal at its turn, counted from 1
unfoldable pub illegal_in : Script → Config → Run → List Entry → Option ℕ
illegal_in script config r [] = None
illegal_in script config r (e ∷ entries) = option_map_or (λ next. option_map suc (illegal_in script config next entries)) (run_step script config r e) (Some 1)

-- the number of the first entry of a schedule that is not legal at its turn; neither the budget nor the limits on the
-- configuration are considered
abbrev pub first_illegal : Script → Config → List Entry → Option ℕ
first_illegal script config entries = illegal_in script config (record { world = opening script; events = [] }) entries

-- the configuration is within the limits
abbrev pub is_config : Config → Bool
is_config c = nat_le 1 c.budget && nat_le c.budget MAX_BUDGET && nat_le MIN_PASSES c.passes && nat_le c.passes MAX_PASSES && nat_le 1 c.slots && nat_le c.slots MAX_SLOTS

-- the run of a schedule, if each entry is legal at its turn and the schedule is within the budget
unfoldable pub run : Script → Config → List Entry → Option Run
run script config entries =
    if is_config config && nat_le (length entries) config.budget
    then run_from script config (record { world = opening script; events = [] }) entries
    else None

-- ---- the verdict

-- the thread holds its slot and is enabled
abbrev pub is_ready : Script → Config → World → Process → Thread → Bool
is_ready script config w p t = holds_slot t && is_enabled (choices_of script config w p t)

-- the process has not ended, and one of its threads is ready
abbrev pub has_ready : Script → Config → World → Process → Bool
has_ready script config w p = not (has_ended p) && list_any (is_ready script config w p) p.threads

-- the verdict, by the stop of the run
abbrev pub verdict_by : Option Why → Script → Config → World → ℕ → Verdict
verdict_by (Some why) script config w n = Undefined why
verdict_by None script config w n =
    if list_all has_ended w.processes then Complete
    else if not (list_any (has_ready script config w) w.processes) then Deadlock
    else if nat_eq n config.budget then Budget
    else Open

-- the verdict of a run with n entries that ends in this state: a stop, else complete, else deadlock, else budget, else
-- open
unfoldable pub verdict_of : Script → Config → World → ℕ → Verdict
verdict_of script config w n = verdict_by w.stop script config w n
