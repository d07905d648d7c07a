-- The entries that a machine accepts, and what their steps cost.
use Rattle.std.specs.Prelude.{ℕ, ◌&&◌, if◌then◌else◌, List, Option, Some, None, find, is_none, nat_le}
use Rattle.std.specs.Option.{option_map_or}
use Rattle.pct_model.specs.declared.limits.TheConstants.{MAX_WORKER}
use Rattle.pct_model.specs.declared.schedule.Config.{Config}
use Rattle.pct_model.specs.declared.schedule.Entry.{Entry}
use Rattle.pct_model.specs.declared.script.Script.{Script}
use Rattle.pct_model.specs.declared.transition.Transition.{Transition}
use Rattle.pct_engine_laws.specs.Seen.{Seen, SeenProcess, is_live_seen}
use Rattle.pct_engine_laws.specs.SeenSteps.{seen_transition}
use Rattle.pct_actions.specs.ProcessChanges.{woken}

-- the transition of an entry, if the entry is legal
abbrev pub legal_transition : Script → Config → Seen → Entry → Option Transition
legal_transition script config v e = if is_none v.stop && nat_le e.worker MAX_WORKER then seen_transition script config v e else None

-- the number of threads that the step of a thread of process pid unblocks by a broadcast, where it takes this transition, if it takes one
abbrev pub woken_in : ℕ → Option Transition → List SeenProcess → ℕ
woken_in pid None processes = 0
woken_in pid (Some o) processes = option_map_or (λ p. woken o.named p.slots) (find (is_live_seen pid) processes) 0
