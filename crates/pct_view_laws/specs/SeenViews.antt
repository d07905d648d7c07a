-- What is shown of a state, from what an engine keeps of it.
use Rattle.std.specs.Prelude.{◌≡◌, ℕ, ◌<◌, if◌then◌else◌, List, [], map, filter, flat_map, find, Option, is_some, option_and_then, option_map}
use Rattle.pct_model.specs.declared.schedule.Config.{Config}
use Rattle.pct_model.specs.declared.schedule.Entry.{Entry}
use Rattle.pct_model.specs.declared.script.Script.{Script}
use Rattle.pct_model.specs.Formats.{has_timeouts}
use Rattle.pct_model.specs.NextStatement.{next_of}
use Rattle.pct_model.specs.OtherProcesses.{Family}
use Rattle.pct_model.specs.World.{Thread, World}
use Rattle.pct_engine_laws.specs.Seen.{SeenSlot, SeenProcess, Seen, seen, family_in, is_live_seen}
use Rattle.pct_engine_laws.specs.SeenSteps.{choices_in, environment_in, thread_with}
use Rattle.pct_view_laws.specs.declared.position.StepStart.{StepStart}
use Rattle.pct_view_laws.specs.Listed.{ListedThread, is_unended, listed_threads}
use Rattle.pct_view_laws.specs.TracedSteps.{start_of, start_in}
use Rattle.pct_view_laws.specs.Waits.{wait_by}

module _ (script : Script) (config : Config) (family : Family) (p : SeenProcess) where
  -- a thread of a process, which sees these other processes, as it is listed
  abbrev pub listed_in : Thread → ListedThread
  listed_in t = record {
    pid = p.pid;
    thread = t;
    choices = choices_in script (has_timeouts config.format) config.slots family p t;
    wait = wait_by p.shared (environment_in (has_timeouts config.format) config.slots family p.slots t.id) (choices_in script (has_timeouts config.format) config.slots family p t) (next_of script t.frames) t.status;
  }

  -- the threads on a slot of the process, which has not ended, that have not ended
  abbrev pub listed_on : SeenSlot → List ListedThread
  listed_on s = map listed_in (filter is_unended s.here)

  -- those of the process
  abbrev pub listed_process : List ListedThread
  listed_process = if is_some p.ended then [] else flat_map listed_on p.slots

-- those of all processes
unfoldable pub listed_seen : Script → Config → Seen → List ListedThread
listed_seen script config v = flat_map (λ p. listed_process script config (family_in v p.pid) p) v.processes

-- where the step of an entry begins
abbrev pub start_seen : ℕ → Seen → Entry → Option StepStart
start_seen slots v e = option_map start_of (option_and_then (λ p. thread_with slots e.tid p.slots) (find (is_live_seen e.pid) v.processes))

-- ---- the theorems

-- what is listed of a state depends only on what is kept of it
abbrev pub ListedIsSeen : Type 0
ListedIsSeen = (script : Script) (config : Config) (w : World) → 0 < config.slots → listed_threads script config w ≡ listed_seen script config (seen config.slots w)

-- and so does where a step begins
abbrev pub StartIsSeen : Type 0
StartIsSeen = (slots : ℕ) (w : World) (e : Entry) → 0 < slots → start_in w e ≡ start_seen slots (seen slots w) e
