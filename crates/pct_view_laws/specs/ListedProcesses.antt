-- The processes of a state that have not ended, and their threads that have not ended.
use Rattle.std.specs.Prelude.{◌≡◌, ℕ, ◌<◌, not, if◌then◌else◌, List, [], ◌∷◌, map, filter, flat_map, is_some}
use Rattle.pct_model.specs.declared.schedule.Config.{Config}
use Rattle.pct_model.specs.Actions.{has_ended}
use Rattle.pct_model.specs.World.{Thread, SharedState, Process, World}
use Rattle.pct_engine_laws.specs.Seen.{SeenProcess, Seen, seen, threads_on}
use Rattle.pct_view_laws.specs.Listed.{is_unended, unended_of}

-- a process as it is listed: its id, the state that its threads share, and its threads that have not ended, by rising slot
pub record ListedProcess : Type 0 where
  pub pid : ℕ
  pub shared : SharedState
  pub threads : List Thread

-- a process, as it is listed
abbrev pub process_of : Config → Process → ListedProcess
process_of config p = record { pid = p.pid; shared = p.shared; threads = unended_of config p }

-- the processes that have not ended, by rising id
unfoldable pub listed_processes : Config → World → List ListedProcess
listed_processes config w = map (process_of config) (filter (λ p. not (has_ended p)) w.processes)

-- ---- from what an engine keeps of a state

-- a process that has not ended, as it is listed
abbrev pub process_in : SeenProcess → ListedProcess
process_in p = record { pid = p.pid; shared = p.shared; threads = filter is_unended (threads_on p.slots) }

-- the processes that have not ended
unfoldable pub processes_seen : Seen → List ListedProcess
processes_seen v = flat_map (λ p. if is_some p.ended then [] else process_in p ∷ []) v.processes

-- ---- the theorem

-- the processes that are listed, and their threads, depend only on what is kept of the state
abbrev pub ProcessesAreSeen : Type 0
ProcessesAreSeen = (config : Config) (w : World) → 0 < config.slots → listed_processes config w ≡ processes_seen (seen config.slots w)
