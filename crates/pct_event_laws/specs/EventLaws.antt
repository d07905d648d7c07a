-- The laws of runs that are about events alone. Each but that of leftovers is a test of an event against those before it, so a list that
-- keeps it keeps it as far as any of its events.
use Rattle.std.specs.Prelude.{◌≡◌, ℕ, true, List}
use Rattle.pct_model.specs.declared.event.Event.{Event}
use Rattle.pct_model.specs.declared.schedule.Config.{Config}
use Rattle.pct_model.specs.declared.schedule.Entry.{Entry}
use Rattle.pct_model.specs.declared.script.Script.{Script}
use Rattle.pct_model.specs.Run.{Run}
use Rattle.pct_laws.specs.AfterEnd as AfterEnd
use Rattle.pct_laws.specs.CondLaw as CondLaw
use Rattle.pct_laws.specs.Each.{each}
use Rattle.pct_laws.specs.Ends.{is_leftover}
use Rattle.pct_laws.specs.FollowedEvents.{are_followed}
use Rattle.pct_laws.specs.JoinLaw as JoinLaw
use Rattle.pct_laws.specs.KeysLaw as KeysLaw
use Rattle.pct_laws.specs.KnownThreads.{reports_end}
use Rattle.pct_laws.specs.Laws.{Laws}
use Rattle.pct_laws.specs.Once as Once
use Rattle.pct_laws.specs.OnceLaw as OnceLaw
use Rattle.pct_laws.specs.ProcessLaw as ProcessLaw
use Rattle.pct_laws.specs.RanAll as RanAll
use Rattle.pct_laws.specs.RequestsLaw as RequestsLaw
use Rattle.pct_laws.specs.SlotLaw as SlotLaw

-- the laws of some events, newest first, with limits on the passes over destructors and on the slots of threads
pub record EventLaws (passes slots : ℕ) (events : List Event) : Type 0 where
  -- handlers and destructors, and that the handlers that ran are those that were open
  pub once : each (Once.allows passes) events ≡ true
  pub ran_all : each RanAll.allows events ≡ true
  -- what follows the end of a thread
  pub after_end : each AfterEnd.allows events ≡ true
  -- each event that values are left is directly followed by the end of its thread
  pub leftovers : are_followed is_leftover reports_end events ≡ true
  -- keys of destructors
  pub keys : each KeysLaw.allows events ≡ true
  -- requests, and what acts on them
  pub requests : each RequestsLaw.allows events ≡ true
  -- joins, and the threads that are named
  pub joins : each JoinLaw.allows events ≡ true
  -- mutexes and condition waits
  pub conds : each CondLaw.allows events ≡ true
  -- once controls
  pub controls : each OnceLaw.allows events ≡ true
  -- ids and slots of new threads
  pub creations : each (SlotLaw.allows slots) events ≡ true
  -- processes
  pub processes : each ProcessLaw.allows events ≡ true

-- a run that keeps the laws of runs keeps those of its events
abbrev pub LawsAreOfEvents : Type 0
LawsAreOfEvents = (script : Script) (config : Config) (entries : List Entry) (r : Run) → Laws script config entries r → EventLaws config.passes config.slots r.events
