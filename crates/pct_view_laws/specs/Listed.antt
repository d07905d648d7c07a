-- The threads of a state that have not ended, and their legal entries.
use Rattle.std.specs.Prelude.{◌≡◌, ◌↔◌, ℕ, Bool, true, false, not, if◌then◌else◌, List, [], map, filter, flat_map, Contains, Option, Some, is_none, is_some}
use Rattle.pct_model.specs.declared.schedule.Alt.{Alt}
use Rattle.pct_model.specs.declared.schedule.Alt.TheVariants as alt
use Rattle.pct_model.specs.declared.schedule.Config.{Config}
use Rattle.pct_model.specs.declared.schedule.Entry.{Entry}
use Rattle.pct_model.specs.declared.script.Script.{Script}
use Rattle.pct_model.specs.Actions.{has_ended}
use Rattle.pct_model.specs.ChoiceTable.{choices_of, is_enabled, offers}
use Rattle.pct_model.specs.NextStatement.{next_of}
use Rattle.pct_model.specs.Environment.{environment_of}
use Rattle.pct_model.specs.Run.{Run, run}
use Rattle.pct_model.specs.Step.{Legal}
use Rattle.pct_model.specs.ThreadSlots.{by_slot, is_ended_status}
use Rattle.pct_model.specs.World.{Thread, Process, World}
use Rattle.pct_view_laws.specs.declared.wait.Wait.{Wait}
use Rattle.pct_view_laws.specs.Waits.{wait_by}

-- a thread as it is listed: the id of its process, the thread, its choices, and what it waits for
pub record ListedThread : Type 0 where
  pub pid : ℕ
  pub thread : Thread
  pub choices : List Alt
  pub wait : Option Wait

-- what a thread of a process waits for
abbrev pub wait_of : Script → Config → World → Process → Thread → Option Wait
wait_of script config w p t = wait_by p.shared (environment_of config w p t.id) (choices_of script config w p t) (next_of script t.frames) t.status

-- a thread of a process, as it is listed
abbrev pub listed_of : Script → Config → World → Process → Thread → ListedThread
listed_of script config w p t = record { pid = p.pid; thread = t; choices = choices_of script config w p t; wait = wait_of script config w p t }

-- the thread has not ended. The last thread of a process, which exits the process after its own end, is not an ended one here
abbrev pub is_unended : Thread → Bool
is_unended t = not (is_ended_status t.status)

-- the threads of a process that have not ended, by rising slot; a process that has ended has none (XSH _exit)
abbrev pub unended_of : Config → Process → List Thread
unended_of config p = if has_ended p then [] else filter is_unended (by_slot config.slots p.threads)

-- the threads that have not ended, by rising process id and then by rising slot
unfoldable pub listed_threads : Script → Config → World → List ListedThread
listed_threads script config w = flat_map (λ p. map (listed_of script config w p) (unended_of config p)) w.processes

-- the entry of a thread with worker 1, by a choice
abbrev pub entry_by : ListedThread → Alt → Entry
entry_by l choice = record { worker = 1; pid = l.pid; tid = l.thread.id; alt = choice }

-- the legal entries of a thread with worker 1, in the order of its choices; after a stop there are none
unfoldable pub entries_of : World → ListedThread → List Entry
entries_of w l = if is_none w.stop then map (entry_by l) l.choices else []

-- the legal entries of all threads with worker 1
abbrev pub listed_entries : Script → Config → World → List Entry
listed_entries script config w = flat_map (entries_of w) (listed_threads script config w)

-- ---- the theorems

-- the entries that are listed in a state are the legal ones with worker 1
abbrev pub AreLegalEntries : Script → Config → World → Type 0
AreLegalEntries script config w = (e : Entry) → Contains (listed_entries script config w) e ↔ ((e.worker ≡ 1) × Legal script config w e)

-- so it is after each run. The budget of the run is not considered
abbrev pub ListsLegalEntries : Type 0
ListsLegalEntries = (script : Script) (config : Config) (entries : List Entry) (after : Run) → run script config entries ≡ Some after → AreLegalEntries script config after.world

-- a thread that waits cannot go on, and one that has no choice waits
pub record IsBlockedIfWaiting (l : ListedThread) : Type 0 where
  pub blocked : is_some l.wait ≡ true → offers l.choices alt.Go ≡ false
  pub waits : is_enabled l.choices ≡ false → is_some l.wait ≡ true

-- so it is of each thread that is listed after a run
abbrev pub BlockedThreadsWait : Type 0
BlockedThreadsWait = (script : Script) (config : Config) (entries : List Entry) (after : Run) (l : ListedThread) → run script config entries ≡ Some after → Contains (listed_threads script config after.world) l → IsBlockedIfWaiting l
