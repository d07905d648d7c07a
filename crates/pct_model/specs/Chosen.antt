-- The scheduler: the entry that two numbers choose. The first number chooses a thread among those that are ready, the second
-- one of its choices.
use Rattle.std.specs.Prelude.{ℕ, ◌%◌, if◌then◌else◌, List, [], length, map, filter, flat_map, Option, None, is_none, slice_get, option_map, option_and_then}
use Rattle.pct_model.specs.declared.script.Script.{Script}
use Rattle.pct_model.specs.declared.schedule.Alt.{Alt}
use Rattle.pct_model.specs.declared.schedule.Config.{Config}
use Rattle.pct_model.specs.declared.schedule.Entry.{Entry}
use Rattle.pct_model.specs.World.{Thread, Process, World}
use Rattle.pct_model.specs.ThreadSlots.{by_slot}
use Rattle.pct_model.specs.ChoiceTable.{choices_of, is_enabled}
use Rattle.pct_model.specs.Actions.{has_ended}

-- the item at an index modulo the length of a list; the empty list has none
abbrev pub item_at : {T : Type 0} → List T → ℕ → Option T
item_at items n = slice_get items (n % length items)

-- the threads of a process that are ready, by rising slot; a process that has ended has none
abbrev pub ready_of : Script → Config → World → Process → List Thread
ready_of script config w p = if has_ended p then [] else filter (λ t. is_enabled (choices_of script config w p t)) (by_slot config.slots p.threads)

-- a thread of a process, and its choices
pub record Candidate : Type 0 where
  pub pid : ℕ
  pub tid : ℕ
  pub choices : List Alt

-- a thread of a process as a candidate
abbrev pub candidate : Script → Config → World → Process → Thread → Candidate
candidate script config w p t = record { pid = p.pid; tid = t.id; choices = choices_of script config w p t }

-- the threads that are ready, by rising process id and then by rising slot
unfoldable pub candidates : Script → Config → World → List Candidate
candidates script config w = flat_map (λ p. map (candidate script config w p) (ready_of script config w p)) w.processes

-- the entry of a worker for a candidate, by the second number
abbrev pub entry_for : ℕ → ℕ → Candidate → Option Entry
entry_for worker b c = option_map (λ choice. record { worker = worker; pid = c.pid; tid = c.tid; alt = choice }) (item_at c.choices b)

-- the entry that a worker's two numbers choose, if the run was not stopped and a thread is ready
unfoldable pub chosen : Script → Config → World → (worker a b : ℕ) → Option Entry
chosen script config w worker a b = if is_none w.stop then option_and_then (entry_for worker b) (item_at (candidates script config w) a) else None
