-- How many threads a run creates, and the ids that they get.
use Rattle.std.specs.Prelude.{◌≡◌, ℕ, ◌+◌, ◌*◌, ◌≤◌, List, length, Some, All}
use Rattle.pct_model.specs.declared.script.Script.{Script}
use Rattle.pct_model.specs.declared.schedule.Config.{Config}
use Rattle.pct_model.specs.declared.schedule.Entry.{Entry}
use Rattle.pct_model.specs.World.{Thread}
use Rattle.pct_model.specs.ThreadSlots.{next_id}
use Rattle.pct_model.specs.Run.{Run, run}
use Rattle.pct_engine_laws.specs.Seen.{SeenSlot, SeenProcess, seen_slot, seen}

-- the id of the next thread on a slot follows from the number of threads ever made on it
abbrev pub NextIdIsSeen : Type 0
NextIdIsSeen = (slots s : ℕ) (threads : List Thread) → next_id slots threads s ≡ 1 + s + slots * (seen_slot slots threads s).made

-- at most n threads were ever made on each of these slots
abbrev pub MadeAtMost : ℕ → List SeenSlot → Type 0
MadeAtMost n rows = All (λ s. s.made ≤ n) rows

-- a run makes at most one thread for each entry, beside the initial one
abbrev pub FewThreadsMade : Type 0
FewThreadsMade = (script : Script) (config : Config) (entries : List Entry) (after : Run) → run script config entries ≡ Some after → All (λ (p : SeenProcess). MadeAtMost (1 + length entries) p.slots) (seen config.slots after.world).processes
