-- The tables of the names that were read. No public clause cites this file.
use Rattle.std.specs.Prelude.{◌≡◌, ◌+◌, ℕ, Some}
use Rattle.pct_model.specs.EventTexts.{EventNames}
use Rattle.pct_name_numbers.specs.EventReading.{Reading}
use Rattle.pct_name_numbers.specs.Numbering.{IsNumbering, count_of}
use Rattle.pct_event_reader.specs.declared.numbers.EventNumbers.{EventNumbers}

-- how many names the tables have
abbrev pub name_count : EventNumbers → ℕ
name_count table = count_of table.functions + count_of table.mutexes + count_of table.conds + count_of table.sems + count_of table.onces

-- the tables number exactly these names
pub record IsNumberings (table : EventNumbers) (names : EventNames) : Type 0 where
  pub functions : IsNumbering table.functions names.functions
  pub mutexes : IsNumbering table.mutexes names.mutexes
  pub conds : IsNumbering table.conds names.conds
  pub sems : IsNumbering table.sems names.sems
  pub onces : IsNumbering table.onces names.onces

-- what is read is this value, and the tables number the names after it
abbrev pub Numbers : {A : Type 0} → Reading A → EventNumbers → A → Type 0
Numbers read table a = (names : EventNames) × (read ≡ Some (names, a)) × IsNumberings table names
