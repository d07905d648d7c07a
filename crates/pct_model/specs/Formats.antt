-- The formats of schedules and reports. A run has texts of format 2 exactly if its script has a wait with a time, or declares a once
-- control: format 1 knows neither, so that texts of format 1 stay as they are.
use Rattle.std.specs.Prelude.{ℕ, Bool, true, false, ◌||◌, if◌then◌else◌, length, nat_lt}
use Rattle.std.specs.List.{list_any}
use Rattle.pct_model.specs.declared.schedule.Alt.{Alt}
use Rattle.pct_model.specs.declared.schedule.Alt.TheVariants as alt
use Rattle.pct_model.specs.declared.schedule.Config.{Config}
use Rattle.pct_model.specs.declared.schedule.Format.{Format}
use Rattle.pct_model.specs.declared.schedule.Format.TheVariants as format
use Rattle.pct_model.specs.declared.script.Script.{Script}
use Rattle.pct_model.specs.declared.statement.Stmt.{Stmt}
use Rattle.pct_model.specs.declared.statement.Stmt.TheVariants as statement

-- the number of a format, as texts have it
abbrev pub format_number : Format → ℕ
format_number format.One = 1
format_number format.Two = 2

-- the time of a wait may expire in a run with texts of this format
abbrev pub has_timeouts : Format → Bool
has_timeouts format.One = false
has_timeouts format.Two = true

-- a schedule of this format may have the choice
abbrev pub has_choice : Format → Alt → Bool
has_choice format alt.Expire = has_timeouts format
has_choice format choice = true

-- the statement is a wait with a time (XSH pthread_cond_timedwait, sem_timedwait)
abbrev pub is_timed : Stmt → Bool
is_timed (statement.CondTimedWait result c m) = true
is_timed (statement.SemTimedWait result s) = true
is_timed _ = false

-- the format of the texts of a script
unfoldable pub format_of : Script → Format
format_of script = if list_any (λ f. list_any is_timed f.body) script.funcs || nat_lt 0 (length script.onces) then format.Two else format.One

-- the configuration, with the format of the script
abbrev pub config_for : Script → Config → Config
config_for script config = record config { format = format_of script }
