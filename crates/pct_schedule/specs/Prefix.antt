-- Parsing a prefix of a schedule: the text of a schedule in which the last line, `end N`, may be missing. A fault is the
-- number of the line that is refused, and the reason.
use Rattle.std.specs.Prelude.{ℕ, ◌+◌, if◌then◌else◌, List, [], ◌∷◌, map, Option, Some, None, Ok, Err}
use Rattle.pct_model.specs.declared.schedule.Config.{Config}
use Rattle.pct_model.specs.declared.schedule.Entry.{Entry}
use Rattle.pct_model.specs.declared.schedule.Format.{Format}
use Rattle.pct_model.specs.declared.refusal.ScheduleWhy.TheVariants as why
use Rattle.pct_model.specs.declared.keyword.Keyword.TheVariants as keyword
use Rattle.pct_model.specs.Keywords.{keyword_text}
use Rattle.pct_model.specs.Lines.{lines_of, strip_cr}
use Rattle.pct_model.specs.RunOptions.{default_config}
use Rattle.pct_model.specs.Schedule.{Read, Schedule, begins, header_of, entry_in, read_entry, read_end, prepend_entry, with_config}

-- the entries of the lines from line n on, with k entries before them: each line before the first that begins with `end `
-- is an entry; without such a line, the entries go to the end of the text
unfoldable pub prefix_entries_from : (n : ℕ) → Config → (k : ℕ) → List (List ℕ) → Read (List Entry)
prefix_entries_from n config k [] = Ok []
prefix_entries_from n config k (line ∷ lines) =
    if begins (keyword_text keyword.End) line
    then read_end n k line lines
    else prepend_entry (read_entry n config.budget k (entry_in config.format line)) (prefix_entries_from (n + 1) config (k + 1) lines)

-- the prefix with line n as its header, and the lines after it
abbrev pub prefix_at : ℕ → Option Config → List (List ℕ) → Schedule
prefix_at n None lines = Err (n, why.BadHeader)
prefix_at n (Some config) lines = with_config config (prefix_entries_from (n + 1) config 0 lines)

-- the prefix in the lines from line n on: its header is the first line that begins with `schedule `; without one,
-- line 1 is refused
unfoldable pub prefix_from : ℕ → List (List ℕ) → Schedule
prefix_from n [] = Err (1, why.BadHeader)
prefix_from n (line ∷ lines) = if begins (keyword_text keyword.Schedule) line then prefix_at n (header_of line) lines else prefix_from (n + 1) lines

-- the prefix in a text: no entry under the default configuration with a format, if the text has no byte; lines before its header are
-- skipped, so the text may be a whole report
unfoldable pub prefix_of : Format → List ℕ → Schedule
prefix_of format [] = Ok (record default_config { format = format }, [])
prefix_of format (b ∷ bytes) = prefix_from 1 (map strip_cr (lines_of (b ∷ bytes)))
