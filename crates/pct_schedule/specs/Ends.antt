-- What the reader gives where the line `end N` is required, and where it may be missing.
use Rattle.std.specs.Prelude.{ℕ, List, map}
use Rattle.pct_model.specs.declared.schedule.Config.{Config}
use Rattle.pct_model.specs.declared.schedule.Entry.{Entry}
use Rattle.pct_model.specs.Lines.{lines_of, strip_cr}
use Rattle.pct_model.specs.Schedule.{Read, Schedule, entries_from, sched_of}
use Rattle.pct_schedule.specs.declared.end.End.{End}
use Rattle.pct_schedule.specs.declared.end.End.TheVariants as end
use Rattle.pct_schedule.specs.Prefix.{prefix_entries_from, prefix_from}

-- the entries of the lines from line n on, to this end
abbrev pub entries_to : End → (n : ℕ) → Config → (k : ℕ) → List (List ℕ) → Read (List Entry)
entries_to end.Required n config k lines = entries_from n config k lines
entries_to end.Optional n config k lines = prefix_entries_from n config k lines

-- the configuration and the entries in a text, to this end
abbrev pub schedule_to : End → List ℕ → Schedule
schedule_to end.Required text = sched_of text
schedule_to end.Optional text = prefix_from 1 (map strip_cr (lines_of text))
