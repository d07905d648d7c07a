-- The laws on the schedule and the prefix in a text.
use Rattle.std.specs.Prelude.{◌≡◌, ℕ, ◌+◌, ◌<◌, List, length, Ok, Err}
use Rattle.pct_model.specs.declared.schedule.Config.{Config}
use Rattle.pct_model.specs.declared.schedule.Entry.{Entry}
use Rattle.pct_model.specs.declared.schedule.Format.{Format}
use Rattle.pct_model.specs.declared.refusal.ScheduleWhy.{ScheduleWhy}
use Rattle.pct_model.specs.declared.refusal.ScheduleWhy.TheVariants as why
use Rattle.pct_model.specs.Lines.{lines_of}
use Rattle.pct_model.specs.Schedule.{sched_of}
use Rattle.pct_schedule.specs.Prefix.{prefix_of}

-- a text with a schedule has the same prefix
abbrev pub SchedulesArePrefixes : Type 0
SchedulesArePrefixes = (format : Format) (text : List ℕ) (schedule : Config × List Entry) → sched_of text ≡ Ok schedule → prefix_of format text ≡ Ok schedule

-- a fault of the prefix in a text is that of the schedule in it
abbrev pub PrefixFaultsAreScheduleFaults : Type 0
PrefixFaultsAreScheduleFaults = (format : Format) (text : List ℕ) (fault : ℕ × ScheduleWhy) → prefix_of format text ≡ Err fault → sched_of text ≡ Err fault

-- where a text that is not empty has a prefix but no schedule, the last line is missing: the fault is that the line after
-- all lines of the text is not `end N`
abbrev pub OnlyTheEndIsMissing : Type 0
OnlyTheEndIsMissing =
    (format : Format) (text : List ℕ) (prefix : Config × List Entry) (fault : ℕ × ScheduleWhy)
    → 0 < length text → prefix_of format text ≡ Ok prefix → sched_of text ≡ Err fault → fault ≡ (length (lines_of text) + 1, why.BadEnd)
