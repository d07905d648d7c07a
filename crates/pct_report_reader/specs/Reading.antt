-- Reading a report: its configuration and the places of its event lines, or its first fault. A fault is the number of the line that is
-- refused, and the reason.
use Rattle.std.specs.Prelude.{ℕ, ◌+◌, Bool, false, ◌&&◌, if◌then◌else◌, List, [], ◌∷◌, length, map, Option, Some, None, Result, Ok, Err}
use Rattle.std.specs.Prelude.{bytes_eq, codes}
use Rattle.std.specs.List.{list_any}
use Rattle.pct_model.specs.declared.schedule.Config.{Config}
use Rattle.pct_model.specs.declared.schedule.Format.{Format}
use Rattle.pct_model.specs.declared.schedule.Format.TheVariants as format
use Rattle.pct_model.specs.declared.keyword.Keyword.TheVariants as keyword
use Rattle.pct_model.specs.Keywords.{keyword_text}
use Rattle.pct_model.specs.Lines.{lines_of, number_of, split_once, strip_cr, words_of}
use Rattle.pct_model.specs.Schedule.{Schedule, begins, schedule_from}
use Rattle.pct_expect.specs.declared.span.Span.{Span}
use Rattle.pct_report_reader.specs.declared.fault.ReportWhy.{ReportWhy}
use Rattle.pct_report_reader.specs.declared.fault.ReportWhy.TheVariants as why
use Rattle.pct_report_reader.specs.Texts.{event_forms, has_form, is_positive, verdict_forms}

-- a value, or a fault
abbrev pub Read : Type 0 → Type 0
Read A = Result A (ℕ × ReportWhy)

-- ---- lines

-- the format of a report with this first line: `report 1` or `report 2`
abbrev pub format_of_title : List ℕ → Option Format
format_of_title line =
    if bytes_eq line (codes "report 1") then Some format.One else if bytes_eq line (codes "report 2") then Some format.Two else None

-- two parts of a word are numbers that are not 0
abbrev pub are_positive : Option (List ℕ × List ℕ) → Bool
are_positive None = false
are_positive (Some parts) = is_positive (number_of parts.0) && is_positive (number_of parts.1)

-- the word is `PID.TID`: a process id and a thread id
unfoldable pub is_thread : List ℕ → Bool
is_thread word = are_positive (split_once 46 word)

-- the words are `PID.TID` and the text of an event
abbrev pub is_event_of_words : List (List ℕ) → Bool
is_event_of_words [] = false
is_event_of_words (thread ∷ words) = is_thread thread && list_any (has_form words) event_forms

-- the line is `PID.TID`, one space, and the text of an event, whose words are separated by one space
unfoldable pub is_event : List ℕ → Bool
is_event line = is_event_of_words (words_of line)

-- the line begins with `verdict `
abbrev pub begins_verdict : List ℕ → Bool
begins_verdict line = begins (keyword_text keyword.Verdict) line

-- the words are `verdict` and the text of a verdict
abbrev pub is_verdict_of_words : List (List ℕ) → Bool
is_verdict_of_words [] = false
is_verdict_of_words (title ∷ words) = bytes_eq (keyword_text keyword.Verdict) title && list_any (has_form words) verdict_forms

-- the line is `verdict`, one space, and the text of a verdict, whose words are separated by one space
unfoldable pub is_verdict : List ℕ → Bool
is_verdict line = is_verdict_of_words (words_of line)

-- the line begins with `schedule`, the number of the format, and a space
abbrev pub begins_schedule : Format → List ℕ → Bool
begins_schedule format.One line = begins (codes "schedule 1") line
begins_schedule format.Two line = begins (codes "schedule 2") line

-- ---- the configuration

-- the configuration of a schedule, whose lines are counted after these
abbrev pub config_after : ℕ → Schedule → Read Config
config_after before (Ok schedule) = Ok schedule.0
config_after before (Err fault) = Err (before + fault.0, why.BadSchedule)

-- the first of the lines begins as the header of a schedule of this format
abbrev pub schedule_follows : Format → List (List ℕ) → Bool
schedule_follows format [] = false
schedule_follows format (line ∷ lines) = begins_schedule format line

-- the configuration of the schedule in the lines after line n, which has to be of this format and begin with the first of them
abbrev pub schedule_after : Format → ℕ → List (List ℕ) → Read Config
schedule_after format n lines = if schedule_follows format lines then config_after n (schedule_from 1 lines) else Err (n + 1, why.BadSchedule)

-- what is read of a report down to its verdict: its format, the number of the verdict's line, and the lines after that line
pub record ReadBody : Type 0 where
  pub format : Format
  pub number : ℕ
  pub after : List (List ℕ)

-- the events and the verdict in the lines from line n on: each line before the first that begins with `verdict ` has to be an event, and
-- that line a verdict
unfoldable pub body_from : Format → ℕ → List (List ℕ) → Read ReadBody
body_from format n [] = Err (n, why.BadVerdict)
body_from format n (line ∷ lines) =
    if begins_verdict line
    then (if is_verdict line then Ok (record { format = format; number = n; after = lines }) else Err (n, why.BadVerdict))
    else (if is_event line then body_from format (n + 1) lines else Err (n, why.BadEvent))

-- the lines after the title, by the title's format
abbrev pub body_of : Option Format → List (List ℕ) → Read ReadBody
body_of None lines = Err (1, why.BadHeader)
body_of (Some format) lines = body_from format 2 lines

-- the title, the events and the verdict of a report
unfoldable pub body_in : List (List ℕ) → Read ReadBody
body_in [] = Err (1, why.BadHeader)
body_in (title ∷ lines) = body_of (format_of_title title) lines

-- the configuration of a report with this body
abbrev pub config_with : Read ReadBody → Read Config
config_with (Ok body) = schedule_after body.format body.number body.after
config_with (Err fault) = Err fault

-- ---- event lines

-- the event lines of the lines before the first that begins with `verdict `, each with the offset of its first byte; `offset` is that of
-- the first of these lines
unfoldable pub event_lines_from : ℕ → List (List ℕ) → List (ℕ × List ℕ)
event_lines_from offset [] = []
event_lines_from offset (line ∷ lines) =
    if begins_verdict (strip_cr line) then [] else (offset, strip_cr line) ∷ event_lines_from (offset + length line + 1) lines

-- the same of the lines after the title
abbrev pub event_lines_after_title : List (List ℕ) → List (ℕ × List ℕ)
event_lines_after_title [] = []
event_lines_after_title (title ∷ lines) = event_lines_from (length title + 1) lines

-- the event lines of a report, each with the offset of its first byte
unfoldable pub event_lines : List ℕ → List (ℕ × List ℕ)
event_lines text = event_lines_after_title (lines_of text)

-- the part of the text with a line
abbrev pub span_of : ℕ × List ℕ → Span
span_of line = record { start = line.0; end = line.0 + length line.1 }

-- ---- reports

-- a configuration and the places of lines
abbrev pub with_lines : List (ℕ × List ℕ) → Read Config → Read (Config × List Span)
with_lines lines (Ok config) = Ok (config, map span_of lines)
with_lines lines (Err fault) = Err fault

-- the configuration of a report and the places of its event lines, or its first fault
unfoldable pub report_in : List ℕ → Read (Config × List Span)
report_in text = with_lines (event_lines text) (config_with (body_in (map strip_cr (lines_of text))))
