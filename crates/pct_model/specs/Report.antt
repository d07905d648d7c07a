-- The report of a run: its trace, its verdict and its schedule, as text.
use Rattle.std.specs.Prelude.{ℕ, List, [], ◌∷◌, ◌++◌, length, map, reverse, Option, decimal, option_map}
use Rattle.pct_model.specs.declared.script.Script.{Script}
use Rattle.pct_model.specs.declared.schedule.Alt.{Alt}
use Rattle.pct_model.specs.declared.schedule.Alt.TheVariants as alt
use Rattle.pct_model.specs.declared.schedule.Config.{Config}
use Rattle.pct_model.specs.declared.schedule.Entry.{Entry}
use Rattle.pct_model.specs.declared.event.Event.{Event}
use Rattle.pct_model.specs.declared.stop.Verdict.{Verdict}
use Rattle.pct_model.specs.declared.stop.Verdict.TheVariants as verdict
use Rattle.pct_model.specs.declared.keyword.Keyword.TheVariants as keyword
use Rattle.pct_model.specs.Formats.{format_number}
use Rattle.pct_model.specs.Keywords.{keyword_text, text_of}
use Rattle.pct_model.specs.Run.{Run, run, verdict_of}
use Rattle.pct_model.specs.StopTexts.{stop_words}
use Rattle.pct_model.specs.EventTexts.{event_names, event_words}

-- ---- events

-- the process id and the thread id, separated by a dot
unfoldable pub thread_text : ℕ → ℕ → List ℕ
thread_text pid tid = decimal pid ++ 46 ∷ decimal tid

-- the line of an event
unfoldable pub event_line : Script → Event → List (List ℕ)
event_line script e = thread_text e.pid e.tid ∷ event_words (event_names script) e.what

-- ---- schedules

-- the text of a choice
unfoldable pub alt_words : Alt → List (List ℕ)
alt_words alt.Go = keyword_text keyword.Go ∷ []
alt_words (alt.Act n) = keyword_text keyword.Act ∷ decimal n ∷ []
alt_words (alt.New n) = keyword_text keyword.New ∷ decimal n ∷ []
alt_words (alt.Pick n) = keyword_text keyword.Pick ∷ decimal n ∷ []
alt_words (alt.Dtor n) = keyword_text keyword.Dtor ∷ decimal n ∷ []
alt_words alt.Expire = keyword_text keyword.Expire ∷ []

-- the line of an entry: `WORKER PROCESS THREAD CHOICE`
unfoldable pub entry_line : Entry → List (List ℕ)
entry_line e = decimal e.worker ∷ decimal e.pid ∷ decimal e.tid ∷ alt_words e.alt

-- the first line of a schedule
unfoldable pub header_line : Config → List (List ℕ)
header_line c = keyword_text keyword.Schedule ∷ decimal (format_number c.format) ∷ decimal c.budget ∷ decimal c.passes ∷ decimal c.slots ∷ []

-- the last line of a schedule with n entries
unfoldable pub end_line : ℕ → List (List ℕ)
end_line n = keyword_text keyword.End ∷ decimal n ∷ []

-- the lines of a schedule
unfoldable pub schedule_lines : Config → List Entry → List (List (List ℕ))
schedule_lines c entries = (header_line c ∷ []) ++ map entry_line entries ++ (end_line (length entries) ∷ [])

-- ---- reports

-- the text of a verdict
unfoldable pub verdict_words : Verdict → List (List ℕ)
verdict_words verdict.Complete = keyword_text keyword.Complete ∷ []
verdict_words verdict.Deadlock = keyword_text keyword.Deadlock ∷ []
verdict_words verdict.Budget = keyword_text keyword.Budget ∷ []
verdict_words verdict.Open = keyword_text keyword.Open ∷ []
verdict_words (verdict.Undefined w) = stop_words w

-- the line of a verdict
unfoldable pub verdict_line : Verdict → List (List ℕ)
verdict_line v = keyword_text keyword.Verdict ∷ verdict_words v

-- the first line of a report
unfoldable pub title_line : Config → List (List ℕ)
title_line c = keyword_text keyword.Report ∷ decimal (format_number c.format) ∷ []

-- the lines of a report: title, events in order, verdict and schedule
unfoldable pub report_lines : Script → Config → List Event → Verdict → List Entry → List (List (List ℕ))
report_lines script config events v entries =
    (title_line config ∷ [])
    ++ map (event_line script) events
    ++ (verdict_line v ∷ [])
    ++ schedule_lines config entries

-- the report of a run
abbrev pub report_of : Script → Config → List Entry → Run → List ℕ
report_of script config entries r = text_of (report_lines script config (reverse r.events) (verdict_of script config r.world (length entries)) entries)

-- the report of the run of a schedule, if there is such a run
unfoldable pub report : Script → Config → List Entry → Option (List ℕ)
report script config entries = option_map (report_of script config entries) (run script config entries)
