-- The answer for `reports_of_runs_are_lawful`.
use Rattle.pct_names.proofs.Names.{event_names, length, report_of, reverse, verdict_of}
use Rattle.pct_schedule_laws.proofs.ReadBack.{run_is_schedule}
use Rattle.pct_event_bounds.specs.EventBounds.{EventNamesItems}
use Rattle.pct_event_bounds.specs.EventNumbers.{EventNumbersFit}
use Rattle.pct_read_laws.proofs.LawfulReports.{all_reversed, lawful}
use Rattle.pct_read_laws.proofs.law.reports_of_runs_are_lawful.Goals as goal

pub returns : goal.returns
returns c = λ script config entries r ran.
    let events = reverse r.events in
    let items = all_reversed (EventNamesItems (event_names script)) r.events (c.runs_name_items.ensures script config entries r ran) in
    let fit = all_reversed EventNumbersFit r.events (c.numbers_of_runs_fit.ensures script config entries r ran) in
    let verdict = verdict_of script config r.world (length entries) in
    lawful script config r.events (report_of script config entries r) c.renaming_changes_no_law.ensures.kept
    (c.laws_are_of_events.ensures script config entries r (c.runs_end_threads.ensures.laws script config entries r ran))
    (c.reports_are_read.ensures script config events verdict entries (run_is_schedule script config entries r ran) items fit)
    (c.event_lines_are_read_back.ensures script events items fit)
