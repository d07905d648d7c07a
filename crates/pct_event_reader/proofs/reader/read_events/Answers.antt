use Rattle.pct_names.proofs.Names.{All, ap, arith, err_from_is_err_and, length, List, map, Some, subst, sym, true, ◌∙◌, ◌≡◌}
use Rattle.pct_expect.specs.declared.span.Span.{Span}
use Rattle.pct_expect.specs.Events.{part_at}
use Rattle.pct_model.specs.declared.event.Event.{Event}
use Rattle.pct_model.specs.Lines.{words_of}
use Rattle.pct_report_reader.specs.Reading.{is_event}
use Rattle.pct_event_reader.specs.EventReports.{events_of_words}
use Rattle.pct_event_reader.proofs.ReportParts.{body_read, few_lines, lines_are_events, report_read, report_refused}
use Rattle.pct_event_reader.proofs.reader.read_events.Goals as goal

pub returns-in_err-report-clause-read : goal.returns-in_err-report-clause-read
returns-in_err-report-clause-read c =
    let p = err_from_is_err_and c.from_residual.result c.from_residual.ensures.1 in
    rw (p.1, p.2) (report_refused _ c.args.text.now c.in_err-report.ensures.read)

pub events_of_lines-requires-clause-events : goal.events_of_lines-requires-clause-events
events_of_lines-requires-clause-events c =
    subst (All (λ span. is_event (part_at c.args.text.now span) ≡ true)) (sym c.as_slice.ensures)
    (lines_are_events c.args.text.now c.in_ok-report.report.config c.in_ok-report.report.lines c.in_ok-report.ensures.read)

pub events_of_lines-requires-clause-few : goal.events_of_lines-requires-clause-few
events_of_lines-requires-clause-few c =
    omega (arith, ap length c.as_slice.ensures, few_lines c.args.text.now c.in_ok-report.report.config c.in_ok-report.report.lines c.in_ok-report.ensures.read, c.requires)

pub returns-clause-read : goal.returns-clause-read
returns-clause-read c =
    report_read c.args.text.now c.in_ok-report.report.config c.in_ok-report.report.lines c.in_ok-report.ensures.read c.of.result
    (ap (λ (lines : List Span). events_of_words (map (λ span. words_of (part_at c.args.text.now span)) lines)) (sym c.as_slice.ensures) ∙ c.in_ok-events.ensures.events ∙ ap (λ (events : List Event). Some events) (sym c.of.ensures))

pub returns-in_err-events-clause-memory : goal.returns-in_err-events-clause-memory
returns-in_err-events-clause-memory c = λ _.
    body_read c.args.text.now (c.in_ok-report.report.config, c.in_ok-report.report.lines) c.in_ok-report.ensures.read
