use Rattle.pct_names.proofs.Names.{All, ap, arith, err_from_is_err_and, length, List, map, Ok, subst, sym, ◌∙◌, ◌≡◌}
use Rattle.pct_expect.specs.declared.span.Span.{Span}
use Rattle.pct_expect.specs.Events.{IsWithin, events_in}
use Rattle.pct_report_reader.specs.Body.{as_body}
use Rattle.pct_report_reader.specs.Reading.{event_lines, span_of}
use Rattle.pct_report_reader.proofs.EventPlaces.{few_places, places_spell, places_within}
use Rattle.pct_report_reader.proofs.ReportParts.{body_refused, report_read, schedule_refused}
use Rattle.pct_report_reader.proofs.reader.read_report.Goals as goal

pub returns-in_err-body-clause-read : goal.returns-in_err-body-clause-read
returns-in_err-body-clause-read c =
    let p = err_from_is_err_and c.from_residual.result c.from_residual.ensures.1 in
    rw (p.1, p.2) (body_refused _ c.args.text.now c.in_err-body.ensures.read)

pub returns-in_err-config-clause-read : goal.returns-in_err-config-clause-read
returns-in_err-config-clause-read c =
    let p = err_from_is_err_and c.from_residual-in_err-config.result c.from_residual-in_err-config.ensures.1 in
    rw (p.1, p.2) (schedule_refused _ c.args.text.now (as_body c.in_ok-body.body) c.in_ok-body.ensures.read c.in_err-config.ensures.read)

pub returns-clause-read : goal.returns-clause-read
returns-clause-read c =
    let config = c.in_ok-config.config in
    report_read c.args.text.now (as_body c.in_ok-body.body) config c.in_ok-body.ensures.read c.in_ok-config.ensures.read
    ∙ ap (λ (lines : List Span). Ok (config, lines)) (sym (c.of.ensures ∙ c.in_ok-lines.ensures))

pub returns-clause-within : goal.returns-clause-within
returns-clause-within c = subst (All (IsWithin c.args.text.now)) (sym (c.of.ensures ∙ c.in_ok-lines.ensures)) (places_within c.args.text.now)

pub returns-clause-few : goal.returns-clause-few
returns-clause-few c =
    let is : c.of.result ≡ map span_of (event_lines c.args.text.now) = c.of.ensures ∙ c.in_ok-lines.ensures in
    omega (arith, few_places c.args.text.now, ap length is, c.requires)

pub returns-clause-events : goal.returns-clause-events
returns-clause-events c = ap (events_in c.args.text.now) (c.of.ensures ∙ c.in_ok-lines.ensures) ∙ places_spell c.args.text.now
