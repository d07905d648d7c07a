use Rattle.pct_names.proofs.Names.{ap, arith, false, lines_of, sym, true, ◌∙◌}
use Rattle.pct_text.proofs.Lines.{lines_of-nil}
use Rattle.pct_report_reader.specs.Reading.{begins_verdict, is_event, is_verdict}
use Rattle.pct_report_reader.proofs.BodyLines.{ends_at, goes_on, no_verdict}
use Rattle.pct_report_reader.proofs.reader.body_from.Goals as goal

pub returns-then-is_verdict-clause-read : goal.returns-then-is_verdict-clause-read
returns-then-is_verdict-clause-read c =
    c.loop-raw.invariant.read
    ∙ ends_at c.args.format c.loop-raw.number (lines_of c.loop-raw.rest.now) c.in-Some.raw.now (lines_of c.in-Some.after.now) c.in-Some.ensures.lines true
    (ap begins_verdict (sym c.strip_cr-line.ensures) ∙ sym c.if-begins_verdict.ensures) (ap is_verdict (sym c.strip_cr-line.ensures) ∙ sym c.if-is_verdict.ensures)

pub returns-else-is_verdict-clause-read : goal.returns-else-is_verdict-clause-read
returns-else-is_verdict-clause-read c =
    c.loop-raw.invariant.read
    ∙ ends_at c.args.format c.loop-raw.number (lines_of c.loop-raw.rest.now) c.in-Some.raw.now (lines_of c.in-Some.after.now) c.in-Some.ensures.lines false
    (ap begins_verdict (sym c.strip_cr-line.ensures) ∙ sym c.if-begins_verdict.ensures) (ap is_verdict (sym c.strip_cr-line.ensures) ∙ sym c.if-is_verdict.ensures)

pub returns-then-not-is_event-clause-read : goal.returns-then-not-is_event-clause-read
returns-then-not-is_event-clause-read c =
    c.loop-raw.invariant.read
    ∙ goes_on c.args.format c.loop-raw.number (lines_of c.loop-raw.rest.now) c.in-Some.raw.now (lines_of c.in-Some.after.now) c.in-Some.ensures.lines false
    (ap begins_verdict (sym c.strip_cr-line.ensures) ∙ sym c.if-begins_verdict.ensures) (ap is_event (sym c.strip_cr-line.ensures) ∙ sym c.if-not-is_event.ensures)

pub loop-raw-preserved : goal.loop-raw-preserved
loop-raw-preserved c =
    record {
      read =
          c.loop-raw.invariant.read
          ∙ goes_on c.args.format c.loop-raw.number (lines_of c.loop-raw.rest.now) c.in-Some.raw.now (lines_of c.in-Some.after.now) c.in-Some.ensures.lines true
          (ap begins_verdict (sym c.strip_cr-line.ensures) ∙ sym c.if-begins_verdict.ensures) (ap is_event (sym c.strip_cr-line.ensures) ∙ sym c.if-not-is_event.ensures);
      bound = omega (arith, c.in-Some.ensures.shorter, c.loop-raw.invariant.bound);
    }

pub returns-clause-read : goal.returns-clause-read
returns-clause-read c = c.loop-raw.invariant.read ∙ no_verdict c.args.format c.loop-raw.number (lines_of c.loop-raw.rest.now) (ap lines_of c.in_default.ensures ∙ lines_of-nil)
