use Rattle.pct_names.proofs.Names.{arith, err_from_is_err_and, event_line, length, line_text, sym, ◌∙◌}
use Rattle.std.proofs.lemmas.Bool.{eqb-true}
use Rattle.pct_io.proofs.WritesInTurn.{Writes-last, Writes-first, Writes-first_fails}
use Rattle.pct_report.proofs.report.write_events.Goals as goal

pub loop-rest-preserved : goal.loop-rest-preserved
loop-rest-preserved g c =
    λ new r writes. c.loop-rest.invariant new r (Writes-first (λ e. line_text (event_line c.args.script.now e)) _ _ _ r c.split_at.ensures.by_index.0 c.in_ok-write_together.ensures writes)

pub returns-in_err-write_together : goal.returns-in_err-write_together
returns-in_err-write_together g c =
    let p = err_from_is_err_and c.from_residual.result c.from_residual.ensures.1 in
    rw p.1 (c.loop-rest.invariant _ _ (Writes-first_fails (λ e. line_text (event_line c.args.script.now e)) _ _ _ c.split_at.ensures.by_index.0 c.in_err-write_together.ensures))

pub returns : goal.returns
returns g c =
    let rest = c.loop-rest.rest.now in
    c.loop-rest.invariant _ _ (Writes-last (λ e. line_text (event_line c.args.script.now e)) rest 0 _ (omega (arith, eqb-true (length rest) 0 (sym c.is_empty.ensures ∙ c.loop-rest-test.false))))
