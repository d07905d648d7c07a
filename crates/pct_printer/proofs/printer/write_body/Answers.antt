use Rattle.pct_names.proofs.Names.{arith, contents_of, err_from_is_err_and, line_text, statement_words}
use Rattle.pct_io.proofs.WritesInTurn.{Writes-last, Writes-next, Writes-next_fails}
use Rattle.pct_printer.proofs.printer.write_body.Goals as goal

pub loop-statement-preserved : goal.loop-statement-preserved
loop-statement-preserved g c = λ new r writes. c.loop-statement.invariant new r (Writes-next (λ s. line_text (statement_words (contents_of c.args.script.now) c.args.locals.now s)) _ c.loop-statement.statement-index _ r (omega arith) c.in_ok-write_statement.ensures writes)

pub returns-in_err-write_statement : goal.returns-in_err-write_statement
returns-in_err-write_statement g c =
    let p = err_from_is_err_and c.from_residual.result c.from_residual.ensures.1 in
    rw p.1 (c.loop-statement.invariant _ _ (Writes-next_fails (λ s. line_text (statement_words (contents_of c.args.script.now) c.args.locals.now s)) _ c.loop-statement.statement-index _ (omega arith) c.in_err-write_statement.ensures))

pub returns : goal.returns
returns g c = c.loop-statement.invariant _ _ (Writes-last (λ s. line_text (statement_words (contents_of c.args.script.now) c.args.locals.now s)) _ c.loop-statement.statement-index _ (omega arith))
