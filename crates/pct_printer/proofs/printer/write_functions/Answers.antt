use Rattle.pct_names.proofs.Names.{arith, contents_of, err_from_is_err_and, function_lines, text_of}
use Rattle.pct_io.proofs.WritesInTurn.{Writes-last}
use Rattle.pct_printer.proofs.Writings.{Writes-item, Writes-item_fails}
use Rattle.pct_printer.proofs.printer.write_functions.Goals as goal

pub loop-func-preserved : goal.loop-func-preserved
loop-func-preserved g c = λ new r writes. c.loop-func.invariant new r (Writes-item (λ f. text_of (function_lines (contents_of c.args.script.now) f)) _ c.loop-func.func-index c.func-item.result r (omega arith) c.func-item.is c.in_ok-write_function.ensures writes)

pub returns-in_err-write_function : goal.returns-in_err-write_function
returns-in_err-write_function g c =
    let p = err_from_is_err_and c.from_residual.result c.from_residual.ensures.1 in
    rw p.1 (c.loop-func.invariant _ _ (Writes-item_fails (λ f. text_of (function_lines (contents_of c.args.script.now) f)) _ c.loop-func.func-index c.func-item.result (omega arith) c.func-item.is c.in_err-write_function.ensures))

pub returns : goal.returns
returns g c = c.loop-func.invariant _ _ (Writes-last (λ f. text_of (function_lines (contents_of c.args.script.now) f)) _ c.loop-func.func-index _ (omega arith))
