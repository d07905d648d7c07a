use Rattle.pct_names.proofs.Names.{contents_of, err_from_is_err_and, sym}
use Rattle.pct_io.proofs.WritesInTurn.{Writes-then, Writes-fails}
use Rattle.pct_printer.proofs.Writings.{Writes-as}
use Rattle.pct_printer.proofs.Printed.{function_is}
use Rattle.pct_printer.proofs.printer.write_function.Goals as goal

pub returns-in_err-write_fn_line : goal.returns-in_err-write_fn_line
returns-in_err-write_fn_line g c =
    let p = err_from_is_err_and c.from_residual.result c.from_residual.ensures.1 in
    rw p.1 (Writes-as (sym (function_is (contents_of c.args.script.now) c.args.func.now)) (Writes-fails _ c.in_err-write_fn_line.ensures))

pub returns : goal.returns
returns g c =
    Writes-as (sym (function_is (contents_of c.args.script.now) c.args.func.now)) (Writes-then _ c.in_ok-write_fn_line.ensures (rw (c.as_slice.ensures, c.as_slice-2.ensures) at c.write_body.ensures))
