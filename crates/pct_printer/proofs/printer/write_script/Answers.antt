use Rattle.pct_names.proofs.Names.{contents_of, err_from_is_err_and, sym}
use Rattle.pct_io.proofs.WritesInTurn.{Writes-then, Writes-fails}
use Rattle.pct_printer.proofs.Writings.{Writes-as}
use Rattle.pct_printer.proofs.Printed.{script_is}
use Rattle.pct_printer.proofs.printer.write_script.Goals as goal

pub returns-in_err-write_declarations : goal.returns-in_err-write_declarations
returns-in_err-write_declarations g c =
    let p = err_from_is_err_and c.from_residual.result c.from_residual.ensures.1 in
    rw p.1 (Writes-as (sym (script_is (contents_of c.args.script.now))) (Writes-fails _ c.in_err-write_declarations.ensures))

pub returns : goal.returns
returns g c = Writes-as (sym (script_is (contents_of c.args.script.now))) (Writes-then _ c.in_ok-write_declarations.ensures (rw c.as_slice.ensures at c.write_functions.ensures))
