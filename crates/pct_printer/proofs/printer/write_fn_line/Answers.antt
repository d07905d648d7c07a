use Rattle.pct_names.proofs.Names.{[], err_from_is_err_and, sym, ◌∷◌}
use Rattle.pct_io.proofs.WritesInTurn.{Writes-then, Writes-fails}
use Rattle.pct_printer.proofs.Writings.{Writes-as}
use Rattle.pct_printer.proofs.Printed.{line_of_two}
use Rattle.pct_printer.proofs.printer.write_fn_line.Goals as goal

pub returns-in_err-write_fn_words : goal.returns-in_err-write_fn_words
returns-in_err-write_fn_words g c =
    let p = err_from_is_err_and c.from_residual.result c.from_residual.ensures.1 in
    rw p.1 (Writes-as (sym (line_of_two _ c.args.func.now.name c.args.func.now.locals)) (Writes-fails (10 ∷ []) c.in_err-write_fn_words.ensures))

pub returns : goal.returns
returns g c = Writes-as (sym (line_of_two _ c.args.func.now.name c.args.func.now.locals)) (Writes-then _ c.in_ok-write_fn_words.ensures c.write_all.ensures)
