use Rattle.pct_names.proofs.Names.{[], err_from_is_err_and, ◌∷◌}
use Rattle.pct_io.proofs.WritesInTurn.{Writes-then, Writes-fails}
use Rattle.pct_printer.proofs.printer.write_statement.Goals as goal

pub returns-in_err-write_statement_words : goal.returns-in_err-write_statement_words
returns-in_err-write_statement_words g c =
    let p = err_from_is_err_and c.from_residual.result c.from_residual.ensures.1 in
    rw p.1 (Writes-fails (10 ∷ []) c.in_err-write_statement_words.ensures)

pub returns : goal.returns
returns g c = Writes-then _ c.in_ok-write_statement_words.ensures c.write_all.ensures
