use Rattle.pct_names.proofs.Names.{[], arith, declaration_line, err_from_is_err_and, line_text, ◌∷◌}
use Rattle.pct_io.proofs.WritesInTurn.{Writes-last}
use Rattle.pct_printer.proofs.Writings.{Writes-item, Writes-item_fails}
use Rattle.pct_printer.proofs.printer.write_names_of.Goals as goal

pub loop-name-preserved : goal.loop-name-preserved
loop-name-preserved g c = λ new r writes. c.loop-name.invariant new r (Writes-item (λ name. line_text (declaration_line c.args.kind (name ∷ []))) _ c.loop-name.name-index c.name-item.result r (omega arith) c.name-item.is c.in_ok-write_name.ensures writes)

pub returns-in_err-write_name : goal.returns-in_err-write_name
returns-in_err-write_name g c =
    let p = err_from_is_err_and c.from_residual.result c.from_residual.ensures.1 in
    rw p.1 (c.loop-name.invariant _ _ (Writes-item_fails (λ name. line_text (declaration_line c.args.kind (name ∷ []))) _ c.loop-name.name-index c.name-item.result (omega arith) c.name-item.is c.in_err-write_name.ensures))

pub returns : goal.returns
returns g c = c.loop-name.invariant _ _ (Writes-last (λ name. line_text (declaration_line c.args.kind (name ∷ []))) _ c.loop-name.name-index _ (omega arith))
