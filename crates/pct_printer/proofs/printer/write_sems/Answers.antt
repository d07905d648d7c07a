use Rattle.pct_names.proofs.Names.{[], arith, decimal, declaration_line, err_from_is_err_and, line_text, ◌∷◌}
use Rattle.pct_model.specs.declared.line_kind.SymbolKind.TheVariants as kind
use Rattle.pct_io.proofs.WritesInTurn.{Writes-last}
use Rattle.pct_printer.proofs.Writings.{Writes-item, Writes-item_fails}
use Rattle.pct_printer.proofs.printer.write_sems.Goals as goal

pub loop-sem-preserved : goal.loop-sem-preserved
loop-sem-preserved g c = λ new r writes. c.loop-sem.invariant new r (Writes-item (λ s. line_text (declaration_line kind.Sem (s.name ∷ decimal s.count ∷ []))) _ c.loop-sem.sem-index c.sem-item.result r (omega arith) c.sem-item.is c.in_ok-write_sem.ensures writes)

pub returns-in_err-write_sem : goal.returns-in_err-write_sem
returns-in_err-write_sem g c =
    let p = err_from_is_err_and c.from_residual.result c.from_residual.ensures.1 in
    rw p.1 (c.loop-sem.invariant _ _ (Writes-item_fails (λ s. line_text (declaration_line kind.Sem (s.name ∷ decimal s.count ∷ []))) _ c.loop-sem.sem-index c.sem-item.result (omega arith) c.sem-item.is c.in_err-write_sem.ensures))

pub returns : goal.returns
returns g c = c.loop-sem.invariant _ _ (Writes-last (λ s. line_text (declaration_line kind.Sem (s.name ∷ decimal s.count ∷ []))) _ c.loop-sem.sem-index _ (omega arith))
