use Rattle.pct_names.proofs.Names.{arith, err_from_is_err_and, ◌∷◌}
use Rattle.pct_io.proofs.WritesInTurn.{Writes-last}
use Rattle.pct_printer.proofs.Writings.{Writes-item, Writes-item_fails}
use Rattle.pct_printer.proofs.printer.write_spaced_names.Goals as goal

pub loop-name-preserved : goal.loop-name-preserved
loop-name-preserved g c = λ new r writes. c.loop-name.invariant new r (Writes-item (λ name. 32 ∷ name) _ c.loop-name.name-index c.name-item.result r (omega arith) c.name-item.is c.in_ok-write_spaced_name.ensures writes)

pub returns-in_err-write_spaced_name : goal.returns-in_err-write_spaced_name
returns-in_err-write_spaced_name g c =
    let p = err_from_is_err_and c.from_residual.result c.from_residual.ensures.1 in
    rw p.1 (c.loop-name.invariant _ _ (Writes-item_fails (λ name. 32 ∷ name) _ c.loop-name.name-index c.name-item.result (omega arith) c.name-item.is c.in_err-write_spaced_name.ensures))

pub returns : goal.returns
returns g c = c.loop-name.invariant _ _ (Writes-last (λ name. 32 ∷ name) _ c.loop-name.name-index _ (omega arith))
