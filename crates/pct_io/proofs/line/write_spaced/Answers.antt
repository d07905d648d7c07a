use Rattle.std.proofs.Common.{◌∷◌, arith}
use Rattle.std.proofs.lemmas.Result.{err_from_is_err_and}
use Rattle.pct_io.specs.Fields.{field_text}
use Rattle.pct_io.proofs.WritesInTurn.{Writes-last, Writes-next, Writes-next_fails}
use Rattle.pct_io.proofs.line.write_spaced.Goals as goal

pub loop-field-preserved : goal.loop-field-preserved
loop-field-preserved g c = λ new r writes. c.loop-field.invariant new r (Writes-next (λ field. 32 ∷ field_text field) _ c.loop-field.field-index _ r (omega arith) c.in_ok-write_spaced_field.ensures writes)

pub returns-in_err-write_spaced_field : goal.returns-in_err-write_spaced_field
returns-in_err-write_spaced_field g c =
    let p = err_from_is_err_and c.from_residual.result c.from_residual.ensures.1 in
    rw p.1 (c.loop-field.invariant _ _ (Writes-next_fails (λ field. 32 ∷ field_text field) _ c.loop-field.field-index _ (omega arith) c.in_err-write_spaced_field.ensures))

pub returns : goal.returns
returns g c = c.loop-field.invariant _ _ (Writes-last (λ field. 32 ∷ field_text field) _ c.loop-field.field-index _ (omega arith))
