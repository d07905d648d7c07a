use Rattle.pct_names.proofs.Names.{◌+◌, ap, arith, Dest, drop, frames_written, List, refl, sym, ◌∙◌, ℕ}
use Rattle.std.proofs.lemmas.List.{at_drop_all, at_drop_more}
use Rattle.pct_model.specs.declared.statement.Dest.TheVariants as destination
use Rattle.pct_model.specs.Actions.{written}
use Rattle.pct_actions.specs.OwnChanges.{on_frames}
use Rattle.pct_actions.proofs.OwnChanges.{frames_same, then_held}
use Rattle.pct_actions.proofs.own_frames.write_locals.Goals as goal

pub loop-write-preserved : goal.loop-write-preserved
loop-write-preserved c =
    let slot = c.args.slot in
    let items : List (Dest × ℕ) = c.as_slice-write-items.result.now in
    let i = c.loop-write.write-index in
    let old = c.loop-write.threads in
    let new = c.write_local.new.threads in
    record {
      occupied = c.write_local.ensures.occupied;
      rest =
          then_held slot _ _ old new (on_frames slot (written frames_written (drop (i + 1) items)) new) c.write_local.ensures.value refl
          ∙ sym (at_drop_more (λ (writes : List (Dest × ℕ)). on_frames slot (written frames_written writes) old) items i (destination.Drop, 0) c.loop-write-test.true)
          ∙ c.loop-write.invariant.rest;
    }

pub returns : goal.returns
returns c =
    let slot = c.args.slot in
    let now = c.loop-write.threads in
    frames_same slot now
    ∙ sym (at_drop_all (λ (writes : List (Dest × ℕ)). on_frames slot (written frames_written writes) now) c.as_slice-write-items.result.now c.loop-write.write-index (omega (arith, c.loop-write-test.false)))
    ∙ c.loop-write.invariant.rest
    ∙ ap (λ (writes : List (Dest × ℕ)). on_frames slot (written frames_written writes) c.args.threads.now) c.as_slice-write-items.ensures.value
