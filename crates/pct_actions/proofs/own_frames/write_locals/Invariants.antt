use Rattle.pct_names.proofs.Names.{drop, frames_written, true, ◌≡◌}
use Rattle.pct_model.specs.Actions.{written}
use Rattle.pct_threads.specs.Tables.{is_occupied_at}
use Rattle.pct_actions.specs.OwnChanges.{on_frames}
use Rattle.pct_actions.proofs.own_frames.write_locals.Given as goal

abbrev pub invariant-loop-write : goal.invariant-loop-write
invariant-loop-write l = record {
  occupied : is_occupied_at l.threads l.slot ≡ true;
  rest : on_frames l.slot (written frames_written (drop l.write-index l.write-items)) l.threads ≡ on_frames l.slot (written frames_written l.write-items) l.initial.threads;
}
