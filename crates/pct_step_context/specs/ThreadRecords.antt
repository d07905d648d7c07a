-- The record of a thread in the table of its process, as far as the choices of the thread depend on it.
use Rattle.std.specs.Prelude.{◌≡◌}
use Rattle.pct_cancel.specs.declared.cancel.Cancel.{Cancel}
use Rattle.pct_model.specs.World.{Thread}
use Rattle.pct_threads.specs.declared.record.Thread.{Thread as Record}

-- this is the cancelability of the thread
pub record HasCancelability (cancel : Cancel) (t : Thread) : Type 0 where
  pub state_is : cancel.state ≡ t.state
  pub mode_is : cancel.mode ≡ t.mode
  pub pending_is : cancel.pending ≡ t.pending

-- this is the record of the thread
pub record IsRecord (kept : Record) (t : Thread) : Type 0 where
  pub status_is : kept.status ≡ t.status
  pub cancel_is : HasCancelability kept.cancel t
