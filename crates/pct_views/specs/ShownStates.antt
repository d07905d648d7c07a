-- The values of a thread that has not ended, as they are shown.
use Rattle.std.specs.Prelude.{◌≡◌, ◌<◌, List, [], ◌∷◌, length, Option, None, IsSomeAnd}
use Rattle.pct_keys.specs.Tables.{row_at}
use Rattle.pct_model.specs.Keys.{KeyPlace}
use Rattle.pct_model.specs.World.{Thread}
use Rattle.pct_view_laws.specs.TracedSteps.{position_of}
use Rattle.pct_views.specs.declared.thread_state.ThreadState.{ThreadState}

-- a thread of a process with these keys is shown so
pub record ShowsState (keys : List KeyPlace) (t : Thread) (view : ThreadState) : Type 0 where
  pub tid_is : view.tid ≡ t.id
  pub position_is : view.position ≡ position_of t
  pub frames_are : view.frames ≡ t.frames
  pub keys_are : view.keys.now.places ≡ keys
  pub within : view.slot < length view.keys.now.rows
  pub specific_is : row_at view.keys.now view.slot ≡ t.specific
  pub detached_is : view.detached ≡ t.detached

-- there is a view exactly if there is a thread, and it shows this thread
abbrev pub ShowsOneState : List KeyPlace → List Thread → Option ThreadState → Type 0
ShowsOneState keys [] view = view ≡ None
ShowsOneState keys (t ∷ []) view = IsSomeAnd view (ShowsState keys t)
ShowsOneState keys (t ∷ next ∷ rest) view = ⊥
