-- The threads of a process that have not ended, as they are shown.
use Rattle.std.specs.Prelude.{◌≡◌, ℕ, if◌then◌else◌, List, [], ◌∷◌, filter, Option, Some, None, is_some, IsSomeAnd}
use Rattle.pct_engine_laws.specs.Seen.{SeenSlot, SeenProcess}
use Rattle.pct_model.specs.OtherProcesses.{Family}
use Rattle.pct_model.specs.World.{Thread}
use Rattle.pct_process.specs.ProcessViews.{slot_on, thread_on_slot}
use Rattle.pct_threads.specs.declared.record.Thread.{Thread as Record}
use Rattle.pct_step_context.specs.Programs.{ProgramValue}
use Rattle.pct_step_context.specs.ThreadRecords.{HasCancelability, IsRecord}
use Rattle.pct_view_laws.specs.Listed.{ListedThread, is_unended}
use Rattle.pct_view_laws.specs.SeenViews.{listed_on}
use Rattle.pct_view_laws.specs.TracedSteps.{start_of}
use Rattle.pct_views.specs.declared.thread_view.ThreadView.{ThreadView}

-- the threads on a slot of a process that have not ended, in a process that has not ended
abbrev pub listed_at : ProgramValue → Family → SeenProcess → ℕ → List ListedThread
listed_at program family p slot = if is_some p.ended then [] else listed_on program.script program.config family p (slot_on p.slots slot)

-- this is the record of the thread on a slot, which has not ended
pub record IsUnended (slots : List SeenSlot) (slot : ℕ) (kept : Record) : Type 0 where
  pub thread : Thread
  pub alone : filter is_unended (slot_on slots slot).here ≡ thread ∷ []
  pub held : thread_on_slot slots slot ≡ Some thread
  pub kept_is : IsRecord kept thread
  pub handlers_are : kept.handlers ≡ thread.handlers

-- a thread is shown so
pub record ShowsThread (l : ListedThread) (view : ThreadView) : Type 0 where
  pub pid_is : view.pid ≡ l.pid
  pub tid_is : view.tid ≡ l.thread.id
  pub start_is : view.start ≡ start_of l.thread
  pub cancel_is : HasCancelability view.cancel l.thread
  pub handlers_are : view.handlers.now ≡ l.thread.handlers
  pub wait_is : view.wait ≡ l.wait

-- there is a view exactly if there is a thread, and it shows this thread
abbrev pub ShowsOne : List ListedThread → Option ThreadView → Type 0
ShowsOne [] view = view ≡ None
ShowsOne (l ∷ []) view = IsSomeAnd view (ShowsThread l)
ShowsOne (l ∷ next ∷ rest) view = ⊥
