use Rattle.pct_names.proofs.Names.{◌&&◌, ap, Bool, inl, inr, next_of, NextStatement, Script, Status, sym, Thread}
use Rattle.pct_names.proofs.Names.{◌||◌, ◌∙◌, ◌≡◌}
use Rattle.pct_model.specs.declared.state.Status.TheVariants as status
use Rattle.pct_process.specs.ProcessViews.{ProcessData}
use Rattle.pct_threads.specs.declared.record.Thread.{Thread as Record}
use Rattle.pct_transitions.specs.declared.readiness.ReadyWhen.TheVariants as ready
use Rattle.pct_step_context.specs.Positions.{next_at}
use Rattle.pct_transitions.specs.Readiness.{now_or, running_when, ready_at, ready_when}
use Rattle.pct_step_context.specs.ThreadRecords.{IsRecord}
use Rattle.pct_transitions.proofs.readiness.ready_when.Goals as goal

module _ (script : Script) (timeouts restricted : Bool) (kept : Record) (t : Thread) (is : IsRecord kept t) where
  -- the record and the next statement decide
  by_next : (next : NextStatement) (s : Status) → kept.status ≡ s → next ≡ next_of script t.frames
      → ready_at timeouts restricted kept.cancel.state kept.cancel.mode kept.cancel.pending next s ≡ ready_when script timeouts restricted t
  by_next next s now at =
      λ i. ready_at timeouts restricted (is.cancel_is.state_is i) (is.cancel_is.mode_is i) (is.cancel_is.pending_is i) (at i) ((sym now ∙ is.status_is) i)

  by_record : (s : Status) → kept.status ≡ s → ready_at timeouts restricted kept.cancel.state kept.cancel.mode kept.cancel.pending (next_of script t.frames) s ≡ ready_when script timeouts restricted t
  by_record s now = by_next (next_of script t.frames) s now (λ i. next_of script t.frames)

pub returns-in-None-clause-when : goal.returns-in-None-clause-when
unfolding ready_at
returns-in-None-clause-when g c = λ t at.
    by_next _ _ _ _ t (c.record_of-thread.ensures.record t at) _ status.Running c.in-Running.is
    (ap next_at (sym c.in-None.is) ∙ c.next_on.ensures t at)

pub returns-in-Some-clause-when : goal.returns-in-Some-clause-when
unfolding ready_at
returns-in-Some-clause-when g c = λ t at.
    let cancel = c.record_of-thread.result.now.cancel in
    let now = c.in-Some.at in
    c.running_when.ensures
    ∙ ap (λ (d : ProcessData). running_when d.shared.restricted cancel.state cancel.mode now.frame now.statement.now) c.process.view_is
    ∙ by_next _ _ _ _ t (c.record_of-thread.ensures.record t at) _ status.Running c.in-Running.is
    (ap next_at (sym c.in-Some.is) ∙ c.next_on.ensures t at)

pub returns-in-AtPoint-clause-when : goal.returns-in-AtPoint-clause-when
unfolding ready_at
returns-in-AtPoint-clause-when g c = λ t at.
    c.now_or.ensures
    ∙ (λ i. now_or (c.may_pass_point.ensures i || c.deliverable.ensures i) ready.Never)
    ∙ by_record _ _ _ _ t (c.record_of-thread.ensures.record t at) _ c.in-AtPoint.is

pub returns-in-Joining-clause-when : goal.returns-in-Joining-clause-when
unfolding ready_at
returns-in-Joining-clause-when g c = λ t at.
    c.now_or-in-Joining.ensures
    ∙ (λ i. now_or (c.deliverable-in-Joining.ensures i) (ready.ThreadEnded c.in-Joining.id))
    ∙ by_record _ _ _ _ t (c.record_of-thread.ensures.record t at) _ c.in-Joining.is

pub returns-in-InSem-clause-when : goal.returns-in-InSem-clause-when
unfolding ready_at
returns-in-InSem-clause-when g c = λ t at.
    c.now_or-in-InSem.ensures
    ∙ (λ i. now_or (c.may_expire.ensures t at i || c.deliverable-in-InSem.ensures i) (ready.CountAboveZero c.in-InSem.sem))
    ∙ by_record _ _ _ _ t (c.record_of-thread.ensures.record t at) _ c.in-InSem.is

pub returns-in-InWaitPid-clause-when : goal.returns-in-InWaitPid-clause-when
unfolding ready_at
returns-in-InWaitPid-clause-when g c = λ t at.
    c.now_or-in-InWaitPid.ensures
    ∙ (λ i. now_or (c.deliverable-in-InWaitPid.ensures i) (ready.ChildEnded c.in-InWaitPid.pid))
    ∙ by_record _ _ _ _ t (c.record_of-thread.ensures.record t at) _ c.in-InWaitPid.is

pub returns-in-Waiting-clause-when : goal.returns-in-Waiting-clause-when
unfolding ready_at
returns-in-Waiting-clause-when g c = λ t at.
    c.now_or-in-Waiting.ensures
    ∙ (λ i. now_or (c.may_expire-in-Waiting.ensures t at i || c.deliverable-in-Waiting.ensures i) ready.Never)
    ∙ by_record _ _ _ _ t (c.record_of-thread.ensures.record t at) _ c.in-Waiting.is

pub returns-in-Reacquire-clause-when : goal.returns-in-Reacquire-clause-when
unfolding ready_at
returns-in-Reacquire-clause-when g c = λ t at.
    c.now_or-in-Reacquire.ensures
    ∙ (λ i. now_or (c.deliverable-in-Reacquire.ensures i && c.leaves_acts.ensures i) (ready.MutexFree c.in-Reacquire.mutex))
    ∙ by_record _ _ _ _ t (c.record_of-thread.ensures.record t at) _ c.in-Reacquire.is

pub returns-in-Ending-clause-when : goal.returns-in-Ending-clause-when
unfolding ready_at
returns-in-Ending-clause-when g c = λ t at.
    let decided = by_record _ _ _ _ t (c.record_of-thread.ensures.record t at) in
    elim c.in-Ending.is [
      | inl ending ↦ decided status.Ending ending
      | inr (inl (fork, forking)) ↦ decided (status.Forking fork) forking
      | inr (inr exiting) ↦ decided status.Exiting exiting
    ]

pub returns-in-Ended-clause-when : goal.returns-in-Ended-clause-when
unfolding ready_at
returns-in-Ended-clause-when g c = λ t at.
    by_record _ _ _ _ t (c.record_of-thread.ensures.record t at) _ c.in-Ended.is
