use Rattle.pct_names.proofs.Names.{ap, Bool, cond, Environment, Family, has_timeouts, inl, inr, length, nat_lt, next_of, NextStatement}
use Rattle.pct_names.proofs.Names.{None, Option, Some, Status, sym, Thread, ◌∙◌, ◌≡◌}
use Rattle.pct_engine_laws.specs.SeenSteps.{choices_in, environment_in}
use Rattle.pct_process.specs.FamilyViews.{other_processes}
use Rattle.pct_process.specs.ProcessViews.{ProcessData}
use Rattle.pct_transitions.specs.ProcessSteps.{with_data}
use Rattle.pct_step_context.specs.Programs.{ProgramValue}
use Rattle.pct_view_laws.specs.declared.wait.Wait.{Wait}
use Rattle.pct_view_laws.specs.declared.wait.Wait.TheVariants as wait
use Rattle.pct_view_laws.specs.Waits.{wait_at, wait_by, wait_in}
use Rattle.pct_views.proofs.Waits.{over_unless}
use Rattle.pct_views.proofs.waiting.wait_on.Goals as goal

-- what a thread sees of the others, in a run of a program
abbrev environment_by : ProgramValue → ProcessData → Family → Thread → Environment
environment_by program d family t = environment_in (has_timeouts program.config.format) (length d.slots) family d.slots t.id

-- what the thread waits for, where this is its status
abbrev with_status : ProgramValue → ProcessData → Family → Thread → Status → Option Wait
with_status program d family t s = wait_by d.shared (environment_by program d family t) (choices_in program.script (has_timeouts program.config.format) (length d.slots) family (with_data d) t) (next_of program.script t.frames) s

-- the status of the record decides
by_status : (program : ProgramValue) (d : ProcessData) (family : Family) (t : Thread) (kept s : Status) → kept ≡ s → kept ≡ t.status → with_status program d family t s ≡ with_status program d family t t.status
by_status program d family t kept s is status = ap (with_status program d family t) (sym is ∙ status)

-- with this test for the end of the wait
over_if : (w : Wait) (a b : Bool) → a ≡ b → cond a None (Some w) ≡ cond b None (Some w)
over_if w a b same = ap (λ (over : Bool). cond over None (Some w)) same

pub returns-then-has_choice : goal.returns-then-has_choice
unfolding wait_by
returns-then-has_choice c = λ t at.
    let d = c.args.state.now in
    let program = c.args.around.program.now in
    let family = other_processes c.args.around.family in
    let waits : Option Wait = wait_at d.shared (environment_by program d family t) (next_of program.script t.frames) in
    ap (λ (ready : Bool). cond ready None waits) (sym c.if-has_choice.true ∙ c.has_choice.ensures t at)
    ∙ by_status program d family t c.record_on.result.now.status _ c.in-Running.is (c.record_on.ensures t at).status_is

pub returns-else-has_choice : goal.returns-else-has_choice
unfolding wait_by
returns-else-has_choice c = λ t at.
    let d = c.args.state.now in
    let program = c.args.around.program.now in
    let family = other_processes c.args.around.family in
    let environment = environment_by program d family t in
    c.wait_at.ensures environment
    ∙ ap (λ (next : NextStatement). wait_at d.shared environment next) (c.next_on.ensures t at)
    ∙ ap (λ (ready : Bool). cond ready None (wait_at d.shared environment (next_of program.script t.frames))) (sym c.if-has_choice.false ∙ c.has_choice.ensures t at)
    ∙ by_status program d family t c.record_on.result.now.status _ c.in-Running.is (c.record_on.ensures t at).status_is

pub returns-in-AtPoint : goal.returns-in-AtPoint
unfolding wait_by wait_in
returns-in-AtPoint c = λ t at.
    c.wait_unless.ensures
    ∙ over_if wait.Signal _ _ c.may_pass_point.ensures
    ∙ by_status c.args.around.program.now c.args.state.now (other_processes c.args.around.family) t c.record_on.result.now.status _ c.in-AtPoint.is (c.record_on.ensures t at).status_is

pub returns-in-Joining : goal.returns-in-Joining
unfolding wait_by wait_in
returns-in-Joining c = λ t at.
    let program = c.args.around.program.now in
    let family = other_processes c.args.around.family in
    c.wait_unless-in-Joining.ensures
    ∙ over_if (wait.Thread c.in-Joining.id) _ _ (c.has_ended.ensures (has_timeouts program.config.format) family t.id)
    ∙ by_status program c.args.state.now family t c.record_on.result.now.status _ c.in-Joining.is (c.record_on.ensures t at).status_is

pub returns-in-InSem : goal.returns-in-InSem
unfolding wait_by wait_in
returns-in-InSem c = λ t at.
    c.wait_unless-in-InSem.ensures
    ∙ over_if (wait.Semaphore c.in-InSem.sem) _ _ (ap (nat_lt 0) c.count_in.ensures)
    ∙ by_status c.args.around.program.now c.args.state.now (other_processes c.args.around.family) t c.record_on.result.now.status _ c.in-InSem.is (c.record_on.ensures t at).status_is

pub returns-in-InWaitPid : goal.returns-in-InWaitPid
unfolding wait_by wait_in environment_in
returns-in-InWaitPid c = λ t at.
    let w : Wait = wait.Process c.in-InWaitPid.pid in
    c.wait_unless-in-InWaitPid.ensures
    ∙ over_unless c.is_running_child.result w
    ∙ ap (λ (running : Bool). cond running (Some w) None) c.is_running_child.ensures
    ∙ by_status c.args.around.program.now c.args.state.now (other_processes c.args.around.family) t c.record_on.result.now.status _ c.in-InWaitPid.is (c.record_on.ensures t at).status_is

pub returns-in-Waiting : goal.returns-in-Waiting
unfolding wait_by wait_in
returns-in-Waiting c = λ t at.
    by_status c.args.around.program.now c.args.state.now (other_processes c.args.around.family) t c.record_on.result.now.status _ c.in-Waiting.is (c.record_on.ensures t at).status_is

pub returns-in-Reacquire : goal.returns-in-Reacquire
unfolding wait_by wait_in
returns-in-Reacquire c = λ t at.
    let d = c.args.state.now in
    let program = c.args.around.program.now in
    let family = other_processes c.args.around.family in
    c.mutex_wait.ensures (environment_by program d family t)
    ∙ by_status program d family t c.record_on.result.now.status _ c.in-Reacquire.is (c.record_on.ensures t at).status_is

pub returns-in-Ending : goal.returns-in-Ending
unfolding wait_by wait_in
returns-in-Ending c = λ t at.
    let d = c.args.state.now in
    let program = c.args.around.program.now in
    let family = other_processes c.args.around.family in
    let status = (c.record_on.ensures t at).status_is in
    elim c.in-Ending.is [
      | inl ending ↦ by_status program d family t c.record_on.result.now.status _ ending status
      | inr (inl (fork, forking)) ↦ by_status program d family t c.record_on.result.now.status _ forking status
      | inr (inr (inl exiting)) ↦ by_status program d family t c.record_on.result.now.status _ exiting status
      | inr (inr (inr (value, ended))) ↦ by_status program d family t c.record_on.result.now.status _ ended status
    ]
