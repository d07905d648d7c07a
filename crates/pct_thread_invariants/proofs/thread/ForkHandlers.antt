-- Fork handlers: a thread in fork calls one, and returns from it.
use Rattle.pct_names.proofs.Names.{◌<◌, [], acts, body_of, ForkAt, Frame, handler_event, HandlerCall, length, List, new_frame}
use Rattle.pct_names.proofs.Names.{own_after, refl, Script, Some, statement_at, Stmt, Thread, thread_at, Transition, What, while_called, ℕ}
use Rattle.pct_names.proofs.Names.{◌∷◌, ◌≡◌}
use Rattle.pct_model.specs.declared.state.FrameKind.TheVariants as kind
use Rattle.pct_model.specs.declared.state.Status.TheVariants as status
use Rattle.pct_model.specs.declared.transition.OwnAction.TheVariants as own_action
use Rattle.pct_laws.specs.ThreadSummary.{ThreadSummary}
use Rattle.pct_transition_cases.proofs.TransitionCases.{Returns}
use Rattle.pct_thread_invariants.proofs.StaticPushes.{PushesMatch}
use Rattle.pct_thread_invariants.proofs.lift.HandlerEvents.{of_each_phase}
use Rattle.pct_thread_invariants.proofs.thread.ThreadRule.{Fits, Keeps}
use Rattle.pct_thread_invariants.proofs.thread.GoingOn.{running}
use Rattle.pct_thread_invariants.proofs.thread.Handlers.{call_fits}
use Rattle.pct_thread_invariants.proofs.thread.Ends.{awake, suspends, leaves}
use Rattle.pct_thread_invariants.proofs.thread.Statements.{none_open, kind_fits}

module _ (script : Script) (passes : ℕ) (matches : PushesMatch script) (t : Thread) where
  -- the next handler is called
  pub fork_handler_keeps : (frames : List Frame) (reported : ThreadSummary) (at : ForkAt) (call : HandlerCall) → call.func < length script.funcs → Fits script passes (record t { status = status.Forking at; frames = frames }) reported
      → Keeps script passes (record t { status = status.Forking at; frames = frames }) reported (record (acts (handler_event at.phase call.func ∷ [])) { own = Some (own_action.CallForkHandler (while_called at call.index) call.func) })
  unfolding thread_at own_after
  fork_handler_keeps frames reported at call in_script fits =
      let by = fits.by_status in
      let called : Fits script passes (running t (new_frame call.func 0 kind.ForkFn ∷ frames)) reported = call_fits script passes matches call.func 0 kind.ForkFn t frames reported in_script (by.0.fit, by.1, by.2) (awake script passes t (status.Forking at) frames reported fits by.0) in
      let o : What → Transition = λ w. record (acts (w ∷ [])) { own = Some (own_action.CallForkHandler (while_called at call.index) call.func) } in
      of_each_phase (λ (w : What). Keeps script passes (record t { status = status.Forking at; frames = frames }) reported (o w)) call.func (record { own = called; lawful = refl }) (record { own = called; lawful = refl }) (record { own = called; lawful = refl }) at.phase

  -- a handler returns
  pub fork_handler_left_keeps : (frame : Frame) (below : List Frame) (reported : ThreadSummary) → Fits script passes (running t (frame ∷ below)) reported → (globals : List ℕ) {s : Stmt} {v : ℕ} → statement_at script frame ≡ Some s → Returns (body_of script frame.func) globals frame s v
      → frame.kind ≡ kind.ForkFn → (at : ForkAt) → Keeps script passes (running t (frame ∷ below)) reported (record (acts []) { own = Some (own_action.Leave (status.Forking at)) })
  unfolding thread_at own_after
  fork_handler_left_keeps frame below reported fits globals at_statement returns is at =
      let fit = kind_fits script passes matches t frame below reported fits kind.ForkFn is in
      let left : Fits script passes (running t below) reported = leaves script passes t frame below reported fits (none_open script passes matches t frame below reported fits globals at_statement returns) fit.0 in
      record { own = suspends script passes t status.Running below reported left left.by_status (status.Forking at) (left.by_status, fit.1, fit.2); lawful = refl }
