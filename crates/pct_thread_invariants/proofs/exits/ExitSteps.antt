-- A thread that exits its process, in a function registered with atexit: the function is plain, so that it goes on, jumps or returns.
use Rattle.pct_names.proofs.Names.{◌<◌, [], acts, ap, body_of, Dest, encode, Environment, false, false≢true, Frame, FrameKind}
use Rattle.pct_names.proofs.Names.{frames_written, has_begun_to_end, inl, inr, length, List, NextStatement, or_right, own_after, refl}
use Rattle.pct_names.proofs.Names.{Script, SharedState, Some, Stmt, suc, sym, syntax_of, Thread, thread_at, Transition, true, ℕ, ◌∙◌, ◌∷◌}
use Rattle.pct_names.proofs.Names.{◌≡◌}
use Rattle.pct_model.specs.declared.event.What.TheVariants as what
use Rattle.pct_model.specs.declared.state.FrameKind.TheVariants as kind
use Rattle.pct_model.specs.declared.state.Status.TheVariants as status
use Rattle.pct_model.specs.declared.statement.Dest.TheVariants as destination
use Rattle.pct_model.specs.declared.statement.Stmt.TheVariants as statement
use Rattle.pct_model.specs.declared.transition.OwnAction.TheVariants as own_action
use Rattle.pct_model.specs.declared.transition.SharedAction.TheVariants as shared_action
use Rattle.pct_laws.specs.Kept.{is_exit_kind, IsPlainFunction}
use Rattle.pct_laws.specs.ThreadSummary.{ThreadSummary}
use Rattle.pct_transition_cases.proofs.OfferedChoices.{deliverable_enabled}
use Rattle.pct_transition_cases.proofs.PlacedStatements.{IsPlaced, on_top}
use Rattle.pct_transition_cases.proofs.TransitionCases.{TransitionCase, rests, stopped, jumped, emitted, variable_set, variable_added}
use Rattle.pct_transition_cases.proofs.TransitionCases.{main_returned, start_returned, call_left, handler_left, exit_function_left}
use Rattle.pct_transition_cases.proofs.TransitionCases.{fork_handler_left, mutex_locked, mutex_unlocked, canceled, routine_left}
use Rattle.pct_thread_invariants.proofs.StaticPushes.{PushesMatch}
use Rattle.pct_thread_invariants.proofs.exits.PlainFunctions.{is_plain_next, plain_below}
use Rattle.pct_thread_invariants.proofs.thread.Ends.{not_both}
use Rattle.pct_thread_invariants.proofs.thread.GoingOn.{running}
use Rattle.pct_thread_invariants.proofs.thread.Statements.{leads_within}
use Rattle.pct_thread_invariants.proofs.thread.ThreadRule.{RunsExitFunction, Fits, FitsAny, KeepsAny}

module _ (script : Script) (passes : ℕ) (matches : PushesMatch script) (t : Thread) where
  -- the next registered function is called
  pub exit_function_keeps : (frames : List Frame) (reported : ThreadSummary) (f : ℕ) → IsPlainFunction script f → Fits script passes (record t { status = status.Exiting; frames = frames }) reported
      → KeepsAny script passes (record t { status = status.Exiting; frames = frames }) reported (record (acts (what.ExitRun f ∷ [])) { own = Some (own_action.RunExitFunction f); shared = Some shared_action.TakeExit })
  unfolding thread_at own_after
  exit_function_keeps frames reported f plain fits = record {
    own = record {
      agrees = fits.agrees;
      placed = (matches.first_within f (plain_below script f plain), tt);
      by_status = inr (refl, plain, fits.by_status.1);
      in_passes = fits.in_passes;
    };
    lawful = refl;
  }

  module _ (frame : Frame) (reported : ThreadSummary) (fits : FitsAny script passes (running t (frame ∷ [])) reported) (exits : RunsExitFunction script status.Running (frame ∷ []) reported) where
    -- the thread at a pc of its function
    at_pc_fits : (pc : ℕ) → pc < length (body_of script frame.func) → FitsAny script passes (running t (record frame { pc = pc } ∷ [])) reported
    at_pc_fits pc within = record { agrees = fits.agrees; placed = (within, tt); by_status = inr exits; in_passes = fits.in_passes }

    -- after it wrote a variable
    written_fits : (d : Dest) (v pc : ℕ) → pc < length (body_of script frame.func) → FitsAny script passes (running t (frames_written d v (record frame { pc = pc } ∷ []))) reported
    written_fits (destination.Local i) v pc within = at_pc_fits pc within
    written_fits _ v pc within = at_pc_fits pc within

    -- its frame has no other kind
    other_kind : (k : FrameKind) → is_exit_kind k ≡ false → frame.kind ≡ k → ⊥
    other_kind k other is = false≢true (sym other ∙ ap is_exit_kind (sym is ∙ exits.0))

    -- its transitions
    pub exit_step_keeps : {shared : SharedState} {environment : Environment} {body : List Stmt} {next : NextStatement} {o : Transition} → IsPlaced script (frame ∷ []) body next
        → TransitionCase passes body shared (running t (frame ∷ [])) environment true next status.Running o → is_plain_next next ≡ true → KeepsAny script passes (running t (frame ∷ [])) reported o
    unfolding thread_at own_after encode syntax_of
    exit_step_keeps place (rests next s alive) plain = record { own = fits; lawful = refl }
    exit_step_keeps place (stopped _ s why) plain = record { own = fits; lawful = refl }
    exit_step_keeps {shared} (on_top _ _ s at) (jumped _ _ pc leads) plain = record { own = at_pc_fits pc (leads_within script passes matches frame shared.globals at leads); lawful = refl }
    exit_step_keeps (on_top _ _ s at) (emitted _ v) plain = record { own = at_pc_fits (suc frame.pc) (matches.next_within frame (statement.Emit v) at refl); lawful = refl }
    exit_step_keeps (on_top _ _ s at) (variable_set _ d v) plain = record { own = written_fits d _ (suc frame.pc) (matches.next_within frame (statement.Set d v) at refl); lawful = refl }
    exit_step_keeps (on_top _ _ s at) (variable_added _ d v) plain = record { own = written_fits d _ (suc frame.pc) (matches.next_within frame (statement.Add d v) at refl); lawful = refl }
    exit_step_keeps (on_top _ _ s at) (mutex_locked _ m free) plain = record { own = at_pc_fits (suc frame.pc) (matches.next_within frame (statement.Lock m) at refl); lawful = refl }
    exit_step_keeps (on_top _ _ s at) (mutex_unlocked _ m owned) plain = record { own = at_pc_fits (suc frame.pc) (matches.next_within frame (statement.Unlock m) at refl); lawful = refl }
    exit_step_keeps (on_top _ _ s at) (exit_function_left _ _ v returns is) plain = record { own = record { agrees = fits.agrees; placed = tt; by_status = inl (refl, exits.2); in_passes = fits.in_passes }; lawful = refl }
    exit_step_keeps (on_top _ _ s at) (main_returned _ _ v returns is once) plain = absurd (other_kind kind.Main refl is)
    exit_step_keeps (on_top _ _ s at) (start_returned _ _ v returns is) plain = absurd (other_kind kind.Start refl is)
    exit_step_keeps (on_top _ _ s at) (call_left _ _ v returns (inl is)) plain = absurd (other_kind kind.Call refl is)
    exit_step_keeps (on_top _ _ s at) (call_left _ _ v returns (inr is)) plain = absurd (other_kind kind.PopHandler refl is)
    exit_step_keeps (on_top _ _ s at) (handler_left _ _ v returns (inl is)) plain = absurd (other_kind kind.Handler refl is)
    exit_step_keeps (on_top _ _ s at) (handler_left _ _ v returns (inr is)) plain = absurd (other_kind kind.Destructor refl is)
    exit_step_keeps (on_top _ _ s at) (fork_handler_left _ _ v values returns is keeps) plain = absurd (other_kind kind.ForkFn refl is)
    exit_step_keeps (on_top _ _ s at) (routine_left _ _ v o returns is) plain = absurd (other_kind (kind.OnceFn o) refl is)
    exit_step_keeps place (canceled next delivered where_it_may) plain = absurd (not_both t.state (fits.agrees.disabled (or_right (has_begun_to_end t.reason) reported.exiting exits.2)) (deliverable_enabled t.state t.pending (delivered refl)))
    exit_step_keeps place _ plain = absurd (false≢true plain)
