-- A running thread at a statement keeps the rule of the thread as it goes on, jumps or returns.
use Rattle.pct_names.proofs.Names.{◌&&◌, ◌<◌, [], acts, ap, body_of, Bool, Dest, Disable, Enable, false, false≢true, Frame, FrameKind}
use Rattle.pct_names.proofs.Names.{goes_on, has_begun_to_end, inl, inr, is_handler_kind, is_in_handler, length, List, new_frame, new_thread}
use Rattle.pct_names.proofs.Names.{own_after, Reason, refl, reverse, Script, Some, State, state_if, state_number, statement_at}
use Rattle.pct_names.proofs.Names.{Status, Stmt, subst, suc, sym, Thread, thread_at, Transition, true, value_of, ◌||◌, ℕ, ◌∙◌, ◌∷◌, ◌≡◌}
use Rattle.pct_names.proofs.Names.{◌⊎◌}
use Rattle.pct_model.specs.declared.event.What.TheVariants as what
use Rattle.pct_model.specs.declared.state.FrameKind.TheVariants as kind
use Rattle.pct_model.specs.declared.state.OnceState.TheVariants.{Done}
use Rattle.pct_model.specs.declared.state.Reason.TheVariants as reason
use Rattle.pct_model.specs.declared.state.Status.TheVariants as status
use Rattle.pct_model.specs.declared.statement.Stmt.TheVariants as statement
use Rattle.pct_model.specs.declared.transition.OwnAction.TheVariants as own_action
use Rattle.pct_model.specs.declared.transition.SharedAction.TheVariants as shared_action
use Rattle.pct_model.specs.Jumps.{is_end}
use Rattle.pct_laws.specs.OpenPushes.{pushes_after, open_pushes}
use Rattle.pct_laws.specs.ThreadSummary.{ThreadSummary, no_events}
use Rattle.pct_transition_cases.proofs.TransitionCases.{Leads, past_nop, past_if, past_while, past_else, past_end, Returns, by_return, by_end}
use Rattle.pct_thread_invariants.proofs.StaticPushes.{PushesMatch}
use Rattle.pct_thread_invariants.proofs.lift.ReportedBy.{after_all}
use Rattle.pct_thread_invariants.proofs.thread.Passes.{first_pass}
use Rattle.pct_thread_invariants.proofs.thread.ThreadRule.{summary, AllMayCome, Below, FramesFit, Fits, Keeps}
use Rattle.pct_thread_invariants.proofs.thread.GoingOn.{running, going_on_keeps, stays}
use Rattle.pct_thread_invariants.proofs.thread.Ends.{leaves, leaves_handler}

-- ---- handlers

module _ (script : Script) where
  handler_by : (why : Reason) (k : FrameKind) (below : List Frame) → has_begun_to_end why ≡ true → (FramesFit script why below → is_in_handler below ≡ true) → Below script k why below (FramesFit script why below) → (is_handler_kind k || is_in_handler below) ≡ true
  handler_by why kind.Main below begun rest fit = absurd (false≢true (sym (ap has_begun_to_end fit.0) ∙ begun))
  handler_by why kind.Start below begun rest fit = absurd (false≢true (sym (ap has_begun_to_end fit.0) ∙ begun))
  handler_by why kind.Handler below begun rest fit = refl
  handler_by why kind.Call below begun rest fit = rest fit
  handler_by why kind.PopHandler below begun rest fit = refl
  handler_by why kind.Destructor below begun rest fit = refl
  handler_by why kind.ForkFn below begun rest fit = absurd (false≢true (sym fit.2 ∙ begun))
  handler_by why kind.ExitFn below begun rest fit = absurd fit
  handler_by why (kind.OnceFn o) below begun rest fit = rest fit

  -- a thread with frames that has begun to end is in a handler
  in_handler : (why : Reason) (frames : List Frame) → has_begun_to_end why ≡ true → FramesFit script why frames → is_in_handler frames ≡ true
  in_handler why [] begun fit = absurd fit
  in_handler why (frame ∷ below) begun fit = handler_by why frame.kind below begun (in_handler why below begun) fit

  -- one that is in none may enable its cancelability
  may_enable : (why : Reason) (frames : List Frame) (exiting begun : Bool) → has_begun_to_end why ≡ begun → exiting ≡ false → FramesFit script why frames → is_in_handler frames ≡ false → (begun || exiting) ≡ true → Enable ≡ Disable
  may_enable why frames exiting true is alive fit outside any = absurd (false≢true (sym outside ∙ in_handler why frames is fit))
  may_enable why frames exiting false is alive fit outside any = absurd (false≢true (sym alive ∙ any))

module _ (script : Script) (passes : ℕ) (matches : PushesMatch script) where
  -- a new thread, in a frame of a kind that may be its only one
  pub new_fits : (id f a : ℕ) (detached : Bool) (k : FrameKind) → f < length script.funcs → Below script k reason.None [] ⊥ → Fits script passes (new_thread id detached (new_frame f a k)) no_events
  new_fits id f a detached k in_script alone = record {
    agrees = record { handlers_agree = refl; reason = refl; end = refl; functions = tt; disabled = λ any. absurd (false≢true any); none_left = λ alive. refl };
    placed = (matches.first_within f in_script, tt);
    by_status = record {
      not_ended = refl;
      not_exiting = refl;
      fit = alone;
      pushes = record { pushed = []; parts = refl; named = refl };
    };
    in_passes = first_pass passes;
  }

  -- ---- jumps

  module _ (frame : Frame) (globals : List ℕ) where
    -- a statement that changes nothing but the pc leads to a statement of its function, with the same open pushes
    pub leads_within : {s : Stmt} {pc : ℕ} → statement_at script frame ≡ Some s → Leads (body_of script frame.func) globals frame s pc → pc < length (body_of script frame.func)
    leads_within at past_nop = matches.next_within frame statement.Nop at refl
    leads_within at (past_if v) = matches.test_within frame v (value_of globals frame v) (inl at)
    leads_within at (past_while v) = matches.test_within frame v (value_of globals frame v) (inr at)
    leads_within at past_else = matches.block_within frame at
    leads_within at (past_end opened opens) = matches.end_within frame opened at opens

    leads_same : {s : Stmt} {pc : ℕ} → statement_at script frame ≡ Some s → Leads (body_of script frame.func) globals frame s pc → open_pushes (body_of script frame.func) pc ≡ open_pushes (body_of script frame.func) frame.pc
    leads_same at past_nop = matches.next frame statement.Nop at
    leads_same at (past_if v) = matches.test frame v (value_of globals frame v) (inl at)
    leads_same at (past_while v) = matches.test frame v (value_of globals frame v) (inr at)
    leads_same at past_else = matches.block frame at
    leads_same at (past_end opened opens) = matches.end frame opened at opens

  -- ---- a running thread

  module _ (t : Thread) (frame : Frame) (below : List Frame) (reported : ThreadSummary) (fits : Fits script passes (running t (frame ∷ below)) reported) where
    -- the thread as it runs
    abbrev own : Thread
    own = running t (frame ∷ below)

    -- the body of the function of its top frame
    abbrev body : List Stmt
    body = body_of script frame.func

    -- ---- it goes on

    -- a thread that has any status goes on at the next statement
    pub next_keeps : (before : Status) (s : Stmt) → statement_at script frame ≡ Some s → pushes_after (s ∷ []) (open_pushes body frame.pc) ≡ open_pushes body frame.pc → is_end s ≡ false → {o : Transition} → o.next ≡ Some (suc frame.pc) → stays o.own ≡ true → after_all summary (reverse o.events) reported ≡ reported
        → AllMayCome passes (reverse o.events) reported → Keeps script passes (record t { status = before; frames = frame ∷ below }) reported o
    next_keeps before s at same inner {o} goes quiet unchanged lawful =
        going_on_keeps script passes t frame below before reported (suc frame.pc) o goes (matches.next frame s at ∙ same) (matches.next_within frame s at inner) quiet unchanged lawful fits

    jump_keeps : (pc : ℕ) → open_pushes body pc ≡ open_pushes body frame.pc → pc < length body → Keeps script passes own reported (goes_on pc [])
    jump_keeps pc same within = going_on_keeps script passes t frame below status.Running reported pc (goes_on pc []) refl same within refl refl refl fits

    pub leads_keeps : (globals : List ℕ) {s : Stmt} {pc : ℕ} → statement_at script frame ≡ Some s → Leads body globals frame s pc → Keeps script passes own reported (goes_on pc [])
    leads_keeps globals {pc = pc} at leads = jump_keeps pc (leads_same frame globals at leads) (leads_within frame globals at leads)

    -- ---- it returns

    pub none_open : (globals : List ℕ) {s : Stmt} {v : ℕ} → statement_at script frame ≡ Some s → Returns body globals frame s v → open_pushes body frame.pc ≡ []
    none_open globals at (by_return v) = matches.returns frame v at
    none_open globals at (by_end is) = matches.closes frame at is

    -- the frames below fit one of a kind
    pub kind_fits : (k : FrameKind) → frame.kind ≡ k → Below script k t.reason below (FramesFit script t.reason below)
    kind_fits k is = subst (λ (x : FrameKind). Below script x t.reason below (FramesFit script t.reason below)) is fits.by_status.fit

    pub call_left_keeps : (globals : List ℕ) {s : Stmt} {v : ℕ} → statement_at script frame ≡ Some s → Returns body globals frame s v → (frame.kind ≡ kind.Call) ⊎ (frame.kind ≡ kind.PopHandler) → Keeps script passes own reported (record (acts []) { own = Some (own_action.Leave status.Running) })
    unfolding thread_at own_after
    call_left_keeps globals at returns (inl is) = record { own = leaves script passes t frame below reported fits (none_open globals at returns) (kind_fits kind.Call is); lawful = refl }
    call_left_keeps globals at returns (inr is) = record { own = leaves script passes t frame below reported fits (none_open globals at returns) (kind_fits kind.PopHandler is); lawful = refl }

    pub routine_left_keeps : (globals : List ℕ) (o : ℕ) {s : Stmt} {v : ℕ} → statement_at script frame ≡ Some s → Returns body globals frame s v → frame.kind ≡ kind.OnceFn o
        → Keeps script passes own reported (record (acts (what.OnceDone o ∷ [])) { own = Some (own_action.Leave status.Running); shared = Some (shared_action.SetOnce o Done) })
    unfolding thread_at own_after
    routine_left_keeps globals o at returns is = record { own = leaves script passes t frame below reported fits (none_open globals at returns) (kind_fits (kind.OnceFn o) is); lawful = refl }

    pub handler_left_keeps : (globals : List ℕ) {s : Stmt} {v : ℕ} → statement_at script frame ≡ Some s → Returns body globals frame s v → (frame.kind ≡ kind.Handler) ⊎ (frame.kind ≡ kind.Destructor) → Keeps script passes own reported (record (acts []) { own = Some (own_action.Leave status.Ending) })
    unfolding thread_at own_after
    handler_left_keeps globals at returns (inl is) = let fit = kind_fits kind.Handler is in record { own = leaves_handler script passes t frame below reported fits (none_open globals at returns) fit.0 fit.1; lawful = refl }
    handler_left_keeps globals at returns (inr is) = let fit = kind_fits kind.Destructor is in record { own = leaves_handler script passes t frame below reported fits (none_open globals at returns) fit.0 fit.1; lawful = refl }

    -- ---- pthread_setcancelstate

    -- a state that the thread may have
    abbrev MayHave : State → Type 0
    MayHave state = (has_begun_to_end t.reason || reported.exiting) ≡ true → state ≡ Disable

    state_allowed : (enable : Bool) → enable && is_in_handler (frame ∷ below) ≡ false → MayHave (state_if enable)
    state_allowed true outside = may_enable script t.reason (frame ∷ below) reported.exiting (has_begun_to_end t.reason) refl fits.by_status.not_exiting fits.by_status.fit outside
    state_allowed false outside = λ any. refl

    pub state_keeps : (enable : Bool) (old : Dest) → statement_at script frame ≡ Some (statement.SetState enable old) → enable && is_in_handler (frame ∷ below) ≡ false
        → Keeps script passes own reported (record (goes_on (suc frame.pc) (what.StateSet enable ∷ [])) { writes = (old, state_number t.state) ∷ []; own = Some (own_action.SetState (state_if enable)) })
    unfolding thread_at own_after
    state_keeps enable old at outside =
        let s : Stmt = statement.SetState enable old in
        let keeps =
        going_on_keeps script passes (record t { state = state_if enable }) frame below status.Running reported (suc frame.pc) (record (goes_on (suc frame.pc) (what.StateSet enable ∷ [])) { writes = (old, state_number t.state) ∷ [] }) refl (matches.next frame s at) (matches.next_within frame s at refl) refl refl refl
        (record {
          agrees = record { handlers_agree = fits.agrees.handlers_agree; reason = fits.agrees.reason; end = fits.agrees.end; functions = fits.agrees.functions; disabled = state_allowed enable outside; none_left = fits.agrees.none_left };
          placed = fits.placed;
          by_status = fits.by_status;
          in_passes = fits.in_passes;
        }) in
        record { own = keeps.own; lawful = keeps.lawful }
