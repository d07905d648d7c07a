-- Cleanup handlers that are pushed and popped, and calls of functions.
use Rattle.pct_names.proofs.Names.{◌&&◌, ◌+◌, ◌++◌, ◌<◌, [], and_from, ap, arith, body_of, Bool, false, Frame, FrameKind, goes_on}
use Rattle.pct_names.proofs.Names.{has_begun_to_end, length, List, map, nat_eq, nat_lt, new_frame, not, Operand, or_right, own_after}
use Rattle.pct_names.proofs.Names.{Popped, Pushed, refl, Script, Some, statement_at, subst, suc, sym, Thread, thread_at, true}
use Rattle.pct_names.proofs.Names.{without_first, ℕ, ◌∙◌, ◌∷◌, ◌≡◌}
use Rattle.std.proofs.Common.{length-append, eq-eqb}
use Rattle.pct_model.specs.declared.event.What.TheVariants as what
use Rattle.pct_model.specs.declared.state.FrameKind.TheVariants as kind
use Rattle.pct_model.specs.declared.state.OnceState.TheVariants.{Busy}
use Rattle.pct_model.specs.declared.statement.Stmt.TheVariants as statement
use Rattle.pct_model.specs.declared.transition.OwnAction.TheVariants as own_action
use Rattle.pct_model.specs.declared.transition.SharedAction.TheVariants as shared_action
use Rattle.pct_laws.specs.Kept.{AreOpen, open_functions}
use Rattle.std.proofs.lemmas.Bool.{lt-ltb}
use Rattle.pct_laws.specs.Once.{is_newest}
use Rattle.pct_laws.specs.OpenPushes.{open_pushes}
use Rattle.pct_laws.specs.ThreadSummary.{ThreadSummary, with_event}
use Rattle.pct_thread_invariants.proofs.StaticPushes.{PushesMatch}
use Rattle.pct_thread_invariants.proofs.thread.ThreadRule.{AllMayCome, FramesFit, Fits, Keeps}
use Rattle.pct_thread_invariants.proofs.thread.GoingOn.{running, at_pc_fits}

pub same_pair : (f a : ℕ) → (nat_eq f f && nat_eq a a) ≡ true
same_pair f a = and_from _ _ (eq-eqb f f refl) (eq-eqb a a refl)

-- ---- lists of handlers

open_after_pop : (f : ℕ) (functions : List ℕ) (handler : ℕ × ℕ) (handlers left pushed : List (ℕ × ℕ)) → handler ∷ handlers ≡ pushed ++ left → map (λ (h : ℕ × ℕ). h.0) pushed ≡ f ∷ functions → AreOpen functions handlers left
open_after_pop f functions handler handlers left [] parts named = absurd (cc)
open_after_pop f functions handler handlers left (first ∷ pushed) parts named = record { pushed = pushed; parts = cc; named = cc }

-- the handlers without the newest, if that is one of a push
pub pop_open : (f : ℕ) (functions : List ℕ) (handler : ℕ × ℕ) (handlers left : List (ℕ × ℕ)) → AreOpen (f ∷ functions) (handler ∷ handlers) left → AreOpen functions handlers left
pop_open f functions handler handlers left are = open_after_pop f functions handler handlers left are.pushed are.parts are.named

-- fewer handlers are left than the newest and these
pub left_below : (functions : List ℕ) (handler : ℕ × ℕ) (handlers left : List (ℕ × ℕ)) → AreOpen functions handlers left → length left < length (handler ∷ handlers)
left_below functions handler handlers left are =
    let parts : length handlers ≡ length are.pushed + length left = ap length are.parts ∙ length-append are.pushed left in
    omega arith

module _ (script : Script) (passes : ℕ) (matches : PushesMatch script) where
  -- ---- calls

  -- a running thread that calls a function
  pub call_fits : (f a : ℕ) (k : FrameKind) (t : Thread) (frames : List Frame) (s : ThreadSummary) → f < length script.funcs → FramesFit script t.reason (new_frame f a k ∷ frames) → Fits script passes (running t frames) s → Fits script passes (running t (new_frame f a k ∷ frames)) s
  call_fits f a k t frames s in_script fit fits = record {
    agrees = fits.agrees;
    placed = (matches.first_within f in_script, fits.placed);
    by_status = record {
      not_ended = fits.by_status.not_ended;
      not_exiting = fits.by_status.not_exiting;
      fit = fit;
      pushes = fits.by_status.pushes;
    };
    in_passes = fits.in_passes;
  }

  module _ (t : Thread) (frame : Frame) (below : List Frame) (reported : ThreadSummary) where
    -- `do`
    pub call_keeps : (f : ℕ) (x : Operand) (v : ℕ) → statement_at script frame ≡ Some (statement.Do f x) → f < length script.funcs → Fits script passes (running t (frame ∷ below)) reported → Keeps script passes (running t (frame ∷ below)) reported (record (goes_on (suc frame.pc) []) { own = Some (own_action.Call f v kind.Call) })
    unfolding thread_at own_after
    call_keeps f x v at in_script fits =
        let next : Fits script passes (running t (record frame { pc = suc frame.pc } ∷ below)) reported = at_pc_fits script passes t frame below (suc frame.pc) (matches.next frame (statement.Do f x) at) (matches.next_within frame (statement.Do f x) at refl) reported fits in
        record { own = call_fits f v kind.Call t (record frame { pc = suc frame.pc } ∷ below) reported in_script next.by_status.fit next; lawful = refl }

    -- pthread_once that calls its routine
    pub once_keeps : (o f id : ℕ) → statement_at script frame ≡ Some (statement.CallOnce o f) → f < length script.funcs → Fits script passes (running t (frame ∷ below)) reported
        → Keeps script passes (running t (frame ∷ below)) reported (record (goes_on (suc frame.pc) (what.OnceCalled o ∷ [])) { own = Some (own_action.Call f 0 (kind.OnceFn o)); shared = Some (shared_action.SetOnce o (Busy id)) })
    unfolding thread_at own_after
    once_keeps o f id at in_script fits =
        let next : Fits script passes (running t (record frame { pc = suc frame.pc } ∷ below)) reported = at_pc_fits script passes t frame below (suc frame.pc) (matches.next frame (statement.CallOnce o f) at) (matches.next_within frame (statement.CallOnce o f) at refl) reported fits in
        record { own = call_fits f 0 (kind.OnceFn o) t (record frame { pc = suc frame.pc } ∷ below) reported in_script next.by_status.fit next; lawful = refl }

    -- pthread_cleanup_push
    pub push_keeps : (f : ℕ) (x : Operand) (v : ℕ) → statement_at script frame ≡ Some (statement.Push f x) → f < length script.funcs → Fits script passes (running t (frame ∷ below)) reported → Keeps script passes (running t (frame ∷ below)) reported (record (goes_on (suc frame.pc) (Pushed f v ∷ [])) { own = Some (own_action.PushHandler f v) })
    unfolding thread_at own_after
    push_keeps f x v at in_script fits = record {
      own = record {
        agrees = record {
          handlers_agree = ap (λ (hs : List (ℕ × ℕ)). (f, v) ∷ hs) fits.agrees.handlers_agree;
          reason = fits.agrees.reason;
          end = fits.agrees.end;
          functions = (in_script, fits.agrees.functions);
          disabled = fits.agrees.disabled;
          none_left = fits.agrees.none_left;
        };
        placed = (matches.next_within frame (statement.Push f x) at refl, fits.placed.1);
        by_status = record {
          not_ended = fits.by_status.not_ended;
          not_exiting = fits.by_status.not_exiting;
          fit = fits.by_status.fit;
          pushes = record {
            pushed = (f, v) ∷ fits.by_status.pushes.pushed;
            parts = ap (λ (hs : List (ℕ × ℕ)). (f, v) ∷ hs) fits.by_status.pushes.parts;
            named = ap (λ (fs : List ℕ). f ∷ fs) fits.by_status.pushes.named ∙ sym (ap (λ (fs : List ℕ). fs ++ open_functions script below) (matches.next frame (statement.Push f x) at));
          };
        };
        in_passes = fits.in_passes;
      };
      lawful = refl;
    }

    -- ---- pthread_cleanup_pop

    module _ (x : Operand) (at : statement_at script frame ≡ Some (statement.Pop x)) (f a : ℕ) (handlers : List (ℕ × ℕ)) (fits : Fits script passes (running (record t { handlers = (f, a) ∷ handlers }) (frame ∷ below)) reported) where
      -- the handlers without the one that is popped
      popped : AreOpen (open_functions script (record frame { pc = suc frame.pc } ∷ below)) handlers reported.left
      popped =
          let top : (g : ℕ) × (open_pushes (body_of script frame.func) frame.pc ≡ g ∷ open_pushes (body_of script frame.func) (suc frame.pc)) = matches.pop frame x at in
          let are : AreOpen (top.0 ∷ open_functions script (record frame { pc = suc frame.pc } ∷ below)) ((f, a) ∷ handlers) reported.left = subst (λ (fs : List ℕ). AreOpen (fs ++ open_functions script below) ((f, a) ∷ handlers) reported.left) top.1 fits.by_status.pushes in
          pop_open top.0 (open_functions script (record frame { pc = suc frame.pc } ∷ below)) (f, a) handlers reported.left are

      -- the thread after a pop
      pop_fits : (run : Bool) → Fits script passes (running (record t { handlers = handlers }) (record frame { pc = suc frame.pc } ∷ below)) (with_event (Popped f a run) reported)
      pop_fits run = record {
        agrees = record {
          handlers_agree = ap without_first fits.agrees.handlers_agree;
          reason = fits.agrees.reason;
          end = fits.agrees.end;
          functions = fits.agrees.functions.1;
          disabled = fits.agrees.disabled;
          none_left = fits.agrees.none_left;
        };
        placed = (matches.next_within frame (statement.Pop x) at refl, fits.placed.1);
        by_status = record {
          not_ended = fits.by_status.not_ended;
          not_exiting = fits.by_status.not_exiting;
          fit = fits.by_status.fit;
          pushes = popped;
        };
        in_passes = fits.in_passes;
      }

      -- the event of a pop
      pop_lawful : (run : Bool) → AllMayCome passes (Popped f a run ∷ []) reported
      pop_lawful run =
          let fewer : length reported.left < length ((f, a) ∷ handlers) = left_below (open_functions script (record frame { pc = suc frame.pc } ∷ below)) (f, a) handlers reported.left popped in
          and_from _ _ (and_from _ _ (ap (is_newest f a) fits.agrees.handlers_agree ∙ same_pair f a) (or_right (not (has_begun_to_end reported.reason)) _ (ap (λ (hs : List (ℕ × ℕ)). nat_lt (length reported.left) (length hs)) fits.agrees.handlers_agree ∙ lt-ltb _ _ fewer))) refl

      -- the handler is removed, and called
      pub drop_keeps : Keeps script passes (running (record t { handlers = (f, a) ∷ handlers }) (frame ∷ below)) reported (record (goes_on (suc frame.pc) (Popped f a false ∷ [])) { own = Some own_action.PopHandler })
      unfolding thread_at own_after
      drop_keeps = record { own = pop_fits false; lawful = pop_lawful false }

      pub run_keeps : Keeps script passes (running (record t { handlers = (f, a) ∷ handlers }) (frame ∷ below)) reported (record (goes_on (suc frame.pc) (Popped f a true ∷ [])) { own = Some (own_action.CallHandler f a) })
      unfolding thread_at own_after
      run_keeps = record { own = call_fits f a kind.PopHandler (record t { handlers = handlers }) (record frame { pc = suc frame.pc } ∷ below) (with_event (Popped f a true) reported) fits.agrees.functions.0 fits.by_status.fit (pop_fits true); lawful = pop_lawful true }
