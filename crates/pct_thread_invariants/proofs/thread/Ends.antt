-- The end of a thread, and the exit of its process.
use Rattle.pct_names.proofs.Names.{◌&&◌, ◌++◌, ◌<◌, [], acts, and_from, ap, arith, body_of, Bool, Disable, Enable, end_value, ending_mode}
use Rattle.pct_names.proofs.Names.{ending_state, false, false≢true, Frame, has_begun_to_end, is_deliverable, is_empty, is_none, key_place}
use Rattle.pct_names.proofs.Names.{le_antisymm, length, List, map, next_of, None, not, own_after, Reason, refl, Script, Some, State, Status}
use Rattle.pct_names.proofs.Names.{subst, suc, sym, Thread, thread_at, true, value_at, with_pass, without_first, ◌||◌, ℕ, ◌∙◌, ◌∷◌, ◌≡◌}
use Rattle.pct_names.proofs.Names.{◌≤◌}
use Rattle.std.proofs.Common.{eq-eqb}
use Rattle.pct_model.specs.declared.event.What.TheVariants as what
use Rattle.pct_model.specs.declared.state.Reason.TheVariants as reason
use Rattle.pct_model.specs.declared.state.Cause.TheVariants as cause
use Rattle.pct_model.specs.declared.state.Status.TheVariants as status
use Rattle.pct_model.specs.declared.transition.OwnAction.TheVariants as own_action
use Rattle.pct_model.specs.declared.transition.SharedAction.TheVariants as shared_action
use Rattle.pct_laws.specs.Kept.{AreOpen, open_functions, IsSuspendedAt}
use Rattle.pct_laws.specs.Once.{is_newest, may_come, value_of_end}
use Rattle.pct_laws.specs.OpenPushes.{open_pushes}
use Rattle.pct_laws.specs.ThreadSummary.{ThreadSummary, with_ending}
use Rattle.pct_thread_invariants.proofs.StaticPushes.{PushesMatch}
use Rattle.pct_thread_invariants.proofs.thread.Passes.{is_in, PassesFit, takes_key, begins_pass, has_pass, not_taken}
use Rattle.pct_thread_invariants.proofs.thread.ThreadRule.{AllMayCome, FramesFit, Agrees, Fits, Keeps, HasFrames, ByStatus}
use Rattle.pct_thread_invariants.proofs.thread.GoingOn.{running}
use Rattle.pct_thread_invariants.proofs.thread.Handlers.{same_pair}
use Rattle.std.proofs.lemmas.Bool.{lt-ltb, le-leb}

abbrev not_reported : Reason → Bool
not_reported why = not (has_begun_to_end why) && true

-- ---- threads that act upon a cancellation request

-- cancelability is not both disabled and enabled
pub not_both : (state : State) → state ≡ Disable → state ≡ Enable → ⊥
not_both state disabled enabled = false≢true (ap (λ s. is_deliverable s true) (sym disabled ∙ enabled))

-- a thread that would have its cancelability disabled if it had begun to end, and has it enabled
enabled_not_begun : (why : Reason) (exiting : Bool) (state : State) → ((has_begun_to_end why || exiting) ≡ true → state ≡ Disable) → state ≡ Enable → why ≡ reason.None
enabled_not_begun reason.None exiting state disabled enabled = refl
enabled_not_begun (reason.Exit v) exiting state disabled enabled = absurd (not_both state (disabled refl) enabled)
enabled_not_begun reason.Canceled exiting state disabled enabled = absurd (not_both state (disabled refl) enabled)

-- a thread that has not begun to end has no reason to
pub not_begun : (why : Reason) → has_begun_to_end why ≡ false → why ≡ reason.None
not_begun reason.None e = refl
not_begun (reason.Exit v) e = absurd (false≢true (sym e))
not_begun reason.Canceled e = absurd (false≢true (sym e))

-- a thread ends with the value of its reason
same_value : (why : Reason) → end_value why ≡ value_of_end why
same_value reason.None = refl
same_value (reason.Exit v) = refl
same_value reason.Canceled = refl

module _ (script : Script) (passes : ℕ) where
  -- ---- threads with frames

  -- a thread that has not ended and does not exit its process, after it began to end for a reason
  pub begun_fits : (t : Thread) (s : ThreadSummary) (why : Reason) → has_begun_to_end why ≡ true → Agrees script t.handlers t.reason t.ended t.state s → PassesFit passes t.pass t.specific.in_pass s.passes s.destroyed → s.ended ≡ None → s.exiting ≡ false
      → Fits script passes (record t { status = status.Ending; frames = []; state = ending_state; mode = ending_mode; reason = why }) (with_ending why s)
  begun_fits t s why begun agrees in_passes not_ended not_exiting = record {
    agrees = record {
      handlers_agree = agrees.handlers_agree;
      reason = refl;
      end = agrees.end;
      functions = agrees.functions;
      disabled = λ any. refl;
      none_left = λ alive. absurd (false≢true (sym alive ∙ begun));
    };
    placed = tt;
    by_status = record {
      no_frames = refl;
      has_reason = begun;
      are_left = sym agrees.handlers_agree;
      not_ended = not_ended;
      not_exiting = not_exiting;
    };
    in_passes = in_passes;
  }

  -- a thread with frames, suspended in a call or not
  module _ (t : Thread) (s : Status) (frames : List Frame) (reported : ThreadSummary) (fits : Fits script passes (record t { status = s; frames = frames }) reported) (has : HasFrames script t.reason frames t.handlers reported) where
    -- the thread, if it ran
    pub awake : Fits script passes (running t frames) reported
    awake = record { agrees = fits.agrees; placed = fits.placed; by_status = has; in_passes = fits.in_passes }

    -- it is suspended in a call
    pub suspends : (next : Status) → ByStatus script next t.reason frames t.handlers reported → Fits script passes (record t { status = next; frames = frames }) reported
    suspends next by_status = record { agrees = fits.agrees; placed = fits.placed; by_status = by_status; in_passes = fits.in_passes }

    -- if it acts upon a request, its cancelability is enabled, so it has not begun to end
    has_not_begun : t.state ≡ Enable → t.reason ≡ reason.None
    has_not_begun enabled = enabled_not_begun t.reason reported.exiting t.state fits.agrees.disabled enabled

    -- it begins to end then
    pub cancel_keeps : t.state ≡ Enable → Keeps script passes (record t { status = s; frames = frames }) reported (record (acts (what.EndingCanceled ∷ [])) { own = Some (own_action.BeginEnd reason.Canceled) })
    unfolding thread_at own_after
    cancel_keeps enabled = record { own = begun_fits t reported reason.Canceled refl fits.agrees fits.in_passes has.not_ended has.not_exiting; lawful = ap not_reported (fits.agrees.reason ∙ has_not_begun enabled) }

    -- in a condition wait it does so once it owns its mutex again
    pub leave_fits : (c m : ℕ) → IsSuspendedAt (next_of script frames) (status.Waiting c m) → t.state ≡ Enable → Fits script passes (record t { status = status.Reacquire c m cause.Canceled; frames = frames }) reported
    leave_fits c m at enabled = suspends (status.Reacquire c m cause.Canceled) (has, at, λ leaves. ap has_begun_to_end (has_not_begun enabled))

    pub end_in_wait_keeps : (c m : ℕ) → has_begun_to_end t.reason ≡ false → Keeps script passes (record t { status = s; frames = frames }) reported (record (acts (what.Acquired m ∷ what.EndingInWait c m ∷ [])) { own = Some (own_action.BeginEnd reason.Canceled); shared = Some (shared_action.OwnMutex m t.id) })
    unfolding thread_at own_after
    end_in_wait_keeps c m alive = record { own = begun_fits t reported reason.Canceled refl fits.agrees fits.in_passes has.not_ended has.not_exiting; lawful = ap not_reported (fits.agrees.reason ∙ not_begun t.reason alive) }

  module _ (t : Thread) (frames : List Frame) (reported : ThreadSummary) (fits : Fits script passes (running t frames) reported) where
    -- a running thread begins to exit its process
    pub exit_keeps : (v : ℕ) → Keeps script passes (running t frames) reported (record (acts (what.ExitBegun v ∷ [])) { own = Some own_action.BeginExit; shared = Some (shared_action.BeginExit v) })
    unfolding thread_at own_after
    exit_keeps v = record {
      own = record {
        agrees = record {
          handlers_agree = fits.agrees.handlers_agree;
          reason = fits.agrees.reason;
          end = fits.agrees.end;
          functions = fits.agrees.functions;
          disabled = λ any. refl;
          none_left = fits.agrees.none_left;
        };
        placed = tt;
        by_status = (refl, refl);
        in_passes = fits.in_passes;
      };
      lawful = refl;
    }

    -- a running thread that has not begun to end begins to
    pub begin_keeps : (v : ℕ) → t.reason ≡ reason.None → Keeps script passes (running t frames) reported (record (acts (what.EndingExit v ∷ [])) { own = Some (own_action.BeginEnd (reason.Exit v)) })
    unfolding thread_at own_after
    begin_keeps v not_begun = record { own = begun_fits t reported (reason.Exit v) refl fits.agrees fits.in_passes fits.by_status.not_ended fits.by_status.not_exiting; lawful = ap not_reported (fits.agrees.reason ∙ not_begun) }

  -- ---- returns

  module _ (t : Thread) (frame : Frame) (below : List Frame) (reported : ThreadSummary) (fits : Fits script passes (running t (frame ∷ below)) reported) (none_open : open_pushes (body_of script frame.func) frame.pc ≡ []) where
    -- the handlers of the frames below, as no push of the top frame is open
    below_open : AreOpen (open_functions script below) t.handlers reported.left
    below_open = subst (λ (fs : List ℕ). AreOpen (fs ++ open_functions script below) t.handlers reported.left) none_open fits.by_status.pushes

    -- a return from a function that the thread called
    pub leaves : FramesFit script t.reason below → Fits script passes (running t below) reported
    leaves fit = record {
      agrees = fits.agrees;
      placed = fits.placed.1;
      by_status = record {
        not_ended = fits.by_status.not_ended;
        not_exiting = fits.by_status.not_exiting;
        fit = fit;
        pushes = below_open;
      };
      in_passes = fits.in_passes;
    }

    all_left : (pushed left : List (ℕ × ℕ)) → t.handlers ≡ pushed ++ left → map (λ (h : ℕ × ℕ). h.0) pushed ≡ [] → t.handlers ≡ left
    all_left [] left parts named = parts
    all_left (h ∷ pushed) left parts named = absurd (cc)

    -- a return from a handler or a destructor that ran as the thread ends
    pub leaves_handler : has_begun_to_end t.reason ≡ true → below ≡ [] → Fits script passes (record t { status = status.Ending; frames = below }) reported
    leaves_handler begun alone =
        let are : AreOpen [] t.handlers reported.left = subst (λ (fs : List Frame). AreOpen (open_functions script fs) t.handlers reported.left) alone below_open in
        record {
          agrees = fits.agrees;
          placed = fits.placed.1;
          by_status = record {
            no_frames = alone;
            has_reason = begun;
            are_left = all_left are.pushed reported.left are.parts are.named;
            not_ended = fits.by_status.not_ended;
            not_exiting = fits.by_status.not_exiting;
          };
          in_passes = fits.in_passes;
        }

  -- ---- threads that end

  module _ (matches : PushesMatch script) (t : Thread) (frames : List Frame) (reported : ThreadSummary) where
    -- the thread as it goes on to run its handlers and destructors
    abbrev ending : List (ℕ × ℕ) → Thread
    ending handlers = record t { status = status.Ending; frames = frames; handlers = handlers }

    -- the next handler runs
    pub handler_keeps : (f a : ℕ) (handlers : List (ℕ × ℕ)) → Fits script passes (ending ((f, a) ∷ handlers)) reported
        → Keeps script passes (ending ((f, a) ∷ handlers)) reported (record (acts (what.HandlerRun f a ∷ [])) { own = Some (own_action.RunHandler f a) })
    unfolding thread_at own_after
    handler_keeps f a handlers fits = record {
      own = record {
        agrees = record {
          handlers_agree = ap without_first fits.agrees.handlers_agree;
          reason = fits.agrees.reason;
          end = fits.agrees.end;
          functions = fits.agrees.functions.1;
          disabled = fits.agrees.disabled;
          none_left = λ alive. absurd (false≢true (sym alive ∙ fits.by_status.has_reason));
        };
        placed = (matches.first_within f fits.agrees.functions.0, tt);
        by_status = record {
          not_ended = fits.by_status.not_ended;
          not_exiting = fits.by_status.not_exiting;
          fit = (fits.by_status.has_reason, refl);
          pushes = record { pushed = []; parts = ap without_first fits.by_status.are_left; named = refl };
        };
        in_passes = fits.in_passes;
      };
      lawful = and_from _ _ (and_from _ _ (and_from _ _ (ap (is_newest f a) fits.agrees.handlers_agree ∙ same_pair f a) (ap has_begun_to_end fits.agrees.reason ∙ fits.by_status.has_reason)) (eq-eqb _ _ (ap length (fits.agrees.handlers_agree ∙ fits.by_status.are_left)))) refl;
    }

    module _ (fits : Fits script passes (ending []) reported) where
      -- its events report that it has begun to end
      begun : has_begun_to_end reported.reason ≡ true
      begun = ap has_begun_to_end fits.agrees.reason ∙ fits.by_status.has_reason

      -- ---- destructors

      -- the destructor of a key is called, where the key is left in its pass
      pub destructor_keeps : (k f : ℕ) → f < length script.funcs → is_in t.specific.in_pass (key_place k) ≡ true → Keeps script passes (ending []) reported (record (acts (what.DtorRun t.pass k f (value_at (key_place k) t.specific) ∷ [])) { own = Some (own_action.RunDestructor k f (value_at (key_place k) t.specific)) })
      unfolding thread_at own_after
      destructor_keeps k f in_script in_pass =
          let pass : PassesFit passes t.pass t.specific.in_pass reported.passes reported.destroyed = fits.in_passes in
          record {
            own = record {
              agrees = fits.agrees;
              placed = (matches.first_within f in_script, tt);
              by_status = record {
                not_ended = fits.by_status.not_ended;
                not_exiting = fits.by_status.not_exiting;
                fit = (fits.by_status.has_reason, refl);
                pushes = record { pushed = []; parts = fits.by_status.are_left; named = refl };
              };
              in_passes = takes_key passes t.pass t.specific.in_pass reported.passes reported.destroyed pass k;
            };
            lawful = and_from _ _ (and_from _ _ (and_from _ _ (and_from _ _ (eq-eqb _ _ (sym pass.current)) (lt-ltb _ _ (has_pass passes t.pass t.specific.in_pass reported.passes reported.destroyed pass (key_place k) in_pass)))
                (ap is_empty fits.agrees.handlers_agree)) (ap not (not_taken passes t.pass t.specific.in_pass reported.passes reported.destroyed pass k in_pass))) refl;
          }

      -- the next pass begins
      pub pass_keeps : t.pass < passes → Keeps script passes (ending []) reported (record (acts (what.PassBegun (suc t.pass) ∷ [])) { own = Some own_action.BeginPass })
      unfolding thread_at own_after
      pass_keeps more =
          let pass : PassesFit passes t.pass t.specific.in_pass reported.passes reported.destroyed = fits.in_passes in
          record {
            own = record {
              agrees = fits.agrees;
              placed = fits.placed;
              by_status = fits.by_status;
              in_passes = begins_pass passes t.pass t.specific.in_pass reported.passes reported.destroyed pass more (with_pass t.specific).in_pass;
            };
            lawful = and_from _ _ (and_from _ _ (and_from _ _ (and_from _ _ begun (ap is_empty fits.agrees.handlers_agree)) (eq-eqb _ _ (ap suc (sym pass.current)))) (le-leb _ _ (omega (arith, more)))) refl;
          }

      -- ---- the end

      -- the event of its end, after events that do not change what is reported of it
      pub end_lawful : may_come passes (what.EndedWith (end_value t.reason)) reported ≡ true
      end_lawful = and_from _ _ (and_from _ _ (and_from _ _ begun (ap is_none fits.by_status.not_ended)) (ap is_empty fits.agrees.handlers_agree)) (eq-eqb _ _ (same_value t.reason ∙ ap value_of_end (sym fits.agrees.reason)))

      -- the event of due keys that are left
      pub leftover_lawful : (left : ℕ) → 0 < left → passes ≤ t.pass → AllMayCome passes (what.Leftover left ∷ []) reported
      leftover_lawful left low at_limit =
          let within : t.pass ≤ passes = fits.in_passes.within in
          and_from _ _ (and_from _ _ (lt-ltb 0 left low) (eq-eqb _ _ (fits.in_passes.current ∙ le_antisymm within at_limit))) refl

      -- the thread after its end, if it is not the last one of its process, and if it is
      pub ended_fits : (v : ℕ) → Fits script passes (record t { status = status.Ended v; frames = frames; handlers = []; ended = true }) (record reported { ended = Some v })
      ended_fits v = record {
        agrees = record {
          handlers_agree = fits.agrees.handlers_agree;
          reason = fits.agrees.reason;
          end = refl;
          functions = tt;
          disabled = fits.agrees.disabled;
          none_left = fits.agrees.none_left;
        };
        placed = fits.placed;
        by_status = record {
          no_frames = fits.by_status.no_frames;
          has_reason = fits.by_status.has_reason;
          no_handlers = refl;
          none_left = sym fits.by_status.are_left;
          value = refl;
          not_exiting = fits.by_status.not_exiting;
        };
        in_passes = fits.in_passes;
      }

      pub exits_fit : (v : ℕ) → Fits script passes (record t { status = status.Exiting; frames = []; handlers = []; ended = true; state = ending_state; mode = ending_mode }) (record reported { ended = Some v; exiting = true })
      exits_fit v = record {
        agrees = record {
          handlers_agree = fits.agrees.handlers_agree;
          reason = fits.agrees.reason;
          end = refl;
          functions = tt;
          disabled = λ any. refl;
          none_left = fits.agrees.none_left;
        };
        placed = tt;
        by_status = (refl, refl);
        in_passes = fits.in_passes;
      }
