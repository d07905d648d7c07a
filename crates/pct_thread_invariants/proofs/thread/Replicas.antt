-- The replica of a thread that called fork keeps the rule of the thread, where its events report the handlers that it inherits.
use Rattle.pct_names.proofs.Names.{false, false≢true, Frame, has_begun_to_end, in_child, is_forking, List, next_of, Reason, refl}
use Rattle.pct_names.proofs.Names.{replica_of, Script, Status, subst, Thread, true, ℕ, ◌≡◌}
use Rattle.pct_model.specs.declared.state.Reason.TheVariants as reason
use Rattle.pct_model.specs.declared.state.Status.TheVariants as status
use Rattle.pct_laws.specs.Kept.{AreOpen, open_functions, is_at_fork}
use Rattle.pct_laws.specs.ThreadSummary.{ThreadSummary, no_events}
use Rattle.pct_thread_invariants.proofs.thread.Ends.{not_begun}
use Rattle.pct_thread_invariants.proofs.thread.Passes.{first_pass}
use Rattle.pct_thread_invariants.proofs.thread.ThreadRule.{FramesFit, HasFrames, ByStatus, ByAnyStatus, outside_exit, FitsAny, in_any}

module _ (script : Script) where
  -- a thread in fork has frames and has not begun to end
  pub record InFork (why : Reason) (frames : List Frame) (handlers : List (ℕ × ℕ)) (s : ThreadSummary) : Type 0 where
    pub has : HasFrames script why frames handlers s
    pub at : is_at_fork (next_of script frames) ≡ true
    pub alive : has_begun_to_end why ≡ false

  pub in_fork : (st : Status) (why : Reason) (frames : List Frame) (handlers : List (ℕ × ℕ)) (s : ThreadSummary) → is_forking st ≡ true → ByAnyStatus script st why frames handlers s → InFork why frames handlers s
  in_fork (status.Forking at) why frames handlers s forks by =
      let is = outside_exit script why handlers s (status.Forking at) frames refl by in
      record { has = is.0; at = is.1; alive = is.2 }
  in_fork _ why frames handlers s forks by = absurd (false≢true forks)

  -- and so does its replica
  child_by : (st : Status) (why : Reason) (frames : List Frame) (handlers : List (ℕ × ℕ)) (s : ThreadSummary) → is_forking st ≡ true → InFork why frames handlers s → ByStatus script (in_child st) why frames handlers s
  child_by (status.Forking at) why frames handlers s forks is = (is.has, is.at, is.alive)
  child_by _ why frames handlers s forks is = absurd (false≢true forks)

  -- the replica of a thread in fork
  pub replica_fits : (passes : ℕ) (t : Thread) (s : ThreadSummary) → is_forking t.status ≡ true → FitsAny script passes t s → FitsAny script passes (replica_of t) (record no_events { handlers = s.handlers })
  replica_fits passes t s forks fits =
      let is : InFork t.reason t.frames t.handlers s = in_fork t.status t.reason t.frames t.handlers s forks fits.by_status in
      in_any script passes (replica_of t) (record no_events { handlers = s.handlers })
      (record {
        agrees = record {
          handlers_agree = fits.agrees.handlers_agree;
          reason = refl;
          end = refl;
          functions = fits.agrees.functions;
          disabled = λ any. absurd (false≢true any);
          none_left = λ alive. refl;
        };
        placed = fits.placed;
        by_status = child_by t.status reason.None t.frames t.handlers (record no_events { handlers = s.handlers }) forks
            (record {
              has = record {
                not_ended = refl;
                not_exiting = refl;
                fit = subst (λ (why : Reason). FramesFit script why t.frames) (not_begun t.reason is.alive) is.has.fit;
                pushes = subst (AreOpen (open_functions script t.frames) t.handlers) (fits.agrees.none_left is.alive) is.has.pushes;
              };
              at = is.at;
              alive = refl;
            });
        in_passes = first_pass passes;
      })
