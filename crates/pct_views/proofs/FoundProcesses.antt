-- The process with an id that has not ended, looked for from the first one on, and where a thread of it begins its step.
use Rattle.pct_names.proofs.Names.{◌&&◌, ◌+◌, ◌<◌, [], and_right, ap, at_drop_more, Bool, cond, drop, Entry, false, Family, find}
use Rattle.pct_names.proofs.Names.{get_or_from_slice_get, length, List, nat_eq, None, none-some, not, Option, option_and_then, option_map}
use Rattle.pct_names.proofs.Names.{refl, slice_get, slice_get_within, Some, suc, sym, true, zero, ℕ, ◌∙◌, ◌∷◌, ◌≡◌, ◌≤◌}
use Rattle.std.proofs.Common.{eq-eqb, ne_eqb}
use Rattle.pct_engine_laws.specs.Seen.{SeenProcess, Seen, is_live_seen, family_in}
use Rattle.pct_engine_laws.specs.SeenSteps.{thread_with}
use Rattle.pct_step_context.specs.Programs.{ProgramValue}
use Rattle.pct_place.specs.declared.process_view.ProcessView.{ProcessView}
use Rattle.pct_place.specs.ShownProcesses.{ShowsProcess, ShowsIfSome}
use Rattle.pct_view_laws.specs.SeenViews.{start_seen}
use Rattle.pct_view_laws.specs.TracedSteps.{start_of}

-- without a view there is no process
pub none_shown : (program : ProgramValue) (v : Seen) (o : Option SeenProcess) → ShowsIfSome program v o None → o ≡ None
none_shown program v None shown = refl
none_shown program v (Some p) shown = absurd shown

-- a view is that of a process
pub one_shown : (program : ProgramValue) (v : Seen) (o : Option SeenProcess) (view : ProcessView) → ShowsIfSome program v o (Some view) → (p : SeenProcess) × (o ≡ Some p) × ShowsProcess program (family_in v p.pid) p view
one_shown program v None view shown = absurd (none-some view (sym shown))
one_shown program v (Some p) view shown = (p, refl, shown)

past : (test : SeenProcess → Bool) (ps : List SeenProcess) (i : ℕ) → slice_get ps i ≡ None → find test (drop i ps) ≡ None
past test [] zero at = refl
past test [] (suc i) at = refl
past test (p ∷ ps) zero at = absurd (none-some p (sym at))
past test (p ∷ ps) (suc i) at = past test ps i at

-- the process is not among the first ones. Their number is known once one was looked for
pub record AreLeft (pid i : ℕ) (ps : List SeenProcess) : Type 0 where
  pub same : find (is_live_seen pid) (drop i ps) ≡ find (is_live_seen pid) ps
  pub few : 0 < i → length ps ≤ 8

module _ (pid i : ℕ) (ps : List SeenProcess) (left : AreLeft pid i ps) where
  -- there is none, where there are no more processes
  pub none_found : slice_get ps i ≡ None → find (is_live_seen pid) ps ≡ None
  none_found at = sym left.same ∙ past (is_live_seen pid) ps i at

  module _ (p : SeenProcess) (at : slice_get ps i ≡ Some p) where
    turn : find (is_live_seen pid) (drop i ps) ≡ cond (is_live_seen pid p) (Some p) (find (is_live_seen pid) (drop (i + 1) ps))
    turn =
        at_drop_more (find (is_live_seen pid)) ps i p (slice_get_within ps i p at)
        ∙ ap (λ (q : SeenProcess). cond (is_live_seen pid q) (Some q) (find (is_live_seen pid) (drop (i + 1) ps))) (get_or_from_slice_get ps i p p at)

    -- it is the one at the index
    pub found_here : is_live_seen pid p ≡ true → find (is_live_seen pid) ps ≡ Some p
    found_here live = sym left.same ∙ turn ∙ ap (λ (b : Bool). cond b (Some p) (find (is_live_seen pid) (drop (i + 1) ps))) live

    -- or it is not
    pub later : is_live_seen pid p ≡ false → length ps ≤ 8 → AreLeft pid (i + 1) ps
    later other few = record {
      same = sym (turn ∙ ap (λ (b : Bool). cond b (Some p) (find (is_live_seen pid) (drop (i + 1) ps))) other) ∙ left.same;
      few = λ some. few;
    }

-- whether a process that is shown has an id and has not ended
module _ (program : ProgramValue) (family : Family) (p : SeenProcess) (view : ProcessView) (shown : ShowsProcess program family p view) (pid : ℕ) where
  test_is : (nat_eq view.pid pid && not view.has_ended) ≡ is_live_seen pid p
  test_is = λ i. nat_eq (shown.pid_is i) pid && not (shown.ended_is i)

  pub live_by : view.pid ≡ pid → view.has_ended ≡ false → is_live_seen pid p ≡ true
  live_by same going = sym test_is ∙ (λ i. eq-eqb view.pid pid same i && not (going i))

  pub other_by : ¬ (view.pid ≡ pid) → is_live_seen pid p ≡ false
  other_by other = sym test_is ∙ ap (λ (b : Bool). b && not view.has_ended) (ne_eqb view.pid pid other)

  pub over_by : view.has_ended ≡ true → is_live_seen pid p ≡ false
  over_by over = sym test_is ∙ and_right (nat_eq view.pid pid) (not view.has_ended) (ap not over)

-- where the step of an entry begins
module _ (slots : ℕ) (v : Seen) (e : Entry) where
  pub starts_nowhere : find (is_live_seen e.pid) v.processes ≡ None → None ≡ start_seen slots v e
  starts_nowhere none = sym (ap (λ (o : Option SeenProcess). option_map start_of (option_and_then (λ p. thread_with slots e.tid p.slots) o)) none)

  pub starts_in : (p : SeenProcess) → find (is_live_seen e.pid) v.processes ≡ Some p → length p.slots ≡ slots → option_map start_of (thread_with (length p.slots) e.tid p.slots) ≡ start_seen slots v e
  starts_in p found all =
      ap (λ (n : ℕ). option_map start_of (thread_with n e.tid p.slots)) all
      ∙ sym (ap (λ (o : Option SeenProcess). option_map start_of (option_and_then (λ p. thread_with slots e.tid p.slots) o)) found)
