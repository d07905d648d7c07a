-- In every state that a run reaches each slot of a process is taken by at most one thread.
use Rattle.pct_names.proofs.Names.{◌&&◌, ◌+◌, ◌++◌, [], ap, arith, Bool, child_of, cond, Config, count_by, false, false≢true, filter}
use Rattle.pct_names.proofs.Names.{filter-append, free_ids, holds_slot, inherited, is_free, is_on, length, List, list_any, map, nat_eq}
use Rattle.pct_names.proofs.Names.{NewThread, None, not-true, Option, or_parts, refl, Script, slot_of, Some, subst, sym, Thread}
use Rattle.pct_names.proofs.Names.{thread_created, thread_moved, transition_by, true, ℕ, ◌∙◌, ◌∷◌, ◌≡◌, ◌≤◌}
use Rattle.std.proofs.Common.{append-nil, eqb-true}
use Rattle.std.proofs.lemmas.List.{length-append}
use Rattle.pct_join_laws.proofs.slots.FreeSlots.{IsOnFreeSlot, is_on_free_slot}
use Rattle.pct_thread_invariants.proofs.lift.ChangedThreads.{changed_threads, either_keeps, other_threads, thread_moved_keeps}
use Rattle.pct_thread_invariants.proofs.lift.CreatedThreads.{creates_with_next_id}
use Rattle.pct_thread_invariants.proofs.lift.EveryProcess.{every_process_keeps, IsProcessRule, moves_of_run, OfEveryProcess, unread}
use Rattle.pct_thread_invariants.proofs.lift.TakenSteps.{AfterEveryRun}
use Rattle.pct_thread_invariants.proofs.lift.ThreadIds.{slot_of_next}
use Rattle.pct_thread_invariants.proofs.lift.ThreadsAfter.{created_thread, initial_thread, Moves}
use Rattle.pct_stack_laws.specs.StackLaw.{HasOneThread, SharesNoSlot}
use Rattle.pct_stack_laws.proofs.SlotHolders.{inherited_holds_none, moved_holds_none}

-- ---- tests of lists

module _ {A : Type 0} (test : A → Bool) where
  -- no item passes
  none_pass : (xs : List A) → list_any test xs ≡ false → length (filter test xs) ≤ 0
  none_pass [] none = omega arith
  none_pass (x ∷ xs) none =
      let parts = or_parts (test x) (list_any test xs) none in
      subst (λ b. length (cond b (x ∷ filter test xs) (filter test xs)) ≤ 0) (sym parts.0) (none_pass xs parts.1)

  module _ (change : A → A) (stays : (x : A) → test x ≡ false → test (change x) ≡ false) where
    one_more : (x y : A) (xs ys : List A) (was is : Bool) → (was ≡ false → is ≡ false) → length ys ≤ length xs → length (cond is (y ∷ ys) ys) ≤ length (cond was (x ∷ xs) xs)
    one_more x y xs ys true true stays few = omega (arith, few)
    one_more x y xs ys true false stays few = omega (arith, few)
    one_more x y xs ys false true stays few = absurd (false≢true (sym (stays refl)))
    one_more x y xs ys false false stays few = few

    -- after a change by which no item comes to pass, no more pass than before
    no_more_pass : (xs : List A) → length (filter test (map change xs)) ≤ length (filter test xs)
    no_more_pass [] = omega arith
    no_more_pass (x ∷ xs) = one_more x (change x) (filter test xs) (filter test (map change xs)) (test x) (test (change x)) (stays x) (no_more_pass xs)

-- ---- the threads of a process

module _ (slots : ℕ) where
  -- the thread has slot s
  abbrev has_slot : ℕ → Thread → Bool
  has_slot s t = is_on slots s t && holds_slot t

  -- each slot is taken by at most one of these threads
  abbrev AreAlone : List Thread → Type 0
  AreAlone threads = (s : ℕ) → HasOneThread slots threads s

  module _ (change : Thread → Thread) (same_id : (t : Thread) → (change t).id ≡ t.id) (stays : (t : Thread) → holds_slot t ≡ false → holds_slot (change t) ≡ false) (threads : List Thread) where
    stays_on : (on was is : Bool) → (was ≡ false → is ≡ false) → (on && was) ≡ false → (on && is) ≡ false
    stays_on true was is later none = later none
    stays_on false was is later none = refl

    no_more_on : (s : ℕ) → length (filter (has_slot s) (map change threads)) ≤ length (filter (has_slot s) threads)
    no_more_on s =
        no_more_pass (has_slot s) change (λ t none. ap (λ (id : ℕ). nat_eq (slot_of slots id) s && holds_slot (change t)) (same_id t) ∙ stays_on (is_on slots s t) (holds_slot t) (holds_slot (change t)) (stays t) none) threads

    -- changed threads, of which none took a slot
    changed_alone : AreAlone threads → AreAlone (map change threads)
    changed_alone alone s = omega (arith, no_more_on s, alone s)

    module _ (new : NewThread) (free : IsOnFreeSlot slots threads new.id) where
      both : (s : ℕ) → length (filter (has_slot s) (map change threads ++ created_thread new ∷ [])) ≡ length (filter (has_slot s) (map change threads)) + length (filter (has_slot s) (created_thread new ∷ []))
      both s = ap length (filter-append (has_slot s) (map change threads) (created_thread new ∷ [])) ∙ length-append (filter (has_slot s) (map change threads)) (filter (has_slot s) (created_thread new ∷ []))

      -- the slot of the new one was free
      is_lone : (s : ℕ) (on : Bool) → is_on slots s (created_thread new) ≡ on → AreAlone threads → HasOneThread slots (map change threads ++ created_thread new ∷ []) s
      is_lone s true on alone =
          let slot : free.item ≡ s = sym (slot_of_next slots free.item (count_by (is_on slots free.item) threads) free.low) ∙ ap (slot_of slots) (sym free.is) ∙ eqb-true (slot_of slots new.id) s on in
          let none : list_any (has_slot s) threads ≡ false = not-true (list_any (has_slot s) threads) (subst (λ (n : ℕ). is_free slots threads n ≡ true) slot free.passes) in
          let one : length (filter (has_slot s) (created_thread new ∷ [])) ≡ 1 = ap (λ b. length (cond (b && true) (created_thread new ∷ []) [])) on in
          omega (arith, both s, one, no_more_on s, none_pass (has_slot s) threads none)
      is_lone s false off alone =
          let none : length (filter (has_slot s) (created_thread new ∷ [])) ≡ 0 = ap (λ b. length (cond (b && true) (created_thread new ∷ []) [])) off in
          omega (arith, both s, none, no_more_on s, alone s)

    -- with the thread that a transition creates
    with_new_alone : (created : Option NewThread) → ((new : NewThread) → created ≡ Some new → list_any (nat_eq new.id) (free_ids slots threads) ≡ true) → AreAlone threads → AreAlone (map change threads ++ thread_created created)
    with_new_alone None offered alone = subst AreAlone (sym (append-nil (map change threads))) (changed_alone alone)
    with_new_alone (Some new) offered alone = λ s. is_lone new (is_on_free_slot slots threads new.id (offered new refl)) s (is_on slots s (created_thread new)) refl alone

-- ---- every run

first_alone : (script : Script) (slots s : ℕ) (on : Bool) → is_on slots s (initial_thread script) ≡ on → HasOneThread slots (initial_thread script ∷ []) s
first_alone script slots s on is = subst (λ b. length (cond (b && true) (initial_thread script ∷ []) []) ≤ 1) (sym is) (at_most_one on)
  where
    at_most_one : (b : Bool) → length (cond (b && true) (initial_thread script ∷ []) []) ≤ 1
    at_most_one true = omega arith
    at_most_one false = omega arith

same_id_inherited : (tid : ℕ) (t : Thread) → (inherited tid t).id ≡ t.id
unfolding inherited
same_id_inherited tid t = either_keeps (λ (x : Thread). x.id) _ _ (record t { gone = true }) t refl refl

module _ (script : Script) (config : Config) where
  alone_rule : IsProcessRule unread (λ p k. SharesNoSlot config.slots p) script config (Moves script config)
  unfolding child_of
  alone_rule = record {
    initial = λ s. first_alone script config.slots s (is_on config.slots s (initial_thread script)) refl;
    own = λ w p e t k moves alone.
        let o = transition_by script config w p t e.alt in
        subst (AreAlone config.slots) (sym (changed_threads e.tid o p))
        (with_new_alone config.slots (thread_moved e.tid o) (λ u. ap (λ (i : ℕ × Bool). i.0) (thread_moved_keeps e.tid o u)) (moved_holds_none e.tid o) p.threads o.created (creates_with_next_id script config w p t e.alt moves.offered) alone);
    born = λ w p e t k new moves fork alone. changed_alone config.slots (inherited e.tid) (same_id_inherited e.tid) (inherited_holds_none e.tid) p.threads alone;
    other = λ pid o p k alone. subst (AreAlone config.slots) (sym (other_threads pid o p)) alone;
  }

  -- after every run
  pub alone_after_run : AfterEveryRun script config (OfEveryProcess (SharesNoSlot config.slots))
  alone_after_run = every_process_keeps script config (Moves script config) (SharesNoSlot config.slots) alone_rule (moves_of_run script config)
