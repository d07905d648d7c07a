-- The process that a fork makes: it inherits its parent as that was before the step.
use Rattle.pct_names.proofs.Names.{onces_after}
use Rattle.pct_names.proofs.Names.{◌&&◌, ◌++◌, [], AllByRecursion, and_from, and_parts, ap, ap₂, Bool, changed, child_of, cond, false}
use Rattle.pct_names.proofs.Names.{false≢true, Forking, forks_by, has_valid_id, holds_slot, in_child, inherited, is_last, List, list_any}
use Rattle.pct_names.proofs.Names.{map, moved, named_after, nat_eq, None, none-some, not, or_parts, own_after, Process, process_after, refl}
use Rattle.pct_names.proofs.Names.{replica_of, same_Some, shared_after, Some, Status, subst, sym, Thread, thread_at, thread_moved}
use Rattle.pct_names.proofs.Names.{Transition, true, was_reclaimed, with_id, World, ◌||◌, ℕ, ◌∙◌, ◌∷◌, ◌≡◌}
use Rattle.std.proofs.Common.{eqb-true}
use Rattle.pct_model.specs.declared.state.Phase.TheVariants.{Child}
use Rattle.pct_thread_invariants.proofs.lift.CreatedThreads.{Forks}
use Rattle.pct_thread_invariants.proofs.lift.KeyedLists.{AreDistinct}
use Rattle.pct_thread_invariants.proofs.lift.ThreadIds.{ids_of}

-- if a thread is the one with an id, its replica begins in the child phase of a fork with this many registrations
abbrev ForksIfIt : ℕ → ℕ → Thread → Type 0
ForksIfIt tid count u = has_valid_id tid u ≡ true → in_child u.status ≡ Forking (record { phase = Child; next = 0; length = count; answer = 0 })

module _ (tid count new : ℕ) where
  abbrev o : Transition
  o = forks_by count (Some new)

  -- ---- the threads

  -- the replica of a thread is the same after the step
  inherited_by : (u : Thread) (live : Bool) → has_valid_id tid u ≡ live → ForksIfIt tid count u → inherited tid (thread_moved tid o u) ≡ inherited tid u
  unfolding forks_by inherited thread_at own_after named_after
  inherited_by u true live forks =
      let after : Thread = moved o u in
      let parts = and_parts (nat_eq u.id tid) (holds_slot u) live in
      let here = and_parts (not u.gone) (not (was_reclaimed u)) parts.1 in
      ap (λ (b : Bool). inherited tid (cond b after u)) live
      ∙ ap (λ (b : Bool). cond b (replica_of after) (record after { gone = true })) (and_from (nat_eq u.id tid) (holds_slot after) parts.0 (and_from (not u.gone) true here.0 refl))
      ∙ ap (λ (s : Status). record (replica_of u) { status = s }) (sym (forks live))
      ∙ ap (λ (b : Bool). cond b (replica_of u) (record u { gone = true })) (sym live)
  inherited_by u false live forks = ap (λ (b : Bool). inherited tid (cond b (moved o u) u)) live

  -- and so are the threads of the child
  same_threads : (threads : List Thread) → AllByRecursion (ForksIfIt tid count) threads → map (inherited tid) (map (thread_moved tid o) threads ++ []) ≡ map (inherited tid) threads
  same_threads [] fork = refl
  same_threads (u ∷ threads) fork = ap₂ (λ (x : Thread) (xs : List Thread). x ∷ xs) (inherited_by u (has_valid_id tid u) refl fork.0) (same_threads threads fork.1)

  -- where no thread has the id
  none_forks : (threads : List Thread) → list_any (λ id. nat_eq id tid) (ids_of threads) ≡ false → AllByRecursion (ForksIfIt tid count) threads
  none_forks [] absent = tt
  none_forks (u ∷ threads) absent =
      let parts = or_parts (nat_eq u.id tid) (list_any (λ id. nat_eq id tid) (ids_of threads)) absent in
      (λ live. absurd (false≢true (sym parts.0 ∙ (and_parts (nat_eq u.id tid) (holds_slot u) live).0)), none_forks threads parts.1)

  -- where no two threads have one id, and the one that has the id is in fork
  one_forks : (t : Thread) → in_child t.status ≡ Forking (record { phase = Child; next = 0; length = count; answer = 0 }) → (threads : List Thread) → AreDistinct (ids_of threads) → with_id tid threads ≡ Some t → AllByRecursion (ForksIfIt tid count) threads
  one_forks t forks [] distinct is = absurd (none-some t is)
  one_forks t forks (u ∷ threads) distinct is = by_live (has_valid_id tid u) refl (one_forks t forks threads distinct.1) is
    where
      by_live : (live : Bool) → has_valid_id tid u ≡ live → (with_id tid threads ≡ Some t → AllByRecursion (ForksIfIt tid count) threads) → cond live (Some u) (with_id tid threads) ≡ Some t → AllByRecursion (ForksIfIt tid count) (u ∷ threads)
      by_live true live rest first =
          let id : u.id ≡ tid = eqb-true u.id tid (and_parts (nat_eq u.id tid) (holds_slot u) live).0 in
          (λ known. ap (λ (x : Thread). in_child x.status) (same_Some u t first) ∙ forks, none_forks threads (subst (λ (n : ℕ). list_any (λ id. nat_eq id n) (ids_of threads) ≡ false) id distinct.0))
      by_live false other rest later = (λ live. absurd (false≢true (sym other ∙ live)), rest later)

  -- ---- whether the thread is the last one

  -- a thread that has ended, or is the one that forks
  abbrev is_ended_or_it : Thread → Bool
  is_ended_or_it u = not (holds_slot u) || (u.ended || nat_eq u.id tid)

  it_counts : (u : Thread) → nat_eq u.id tid ≡ true → is_ended_or_it u ≡ true
  it_counts u named = ap (λ (b : Bool). not (holds_slot u) || (u.ended || b)) named ∙ ends_in_true (not (holds_slot u)) u.ended
    where
      ends_in_true : (x y : Bool) → (x || (y || true)) ≡ true
      ends_in_true true y = refl
      ends_in_true false true = refl
      ends_in_true false false = refl

  ended_by : (u : Thread) (live : Bool) → has_valid_id tid u ≡ live → is_ended_or_it (thread_moved tid o u) ≡ is_ended_or_it u
  unfolding forks_by thread_at own_after named_after
  ended_by u true live =
      let named : nat_eq u.id tid ≡ true = (and_parts (nat_eq u.id tid) (holds_slot u) live).0 in
      ap (λ (b : Bool). is_ended_or_it (cond b (moved o u) u)) live ∙ it_counts (moved o u) named ∙ sym (it_counts u named)
  ended_by u false live = ap (λ (b : Bool). is_ended_or_it (cond b (moved o u) u)) live

  same_last : (threads : List Thread) → is_last tid (map (thread_moved tid o) threads ++ []) ≡ is_last tid threads
  same_last [] = refl
  same_last (u ∷ threads) = ap₂ (λ (first rest : Bool). first && rest) (ended_by u (has_valid_id tid u) refl) (same_last threads)

  -- ---- the process

  child_by_fork : (p : Process) → AllByRecursion (ForksIfIt tid count) p.threads → child_of tid new (changed tid o p) ≡ child_of tid new p
  unfolding forks_by child_of process_after shared_after onces_after
  child_by_fork p fork =
      ap₂ (λ (last : Bool) (threads : List Thread). record { pid = new; parent = p.pid; ended = None; threads = threads; shared = record p.shared { exit_value = None; restricted = not last } })
      (same_last p.threads) (same_threads p.threads fork)

-- the process that a fork of thread t makes, where no two threads of its process have one id
pub same_child : (w : World) (t : Thread) (new : ℕ) (o : Transition) → Forks w t.status new o → (tid : ℕ) (p : Process) → AreDistinct (ids_of p.threads) → with_id tid p.threads ≡ Some t → child_of tid new (changed tid o p) ≡ child_of tid new p
same_child w t new o fork tid p distinct is =
    ap (λ (x : Transition). child_of tid new (changed tid x p)) fork.is ∙ child_by_fork tid fork.at.length new p (one_forks tid fork.at.length new t (ap in_child fork.in_fork) p.threads distinct is)
