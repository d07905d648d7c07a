-- The threads of a process that a fork makes: it has the replica of the thread that called fork, and each other one is gone.
use Rattle.pct_names.proofs.Names.{and_parts, ap, Bool, child_of, cond, false, false≢true, has_valid_id, holds_slot, inherited, nat_eq}
use Rattle.pct_names.proofs.Names.{None, none-some, Option, option_map, Process, refl, replica_of, same_Some, Some, subst, subst₂, sym}
use Rattle.pct_names.proofs.Names.{Thread, thread_with, true, ℕ, ◌∙◌, ◌≡◌}
use Rattle.std.proofs.Common.{eq-eqb, eqb-true, ne_eqb}
use Rattle.pct_thread_invariants.proofs.lift.KeyedLists.{found_passes, item_changed}
use Rattle.pct_thread_invariants.proofs.lift.ThreadIds.{HaveIds, ids_changed}
use Rattle.pct_thread_invariants.proofs.lift.ChangedThreads.{either_keeps}
use Rattle.pct_thread_invariants.proofs.lift.MadeThreads.{HasValidId}

same_id : (tid : ℕ) (u : Thread) → (inherited tid u).id ≡ u.id
unfolding inherited
same_id tid u = either_keeps (λ (x : Thread). x.id) (has_valid_id tid u) (replica_of u) (record u { gone = true }) u refl refl

-- they have ids
pub ids_born : (slots tid new : ℕ) (p : Process) → HaveIds slots p.threads → HaveIds slots (child_of tid new p).threads
unfolding child_of
ids_born slots tid new p = ids_changed slots (inherited tid) (same_id tid) p.threads

-- the thread with an id, if there is one: the replica of thread t, which has the id tid, or one that is gone
pub data Heir (p : Process) (tid : ℕ) (t : Thread) (id : ℕ) : Option Thread → Type 0 where
  is_replica : nat_eq tid id ≡ true → Heir p tid t id (Some (replica_of t))
  is_gone : (u : Thread) → thread_with id p ≡ Some u → nat_eq tid id ≡ false → Heir p tid t id (Some (record u { gone = true }))
  has_none : nat_eq tid id ≡ false → Heir p tid t id None

-- thread t of process p called fork
module _ (tid new : ℕ) (p : Process) (t : Thread) (it : HasValidId p tid t) where
  heir_by : (id : ℕ) (before : Option Thread) → thread_with id p ≡ before → Heir p tid t id (option_map (inherited tid) before)
  unfolding inherited
  heir_by id None none = has_none (ne_eqb tid id (λ same. none-some t (sym none ∙ ap (λ (n : ℕ). thread_with n p) (sym same) ∙ it.found)))
  heir_by id (Some u) is = by_live (has_valid_id tid u) refl
    where
      is_it : tid ≡ id → u ≡ t
      is_it same = same_Some u t (sym is ∙ ap (λ (n : ℕ). thread_with n p) (sym same) ∙ it.found)

      by_live : (live : Bool) → has_valid_id tid u ≡ live → Heir p tid t id (Some (cond live (replica_of u) (record u { gone = true })))
      by_live true live =
          let same : tid ≡ id = sym (eqb-true u.id tid (and_parts (nat_eq u.id tid) (holds_slot u) live).0) ∙ eqb-true u.id id (found_passes (λ (x : Thread). nat_eq x.id id) p.threads u is) in
          subst (λ (x : Thread). Heir p tid t id (Some (replica_of x))) (sym (is_it same)) (is_replica (eq-eqb tid id same))
      by_live false other = is_gone u is (ne_eqb tid id (λ same. false≢true (sym other ∙ ap (has_valid_id tid) (is_it same) ∙ it.valid)))

  pub heir : (id : ℕ) → Heir p tid t id (thread_with id (child_of tid new p))
  unfolding child_of
  heir id = subst (Heir p tid t id) (sym (item_changed (λ (u : Thread). u.id) (inherited tid) (same_id tid) id p.threads)) (heir_by id (thread_with id p) refl)

  -- what holds of the replica, and of each other thread as one that is gone, holds of each thread of the process
  pub each_heir : (P : ℕ → Thread → Type 0) → P tid (replica_of t) → ((id : ℕ) (u : Thread) → thread_with id p ≡ Some u → P id (record u { gone = true })) → (id : ℕ) (x : Thread) → thread_with id (child_of tid new p) ≡ Some x → P id x
  each_heir P replica gone id x is = by_origin (heir id) is
    where
      by_origin : {found : Option Thread} → Heir p tid t id found → found ≡ Some x → P id x
      by_origin (is_replica named) same = subst₂ P (eqb-true tid id named) (same_Some (replica_of t) x same) replica
      by_origin (is_gone u found other) same = subst (P id) (same_Some (record u { gone = true }) x same) (gone id u found)
      by_origin (has_none other) same = absurd (none-some x same)
