-- The threads that wait on a condition variable, in the words of the law: those that a thread sees wait there.
use Rattle.pct_names.proofs.Names.{◌&&◌, ◌*◌, ◌+◌, ◌-◌, ◌<◌, [], and_parts, ap, arith, Bool, by_slot, cond, count_by, eqb-false, false}
use Rattle.pct_names.proofs.Names.{false≢true, find, is_on, is_waiting_on, length, List, list_any, map, mod_below, nat_eq, none-some, not}
use Rattle.pct_names.proofs.Names.{pos_of_ne-zero, refl, slot_of, Some, Status, subst, sym, Thread, true, Waiter, waiters_among, ◌||◌, ℕ}
use Rattle.pct_names.proofs.Names.{◌∙◌, ◌∷◌, ◌≡◌}
use Rattle.std.proofs.Common.{eq-eqb, eqb-true, ne_eqb, true≢false}
use Rattle.std.proofs.Math.Path.{fun_ext}
use Rattle.pct_model.specs.declared.state.Status.TheVariants as status
use Rattle.pct_laws.specs.WakeLaw.{is_blocked_on, is_waiter, waits_with_id}
use Rattle.pct_thread_invariants.proofs.lift.KeyedLists.{index_among}
use Rattle.pct_thread_invariants.proofs.lift.ThreadIds.{HaveIds, ids_of}
use Rattle.pct_wake_laws.proofs.WaitingThreads.{any_counted, count_some, count_waiting, waits_by_id, waits_on}

-- ---- the words of the law

pub same_blocked : (c : ℕ) (s : Status) → is_waiting_on c s ≡ is_blocked_on c s
same_blocked c (status.Waiting cond m) = refl
same_blocked c _ = refl

pub same_waiter : (c : ℕ) → waits_on c ≡ is_waiter c
same_waiter c = fun_ext (λ (t : Thread). ap (λ (b : Bool). not t.gone && b) (same_blocked c t.status))

-- ---- lists

pub find_some : {X : Type 0} (p q : X → Bool) → ((x : X) → p x ≡ true → q x ≡ true) → (xs : List X) → list_any p xs ≡ true → (x : X) × (find q xs ≡ Some x)
find_some p q weaker [] any = absurd (false≢true any)
find_some {X} p q weaker (x ∷ xs) any = by (p x) (q x) refl refl (find_some p q weaker xs) any
  where
    by : (passes weak : Bool) → p x ≡ passes → q x ≡ weak → (list_any p xs ≡ true → (y : X) × (find q xs ≡ Some y)) → (passes || list_any p xs) ≡ true → (y : X) × (cond weak (Some x) (find q xs) ≡ Some y)
    by passes true is weak later any = (x, refl)
    by true false is weak later any = absurd (true≢false (sym (weaker x is) ∙ weak))
    by false false is weak later any = later any

any_found : {X : Type 0} (p : X → Bool) (xs : List X) (x : X) → find p xs ≡ Some x → list_any p xs ≡ true
any_found p [] x found = absurd (none-some x found)
any_found {X} p (y ∷ xs) x found = by (p y) (any_found p xs x) found
  where
    by : (passes : Bool) → (find p xs ≡ Some x → list_any p xs ≡ true) → cond passes (Some y) (find p xs) ≡ Some x → (passes || list_any p xs) ≡ true
    by true later found = refl
    by false later found = later found

none_counted : {X : Type 0} (p : X → Bool) (xs : List X) → nat_eq (count_by p xs) 0 ≡ not (list_any p xs)
none_counted p xs = by (nat_eq (count_by p xs) 0) (list_any p xs) refl refl
  where
    by : (none any : Bool) → nat_eq (count_by p xs) 0 ≡ none → list_any p xs ≡ any → none ≡ not any
    by true true none any = absurd (omega (arith, eqb-true (count_by p xs) 0 none, count_some p xs any))
    by false true none any = refl
    by true false none any = refl
    by false false none any = absurd (false≢true (sym any ∙ any_counted p xs (pos_of_ne-zero (eqb-false (count_by p xs) 0 none))))

-- ---- ids

pub has_number : (slots : ℕ) (threads : List Thread) → HaveIds slots threads → 0 < slots → (id : ℕ) → list_any (λ n. nat_eq n id) (ids_of threads) ≡ true → nat_eq 0 id ≡ false
has_number slots threads have some id among =
    let s : ℕ = slot_of slots id in
    let at = index_among (λ (t : Thread). t.id) (is_on slots s) id (λ t named. eq-eqb (slot_of slots t.id) s (ap (slot_of slots) (eqb-true t.id id named))) threads among in
    let number : at.1.id ≡ 1 + s + slots * at.0 = have.numbers s at.0 at.1 (mod_below (id - 1) slots some) at.2 in
    ne_eqb 0 id (λ zero. absurd (omega (arith, number, at.3, zero)))

-- an item that is found by its number has this number
pub found_among : {X : Type 0} (key : X → ℕ) (n : ℕ) (xs : List X) (x : X) → find (λ y. nat_eq (key y) n) xs ≡ Some x → list_any (λ m. nat_eq m n) (map key xs) ≡ true
found_among key n [] x found = absurd (none-some x found)
found_among {X} key n (y ∷ xs) x found = by (nat_eq (key y) n) (found_among key n xs x) found
  where
    by : (same : Bool) → (find (λ z. nat_eq (key z) n) xs ≡ Some x → list_any (λ m. nat_eq m n) (map key xs) ≡ true) → cond same (Some y) (find (λ z. nat_eq (key z) n) xs) ≡ Some x → (same || list_any (λ m. nat_eq m n) (map key xs)) ≡ true
    by true later found = refl
    by false later found = later found

-- ---- those that wait

module _ (slots c : ℕ) (threads : List Thread) (some : 0 < slots) where
  abbrev seen : List Waiter
  seen = waiters_among c (by_slot slots threads)

  -- one that is seen to wait
  pub waits_seen : (u : ℕ) → list_any (λ (w : Waiter). nat_eq u w.id) seen ≡ true → waits_with_id c u threads ≡ true
  waits_seen u among = subst (λ (waits : Thread → Bool). list_any (λ (t : Thread). waits t && nat_eq u t.id) threads ≡ true) (same_waiter c) (waits_by_id slots c u threads some among)

  -- none is
  pub none_seen : seen ≡ [] → list_any (is_waiter c) threads ≡ false
  none_seen none = not_any (list_any (is_waiter c) threads) (sym (none_counted (is_waiter c) threads) ∙ eq-eqb (count_by (is_waiter c) threads) 0
      (ap (λ (waits : Thread → Bool). count_by waits threads) (sym (same_waiter c)) ∙ sym (count_waiting slots c threads some) ∙ ap (λ (waiters : List Waiter). length waiters) none))
    where
      not_any : (any : Bool) → not any ≡ true → any ≡ false
      not_any true is = absurd (false≢true is)
      not_any false is = refl

-- one with an id waits, so one waits
pub some_waits : (c u : ℕ) (threads : List Thread) → waits_with_id c u threads ≡ true → list_any (is_waiter c) threads ≡ true
some_waits c u threads waits =
    let found = find_some (λ (t : Thread). is_waiter c t && nat_eq u t.id) (is_waiter c) (λ t both. (and_parts (is_waiter c t) (nat_eq u t.id) both).0) threads waits in
    any_found (is_waiter c) threads found.0 found.1

-- and its id is not 0
pub waiter_numbered : (slots c u : ℕ) (threads : List Thread) → HaveIds slots threads → 0 < slots → waits_with_id c u threads ≡ true → nat_eq u 0 ≡ false
waiter_numbered slots c u threads have some waits =
    let found = find_some (λ (t : Thread). is_waiter c t && nat_eq u t.id) (λ t. nat_eq t.id u) (λ t both. eq-eqb t.id u (sym (eqb-true u t.id (and_parts (is_waiter c t) (nat_eq u t.id) both).1))) threads waits in
    ne_eqb u 0 (λ zero. eqb-false 0 u (has_number slots threads have some u (found_among (λ (t : Thread). t.id) u threads found.0 found.1)) (sym zero))
