-- The threads of a process that wait on a condition variable, as a thread sees them by rising slot, are all threads of the process that
-- wait there; and where no number is offered, nothing is free.
use Rattle.pct_names.proofs.Names.{◌&&◌, ◌+◌, ◌-◌, ◌<◌, [], ap, arith, Bool, by_slot, cond, count_by, eq-or-lt_of_le, false, false≢true}
use Rattle.pct_names.proofs.Names.{filter, flat_map, flat_map-cons, free_ids, free_places, holds_slot, inl, inr, is_ended_status, is_free}
use Rattle.pct_names.proofs.Names.{is_none, is_on, is_some, is_waiting_on, key_at, KeyPlace, length, List, list_all, list_any, map}
use Rattle.pct_names.proofs.Names.{MAX_KEYS, mod_below, nat_eq, new_keys, next_id, next_key, None, not, Option, range_with_len, refl}
use Rattle.pct_names.proofs.Names.{slot_of, Some, Status, suc, sum_by-cons, sym, Thread, true, Waiter, waiter_by, waiters_among, zero, ◌||◌}
use Rattle.pct_names.proofs.Names.{ℕ, ◌∙◌, ◌∷◌, ◌≡◌, ◌≤◌, ◌⊎◌}
use Rattle.std.proofs.Common.{eqb-true, eq-eqb}
use Rattle.std.proofs.lemmas.Bool.{true≢false}
use Rattle.std.proofs.lemmas.List.Sums.{sum_by-append}
use Rattle.std.specs.List.{sum_by}
use Rattle.pct_model.specs.declared.state.Status.TheVariants as status
use Rattle.pct_model.specs.LineParsing.{is_empty}
use Rattle.pct_laws.specs.StatementLaw.{all_slots_held, all_places_taken}

-- the thread waits on condition variable c, and its process inherited it, in the words of the machine
abbrev pub waits_on : ℕ → Thread → Bool
waits_on c t = not t.gone && is_waiting_on c t.status

-- ---- sums

-- sums of the same numbers
sum_same : {X : Type 0} (f g : X → ℕ) → ((x : X) → f x ≡ g x) → (xs : List X) → sum_by f xs ≡ sum_by g xs
sum_same f g same [] = refl
sum_same f g same (x ∷ xs) = omega (arith, sum_by-cons f x xs, sum_by-cons g x xs, same x, sum_same f g same xs)

sum_of_none : {X : Type 0} (f : X → ℕ) → ((x : X) → f x ≡ 0) → (xs : List X) → sum_by f xs ≡ 0
sum_of_none f none [] = refl
sum_of_none f none (x ∷ xs) = omega (arith, sum_by-cons f x xs, none x, sum_of_none f none xs)

sum_of_ones : {X : Type 0} (xs : List X) → length xs ≡ sum_by (λ (x : X). 1) xs
sum_of_ones [] = refl
sum_of_ones {X} (x ∷ xs) = omega (arith, sum_by-cons (λ (x : X). 1) x xs, sum_of_ones xs)

sum_added : {X : Type 0} (f g : X → ℕ) (xs : List X) → sum_by (λ x. f x + g x) xs ≡ sum_by f xs + sum_by g xs
sum_added f g [] = refl
sum_added f g (x ∷ xs) = omega (arith, sum_by-cons f x xs, sum_by-cons g x xs, sum_by-cons (λ x. f x + g x) x xs, sum_added f g xs)

sum_of_lists : {X A : Type 0} (f : X → List A) (g : A → ℕ) (xs : List X) → sum_by g (flat_map f xs) ≡ sum_by (λ x. sum_by g (f x)) xs
sum_of_lists f g [] = refl
sum_of_lists f g (x ∷ xs) = ap (sum_by g) (flat_map-cons f x xs) ∙ omega (arith, sum_by-append g (f x) (flat_map f xs), sum_by-cons (λ x. sum_by g (f x)) x xs, sum_of_lists f g xs)

sum_of_some : {X : Type 0} (p : X → Bool) (g : X → ℕ) (xs : List X) → sum_by g (filter p xs) ≡ sum_by (λ x. cond (p x) (g x) 0) xs
sum_of_some p g [] = refl
sum_of_some {X} p g (x ∷ xs) = by (p x) refl (sum_of_some p g xs)
  where
    by : (passes : Bool) → p x ≡ passes → sum_by g (filter p xs) ≡ sum_by (λ x. cond (p x) (g x) 0) xs → sum_by g (cond passes (x ∷ filter p xs) (filter p xs)) ≡ sum_by (λ x. cond (p x) (g x) 0) (x ∷ xs)
    by true is later = let here : cond (p x) (g x) 0 ≡ g x = ap (λ (b : Bool). cond b (g x) 0) is in omega (arith, sum_by-cons g x (filter p xs), sum_by-cons (λ x. cond (p x) (g x) 0) x xs, here, later)
    by false is later = let here : cond (p x) (g x) 0 ≡ 0 = ap (λ (b : Bool). cond b (g x) 0) is in omega (arith, sum_by-cons (λ x. cond (p x) (g x) 0) x xs, here, later)

-- a table is summed by rows or by columns
sum_swapped : {X Y : Type 0} (h : X → Y → ℕ) (xs : List X) (ys : List Y) → sum_by (λ x. sum_by (h x) ys) xs ≡ sum_by (λ y. sum_by (λ x. h x y) xs) ys
sum_swapped h [] ys = sym (sum_of_none (λ y. sum_by (λ x. h x y) []) (λ y. refl) ys)
sum_swapped h (x ∷ xs) ys =
    omega (arith, sum_by-cons (λ x. sum_by (h x) ys) x xs, sum_swapped h xs ys, sum_added (h x) (λ y. sum_by (λ x. h x y) xs) ys, sum_same (λ y. sum_by (λ x. h x y) (x ∷ xs)) (λ y. h x y + sum_by (λ x. h x y) xs) (λ y. sum_by-cons (λ x. h x y) x xs) ys)

-- ---- one slot

-- a number is none of those after it, and one of those around it
not_later : (k v a n : ℕ) → k < a → sum_by (λ s. cond (nat_eq k s) v 0) (range_with_len a n) ≡ 0
not_later k v a zero less = refl
not_later k v a (suc n) less = by (nat_eq k a) refl (not_later k v (a + 1) n (omega (arith, less)))
  where
    by : (same : Bool) → nat_eq k a ≡ same → sum_by (λ s. cond (nat_eq k s) v 0) (range_with_len (a + 1) n) ≡ 0 → sum_by (λ s. cond (nat_eq k s) v 0) (a ∷ range_with_len (a + 1) n) ≡ 0
    by true same later = let is : k ≡ a = eqb-true k a same in absurd (omega (arith, is, less))
    by false same later =
        let here : cond (nat_eq k a) v 0 ≡ 0 = ap (λ (b : Bool). cond b v 0) same in
        omega (arith, sum_by-cons (λ s. cond (nat_eq k s) v 0) a (range_with_len (a + 1) n), here, later)

once : (k v a n : ℕ) → a ≤ k → k < a + n → sum_by (λ s. cond (nat_eq k s) v 0) (range_with_len a n) ≡ v
once k v a zero low high = absurd (omega (arith, low, high))
once k v a (suc n) low high = by (nat_eq k a) refl (λ above. once k v (a + 1) n (omega (arith, above)) (omega (arith, high)))
  where
    by : (same : Bool) → nat_eq k a ≡ same → (a < k → sum_by (λ s. cond (nat_eq k s) v 0) (range_with_len (a + 1) n) ≡ v) → sum_by (λ s. cond (nat_eq k s) v 0) (a ∷ range_with_len (a + 1) n) ≡ v
    by true same later =
        let here : cond (nat_eq k a) v 0 ≡ v = ap (λ (b : Bool). cond b v 0) same in
        let is : k ≡ a = eqb-true k a same in
        omega (arith, sum_by-cons (λ s. cond (nat_eq k s) v 0) a (range_with_len (a + 1) n), here, not_later k v (a + 1) n (omega (arith, is)))
    by false same later =
        let here : cond (nat_eq k a) v 0 ≡ 0 = ap (λ (b : Bool). cond b v 0) same in
        let other : a < k = after (eq-or-lt_of_le low) (λ is. true≢false (sym (eq-eqb k a (sym is)) ∙ same)) in
        omega (arith, sum_by-cons (λ s. cond (nat_eq k s) v 0) a (range_with_len (a + 1) n), here, later other)
      where
        after : (a ≡ k) ⊎ (a < k) → (a ≡ k → ⊥) → a < k
        after (inl is) differs = absurd (differs is)
        after (inr less) differs = less

-- ---- waiting threads

-- a thread that waits holds its slot, unless its process did not inherit it
waits_there : (c id : ℕ) (v : ℕ → ℕ) (gone released : Bool) (s : Status) → cond (not gone && not (is_ended_status s && released)) (sum_by (λ (w : Waiter). v w.id) (waiter_by c id s)) 0 ≡ cond (not gone && is_waiting_on c s) (v id) 0
waits_there c id v true released s = refl
waits_there c id v false released (status.Waiting d m) = by (nat_eq d c)
  where
    by : (same : Bool) → sum_by (λ (w : Waiter). v w.id) (cond same (record { id = id; mutex = m } ∷ []) []) ≡ cond same (v id) 0
    by true = omega (arith, sum_by-cons (λ (w : Waiter). v w.id) (record { id = id; mutex = m }) [])
    by false = refl
waits_there c id v false true (status.Ended n) = refl
waits_there c id v false false (status.Ended n) = refl
waits_there c id v false released _ = refl

module _ (slots c : ℕ) (threads : List Thread) (some : 0 < slots) (v : ℕ → ℕ) where
  on_its_slot : (t : Thread) → sum_by (λ s. cond (is_on slots s t && holds_slot t) (sum_by (λ (w : Waiter). v w.id) (waiter_by c t.id t.status)) 0) (range_with_len 0 slots) ≡ cond (waits_on c t) (v t.id) 0
  on_its_slot t =
      let own : ℕ = cond (holds_slot t) (sum_by (λ (w : Waiter). v w.id) (waiter_by c t.id t.status)) 0 in
      sum_same _ (λ s. cond (nat_eq (slot_of slots t.id) s) own 0) (λ s. both (is_on slots s t) (holds_slot t) _) (range_with_len 0 slots)
      ∙ once (slot_of slots t.id) own 0 slots (omega arith) (omega (arith, mod_below (t.id - 1) slots some))
      ∙ waits_there c t.id v t.gone (t.joined || t.detached) t.status
    where
      both : (on holds : Bool) (n : ℕ) → cond (on && holds) n 0 ≡ cond on (cond holds n 0) 0
      both true holds n = refl
      both false holds n = refl

  -- what is summed over the threads that are seen to wait is summed over those that wait
  pub sum_waiting : sum_by (λ (w : Waiter). v w.id) (waiters_among c (by_slot slots threads)) ≡ sum_by (λ (t : Thread). cond (waits_on c t) (v t.id) 0) threads
  sum_waiting =
      let g : Waiter → ℕ = λ w. v w.id in
      let seen : Thread → List Waiter = λ t. waiter_by c t.id t.status in
      let row : ℕ → List Thread = λ s. filter (λ t. is_on slots s t && holds_slot t) threads in
      sum_of_lists seen g (by_slot slots threads)
      ∙ sum_of_lists row (λ t. sum_by g (seen t)) (range_with_len 0 slots)
      ∙ sum_same _ (λ s. sum_by (λ t. cond (is_on slots s t && holds_slot t) (sum_by g (seen t)) 0) threads) (λ s. sum_of_some (λ t. is_on slots s t && holds_slot t) (λ t. sum_by g (seen t)) threads) (range_with_len 0 slots)
      ∙ sum_swapped (λ s t. cond (is_on slots s t && holds_slot t) (sum_by g (seen t)) 0) (range_with_len 0 slots) threads
      ∙ sum_same _ (λ t. cond (waits_on c t) (v t.id) 0) on_its_slot threads

-- the number of threads that wait
pub count_waiting : (slots c : ℕ) (threads : List Thread) → 0 < slots → length (waiters_among c (by_slot slots threads)) ≡ count_by (waits_on c) threads
count_waiting slots c threads some = sum_of_ones (waiters_among c (by_slot slots threads)) ∙ sum_waiting slots c threads some (λ id. 1)

-- a test that some item passes
pub any_counted : {X : Type 0} (p : X → Bool) (xs : List X) → 0 < count_by p xs → list_any p xs ≡ true
any_counted p [] some = absurd (omega (arith, some))
any_counted p (x ∷ xs) some = by (p x) refl (any_counted p xs)
  where
    by : (passes : Bool) → p x ≡ passes → (0 < count_by p xs → list_any p xs ≡ true) → (passes || list_any p xs) ≡ true
    by true is later = refl
    by false is later = let here : ◌≡◌ {A = ℕ} (cond (p x) 1 0) 0 = ap (λ (b : Bool). cond b 1 0) is in later (omega (arith, sum_by-cons (λ x. cond (p x) 1 0) x xs, here, some))

pub count_some : {X : Type 0} (p : X → Bool) (xs : List X) → list_any p xs ≡ true → 0 < count_by p xs
count_some p [] any = absurd (false≢true any)
count_some p (x ∷ xs) any = by (p x) refl (count_some p xs) any
  where
    by : (passes : Bool) → p x ≡ passes → (list_any p xs ≡ true → 0 < count_by p xs) → (passes || list_any p xs) ≡ true → 0 < count_by p (x ∷ xs)
    by true is later any = let here : ◌≡◌ {A = ℕ} (cond (p x) 1 0) 1 = ap (λ (b : Bool). cond b 1 0) is in omega (arith, sum_by-cons (λ x. cond (p x) 1 0) x xs, here)
    by false is later any = omega (arith, sum_by-cons (λ x. cond (p x) 1 0) x xs, later any)

-- a thread that is seen to wait is one that waits
pub waits_by_id : (slots c id : ℕ) (threads : List Thread) → 0 < slots → list_any (λ (w : Waiter). nat_eq id w.id) (waiters_among c (by_slot slots threads)) ≡ true → list_any (λ (t : Thread). waits_on c t && nat_eq id t.id) threads ≡ true
waits_by_id slots c id threads some seen =
    any_counted (λ (t : Thread). waits_on c t && nat_eq id t.id) threads
    (let same : sum_by (λ (t : Thread). cond (waits_on c t) (cond (nat_eq id t.id) 1 0) 0) threads ≡ count_by (λ (t : Thread). waits_on c t && nat_eq id t.id) threads = sum_same _ _ (λ t. both (waits_on c t) (nat_eq id t.id)) threads in
    omega (arith, count_some (λ (w : Waiter). nat_eq id w.id) (waiters_among c (by_slot slots threads)) seen, sum_waiting slots c threads some (λ n. cond (nat_eq id n) 1 0), same))
  where
    both : (waits is : Bool) → ◌≡◌ {A = ℕ} (cond waits (cond is 1 0) 0) (cond (waits && is) 1 0)
    both true is = refl
    both false is = refl

-- ---- nothing free

none_free : {X : Type 0} (f : X → ℕ) (free taken : X → Bool) → ((x : X) → free x ≡ not (taken x)) → (xs : List X) → is_empty (map f (filter free xs)) ≡ true → list_all taken xs ≡ true
none_free f free taken other [] none = refl
none_free f free taken other (x ∷ xs) none = by (taken x) (free x) refl (other x) (none_free f free taken other xs) none
  where
    by : (is passes : Bool) → taken x ≡ is → passes ≡ not (taken x) → (is_empty (map f (filter free xs)) ≡ true → list_all taken xs ≡ true) → is_empty (map f (cond passes (x ∷ filter free xs) (filter free xs))) ≡ true → (is && list_all taken xs) ≡ true
    by true true is opposite later none = absurd (true≢false (opposite ∙ ap not is))
    by true false is opposite later none = later none
    by false true is opposite later none = absurd (false≢true none)
    by false false is opposite later none = absurd (false≢true (opposite ∙ ap not is))

pub no_free_slot : (slots : ℕ) (threads : List Thread) → is_empty (free_ids slots threads) ≡ true → all_slots_held slots threads ≡ true
unfolding free_ids
no_free_slot slots threads = none_free (next_id slots threads) (is_free slots threads) (λ s. list_any (λ (t : Thread). nat_eq (slot_of slots t.id) s && holds_slot t) threads) (λ s. refl) (range_with_len 0 slots)

pub no_free_place : (keys : List KeyPlace) → is_empty (new_keys keys) ≡ true → all_places_taken keys ≡ true
unfolding free_places
no_free_place keys = none_free (next_key keys) (λ place. is_none (key_at keys place)) (λ place. is_some (key_at keys place)) (λ place. opposite (key_at keys place)) (range_with_len 0 MAX_KEYS)
  where
    opposite : {X : Type 0} (found : Option X) → is_none found ≡ not (is_some found)
    opposite (Some x) = refl
    opposite None = refl
