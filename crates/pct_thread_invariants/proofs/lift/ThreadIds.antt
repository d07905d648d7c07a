-- The ids of the threads of a process: on each slot they are numbered in order, and so no two threads have one id.
use Rattle.pct_names.proofs.Names.{◌%◌, ◌*◌, ◌+◌, ◌++◌, ◌-◌, ◌<◌, [], ap, arith, count_by, false, false_from_ne_true, filter, filter-append}
use Rattle.pct_names.proofs.Names.{free_ids, HasThreadNumbers, inl, inr, is_free, is_on, length, length-filter, length-map, List, list_any}
use Rattle.pct_names.proofs.Names.{map, map-append, mod-mul-add, mul-lt-mul_of_pos_left, mul_comm, nat_eq, new_frame, new_thread, NewThread}
use Rattle.pct_names.proofs.Names.{next_id, None, Option, refl, slice_get, slice_get-map, slice_get_within, slot_of, Some, Start, subst}
use Rattle.pct_names.proofs.Names.{sym, Thread, thread_created, true, ℕ, ◌∙◌, ◌∷◌, ◌≡◌, ◌⊎◌}
use Rattle.std.proofs.Common.{eqb-true, eq-eqb, append-nil}
use Rattle.pct_thread_invariants.proofs.lift.OfferedNumbers.{from_range}
use Rattle.pct_thread_invariants.proofs.lift.KeyedLists.{AreDistinct, distinct_push, index_among, keys_changed, filter_changed, item_pushed}
use Rattle.pct_thread_invariants.proofs.lift.KeyedLists.{mapped_some}

-- the ids of these threads
abbrev pub ids_of : List Thread → List ℕ
ids_of threads = map (λ t. t.id) threads

-- the threads are numbered, and no two have one id
pub record HaveIds (slots : ℕ) (threads : List Thread) : Type 0 where
  pub numbers : HasThreadNumbers slots threads
  pub distinct : AreDistinct (ids_of threads)

-- ---- the id of a new thread

-- the id is the next one of a slot
abbrev IsNextId : ℕ → List Thread → ℕ → Type 0
IsNextId slots threads id = (s : ℕ) × (s < slots) × (id ≡ next_id slots threads s)

-- an id that is free is the next one of a slot
pub is_next_id : (slots : ℕ) (threads : List Thread) (id : ℕ) → list_any (nat_eq id) (free_ids slots threads) ≡ true → IsNextId slots threads id
unfolding free_ids
is_next_id slots threads id among = let of = from_range (next_id slots threads) (is_free slots threads) slots id 0 slots (omega arith) among in (of.item, of.low, of.is)

-- the next id of a slot is on that slot
pub slot_of_next : (slots s n : ℕ) → s < slots → slot_of slots (1 + s + slots * n) ≡ s
slot_of_next slots s n low =
    let product : slots * n ≡ n * slots = mul_comm slots n in
    let before : 1 + s + slots * n - 1 ≡ n * slots + s = omega (arith, product) in
    ap (λ (id : ℕ). id % slots) before ∙ mod-mul-add n slots s low

-- ---- a new thread

module _ (slots : ℕ) (threads : List Thread) (have : HaveIds slots threads) (new : Thread) (next : IsNextId slots threads new.id) where
  -- no thread has the id of the new one: the threads on its slot have lesser ids
  pub is_fresh : 0 < slots → list_any (λ id. nat_eq id new.id) (ids_of threads) ≡ false
  is_fresh some = false_from_ne_true (list_any (λ id. nat_eq id new.id) (ids_of threads)) (λ among.
      let s : ℕ = next.0 in
      let on : (t : Thread) → nat_eq t.id new.id ≡ true → is_on slots s t ≡ true = λ t named.
      eq-eqb (slot_of slots t.id) s (ap (slot_of slots) (eqb-true t.id new.id named ∙ next.2) ∙ slot_of_next slots s (count_by (is_on slots s) threads) next.1) in
      let at = index_among (λ (t : Thread). t.id) (is_on slots s) new.id on threads among in
      let k : ℕ = at.0 in
      let number : at.1.id ≡ 1 + s + slots * k = have.numbers s k at.1 next.1 at.2 in
      let before : k < count_by (is_on slots s) threads = subst (λ (n : ℕ). k < n) (length-filter (is_on slots s) threads) (slice_get_within (filter (is_on slots s) threads) k at.1 at.2) in
      let less : slots * k < slots * count_by (is_on slots s) threads = mul-lt-mul_of_pos_left before some in
      omega (arith, number, less, at.3, next.2))

  numbered_by : (s k : ℕ) (t : Thread) → s < slots → (slice_get (filter (is_on slots s) threads) k ≡ Some t) ⊎ ((is_on slots s new ≡ true) × (k ≡ length (filter (is_on slots s) threads)) × (new ≡ t)) → t.id ≡ 1 + s + slots * k
  numbered_by s k t low (inl at) = have.numbers s k t low at
  numbered_by s k t low (inr last) =
      let on : slot_of slots new.id ≡ s = eqb-true (slot_of slots new.id) s last.0 in
      let same : next.0 ≡ s = sym (slot_of_next slots next.0 (count_by (is_on slots next.0) threads) next.1) ∙ ap (slot_of slots) (sym next.2) ∙ on in
      let number : new.id ≡ next_id slots threads s = next.2 ∙ ap (next_id slots threads) same in
      let index : k ≡ count_by (is_on slots s) threads = last.1 ∙ length-filter (is_on slots s) threads in
      ap (λ (u : Thread). u.id) (sym last.2) ∙ number ∙ ap (λ n. 1 + s + slots * n) (sym index)

  -- the threads with the new one
  pub ids_pushed : 0 < slots → HaveIds slots (threads ++ new ∷ [])
  ids_pushed some = record {
    numbers = λ s k t low at. numbered_by s k t low (item_pushed (filter (is_on slots s) threads) new (is_on slots s new) k t (ap (λ (on : List Thread). slice_get on k) (sym (filter-append (is_on slots s) threads (new ∷ []))) ∙ at));
    distinct = subst AreDistinct (sym (map-append (λ (t : Thread). t.id) threads (new ∷ []))) (distinct_push (ids_of threads) new.id (is_fresh some) have.distinct);
  }

-- ---- changed threads

module _ (slots : ℕ) (change : Thread → Thread) (same_id : (t : Thread) → (change t).id ≡ t.id) (threads : List Thread) where
  -- the threads on a slot
  changed_on : (s : ℕ) → filter (is_on slots s) (map change threads) ≡ map change (filter (is_on slots s) threads)
  changed_on s = filter_changed (is_on slots s) change (λ t. ap (λ (id : ℕ). nat_eq (slot_of slots id) s) (same_id t)) threads

  numbers_changed : HasThreadNumbers slots threads → HasThreadNumbers slots (map change threads)
  numbers_changed have s k t low at =
      let on : List Thread = filter (is_on slots s) threads in
      let from = mapped_some change (slice_get on k) t (sym (slice_get-map change on k) ∙ ap (λ (found : List Thread). slice_get found k) (sym (changed_on s)) ∙ at) in
      ap (λ (u : Thread). u.id) (sym from.2) ∙ same_id from.0 ∙ have s k from.0 low from.1

  pub ids_changed : HaveIds slots threads → HaveIds slots (map change threads)
  ids_changed have = record {
    numbers = numbers_changed have.numbers;
    distinct = subst AreDistinct (sym (keys_changed (λ (t : Thread). t.id) change same_id threads)) have.distinct;
  }

  -- as many threads are on a slot as before
  count_changed : (s : ℕ) → count_by (is_on slots s) (map change threads) ≡ count_by (is_on slots s) threads
  count_changed s =
      sym (length-filter (is_on slots s) (map change threads)) ∙ ap length (changed_on s) ∙ length-map (filter (is_on slots s) threads) change ∙ length-filter (is_on slots s) threads

  -- the ids after a transition that changes the threads so, and may create one
  pub ids_after : (created : Option NewThread) → 0 < slots → ((new : NewThread) → created ≡ Some new → list_any (nat_eq new.id) (free_ids slots threads) ≡ true) → HaveIds slots threads → HaveIds slots (map change threads ++ thread_created created)
  ids_after None some next have = subst (HaveIds slots) (sym (append-nil (map change threads))) (ids_changed have)
  ids_after (Some new) some next have =
      let id = is_next_id slots threads new.id (next new refl) in
      ids_pushed slots (map change threads) (ids_changed have) (new_thread new.id new.detached (new_frame new.func new.arg Start))
      (id.0, id.1, id.2 ∙ ap (λ n. 1 + id.0 + slots * n) (sym (count_changed id.0))) some
