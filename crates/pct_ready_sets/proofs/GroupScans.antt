-- A scan of the slots of a set that takes a group of slots at once, on each of which the test gives the same.
use Rattle.pct_names.proofs.Names.{◌&&◌, ◌<◌, [], ap, arith, Bool, cases_Bool, cond, false, filter, inl, inr, length, List, nat_eq, not}
use Rattle.pct_names.proofs.Names.{range_with_len, refl, slice_get, Some, subst, sym, true, ◌||◌, ℕ, ◌∙◌, ◌∷◌, ◌≡◌, ◌≤◌}
use Rattle.std.proofs.lemmas.Bool.{and_parts, eqb-true, true≢false}
use Rattle.pct_set.specs.Slots.{slots_where, has_slot, without_slot, difference_of, union_of}
use Rattle.pct_set.proofs.SlotLemmas.{slots_agree, has_where, determined}
use Rattle.pct_set.proofs.SlotScans.{Scans, scan_fewer}

module _ (p q : ℕ → Bool) (implied : (s : ℕ) → q s ≡ true → p s ≡ true) where
  filtered : (xs : List ℕ) → length (filter q xs) ≤ length (filter p xs)
  filtered [] = omega arith
  filtered (x ∷ xs) = either (p x) (q x) (implied x) (filtered xs) where
    either : (a b : Bool) → (b ≡ true → a ≡ true) → length (filter q xs) ≤ length (filter p xs) → length (cond b (x ∷ filter q xs) (filter q xs)) ≤ length (cond a (x ∷ filter p xs) (filter p xs))
    either true true has less = omega (arith, less)
    either true false has less = omega (arith, less)
    either false true has less = absurd (true≢false (sym (has refl)))
    either false false has less = less

  -- a stronger test is passed by no more slots
  no_more : length (slots_where q) ≤ length (slots_where p)
  unfolding slots_where
  no_more = filtered (range_with_len 0 64)

module _ (test : ℕ → Bool) (rest taken : List ℕ) (scans : Scans test (λ _. true) rest taken) (slot : ℕ) (alike : ℕ → Bool) (group left : List ℕ) (are : group ≡ slots_where alike) (is : left ≡ difference_of rest group) where
  left_is : left ≡ slots_where (λ s. has_slot rest s && not (alike s))
  left_is = is ∙ slots_agree _ _ (λ s small. ap (λ (b : Bool). has_slot rest s && not b) (ap (λ (set : List ℕ). has_slot set s) are ∙ has_where alike s small))

  -- without the group of the first slot there are fewer
  pub group_fewer : Some slot ≡ slice_get rest 0 → slot < 64 → alike slot ≡ true → length left < length rest
  group_fewer first small own =
      let one : length (without_slot slot rest) < length rest = scan_fewer test (λ _. true) rest taken scans slot first small (without_slot slot rest) refl in
      let others : length (slots_where (λ s. has_slot rest s && not (alike s))) ≤ length (without_slot slot rest) = no_more (λ s. not (nat_eq s slot) && has_slot rest s) (λ s. has_slot rest s && not (alike s)) (λ s passes.
      let parts = and_parts (has_slot rest s) (not (alike s)) passes in
      elim (cases_Bool (nat_eq s slot)) [
        | inl same ↦ absurd (true≢false (sym parts.1 ∙ ap not (ap alike (eqb-true s slot same) ∙ own)))
        | inr other ↦ ap (λ (b : Bool). not b && has_slot rest s) other ∙ parts.0
      ]) in
      subst (λ (set : List ℕ). length set < length rest) (sym left_is) (omega (arith, one, others))

  -- the group is taken, if its slots pass
  pub group_taken : (after : List ℕ) (b : Bool) → ((s : ℕ) → alike s ≡ true → test s ≡ b) → after ≡ cond b (union_of taken group) taken → Scans test (λ _. true) left after
  group_taken after b same next = record {
    set = left_is ∙ determined (λ s. has_slot rest s && not (alike s)) ∙ ap (λ (set : List ℕ). slots_where (has_slot set)) (sym left_is);
    held = λ s low in_set. refl;
    so_far = next ∙ by b same ∙ slots_agree _ _ (λ s small. ap (λ (x : Bool). test s && not x) (sym (ap (λ (set : List ℕ). has_slot set s) left_is ∙ has_where (λ s. has_slot rest s && not (alike s)) s small)));
  } where
    has_taken : (s : ℕ) → s < 64 → has_slot taken s ≡ (test s && not (has_slot rest s))
    has_taken s small = ap (λ (set : List ℕ). has_slot set s) scans.so_far ∙ has_where (λ s. test s && not (has_slot rest s)) s small

    has_group : (s : ℕ) → s < 64 → has_slot group s ≡ alike s
    has_group s small = ap (λ (set : List ℕ). has_slot set s) are ∙ has_where alike s small

    passing : (t r a : Bool) → (a ≡ true → t ≡ true) → ((t && not r) || a) ≡ (t && not (r && not a))
    passing true true true of = refl
    passing true true false of = refl
    passing true false true of = refl
    passing true false false of = refl
    passing false r true of = absurd (true≢false (sym (of refl)))
    passing false r false of = refl

    failing : (t r a : Bool) → (a ≡ true → t ≡ false) → (t && not r) ≡ (t && not (r && not a))
    failing true r true of = absurd (true≢false (of refl))
    failing true true false of = refl
    failing true false false of = refl
    failing false r a of = refl

    by : (b : Bool) → ((s : ℕ) → alike s ≡ true → test s ≡ b) → cond b (union_of taken group) taken ≡ slots_where (λ s. test s && not (has_slot rest s && not (alike s)))
    by true same = slots_agree _ _ (λ s small. (λ i. has_taken s small i || has_group s small i) ∙ passing (test s) (has_slot rest s) (alike s) (same s))
    by false same = scans.so_far ∙ slots_agree _ _ (λ s small. failing (test s) (has_slot rest s) (alike s) (same s))
