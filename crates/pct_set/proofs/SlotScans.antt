-- A scan of the slots of a set, for those that pass a test.
use Rattle.std.proofs.Common.{◌≡◌, ℕ, ◌<◌, ◌≤◌, Bool, true, false, not, ◌&&◌, ◌||◌, cond, List, [], ◌∷◌, length, Some, None, refl, sym, ap, ◌∙◌, subst, inl, inr, arith}
use Rattle.std.specs.Prelude.{filter, nat_eq, slice_get}
use Rattle.std.specs.List.{range_with_len, list_any}
use Rattle.std.proofs.Math.Bool.{and-true}
use Rattle.std.proofs.lemmas.Bool.{cases_eq, cases_Bool, and_parts, eq-eqb, ne_eqb, false≢true}
use Rattle.std.proofs.lemmas.Option.{none-some, same_Some}
use Rattle.pct_set.specs.Slots.{slots_where, has_slot, with_slot, without_slot}
use Rattle.pct_set.proofs.SlotLemmas.{slots_agree, has_where, with_slot-where, determined}

-- the slot passes the test, and is not in the set
abbrev passes_outside : (ℕ → Bool) → List ℕ → ℕ → Bool
passes_outside test rest s = test s && not (has_slot rest s)

-- the first slot of a set
pub first_has : (set : List ℕ) (slot : ℕ) → slice_get set 0 ≡ Some slot → has_slot set slot ≡ true
unfolding has_slot
first_has [] slot first = absurd (none-some slot first)
first_has (x ∷ xs) slot first = ap (λ b. b || list_any (λ s. nat_eq s slot) xs) (eq-eqb x slot (same_Some x slot first))

module _ (slot : ℕ) (p : ℕ → Bool) where
  -- without a slot there are not more
  no_more : (xs : List ℕ) → length (filter (λ s. not (nat_eq s slot) && p s) xs) ≤ length (filter p xs)
  no_more [] = omega arith
  no_more (x ∷ xs) = either (not (nat_eq x slot)) (p x) (no_more xs) where
    either : (a b : Bool) → length (filter (λ s. not (nat_eq s slot) && p s) xs) ≤ length (filter p xs) → length (cond (a && b) (x ∷ filter (λ s. not (nat_eq s slot) && p s) xs) (filter (λ s. not (nat_eq s slot) && p s) xs)) ≤ length (cond b (x ∷ filter p xs) (filter p xs))
    either true true less = omega (arith, less)
    either true false less = less
    either false true less = omega (arith, less)
    either false false less = less

  -- and fewer, if it was there
  fewer : (xs : List ℕ) → list_any (λ s. nat_eq s slot) (filter p xs) ≡ true → length (filter (λ s. not (nat_eq s slot) && p s) xs) < length (filter p xs)
  fewer [] there = absurd (false≢true there)
  fewer (x ∷ xs) there = either (nat_eq x slot) (p x) refl there (no_more xs) (fewer xs) where
    either : (a b : Bool) → nat_eq x slot ≡ a → list_any (λ s. nat_eq s slot) (cond b (x ∷ filter p xs) (filter p xs)) ≡ true → length (filter (λ s. not (nat_eq s slot) && p s) xs) ≤ length (filter p xs)
        → (list_any (λ s. nat_eq s slot) (filter p xs) ≡ true → length (filter (λ s. not (nat_eq s slot) && p s) xs) < length (filter p xs)) → length (cond (not a && b) (x ∷ filter (λ s. not (nat_eq s slot) && p s) xs) (filter (λ s. not (nat_eq s slot) && p s) xs)) < length (cond b (x ∷ filter p xs) (filter p xs))
    either true true same there less rest = omega (arith, less)
    either false true differs there less rest = omega (arith, rest (ap (λ b. b || list_any (λ s. nat_eq s slot) (filter p xs)) (sym differs) ∙ there))
    either true false same there less rest = rest there
    either false false differs there less rest = rest there

-- the set without its first slot has fewer slots
fewer_left : (rest : List ℕ) (slot : ℕ) → rest ≡ slots_where (has_slot rest) → slice_get rest 0 ≡ Some slot → length (without_slot slot rest) < length rest
unfolding slots_where has_slot
fewer_left rest slot set first =
    let there : list_any (λ s. nat_eq s slot) (slots_where (has_slot rest)) ≡ true = ap (list_any (λ s. nat_eq s slot)) (sym set) ∙ first_has rest slot first in
    let less : length (without_slot slot rest) < length (slots_where (has_slot rest)) = fewer slot (has_slot rest) (range_with_len 0 64) there in
    rw (← set) at less

module _ (test : ℕ → Bool) (rest : List ℕ) (slot : ℕ) where
  left_has : (s : ℕ) → s < 64 → has_slot (without_slot slot rest) s ≡ (not (nat_eq s slot) && has_slot rest s)
  left_has s small = has_where (λ s. not (nat_eq s slot) && has_slot rest s) s small

  -- the slot does not pass
  left_out : test slot ≡ false → slots_where (passes_outside test rest) ≡ slots_where (passes_outside test (without_slot slot rest))
  left_out fails =
      slots_agree _ _ (λ s small. elim (cases_eq s slot) [
        | inl same ↦ rw (same, fails) refl
        | inr other ↦ rw (left_has s small, ne_eqb s slot other) refl
      ])

  -- the slot passes
  taken_in : test slot ≡ true → with_slot slot (slots_where (passes_outside test rest)) ≡ slots_where (passes_outside test (without_slot slot rest))
  taken_in passes =
      with_slot-where (passes_outside test rest) slot
      ∙ slots_agree _ _ (λ s small. elim (cases_eq s slot) [
        | inl same ↦ rw (left_has s small, same, eq-eqb slot slot refl, passes) refl
        | inr other ↦ rw (left_has s small, ne_eqb s slot other) refl
      ])

-- before the first slot
none_outside : (test : ℕ → Bool) (set : List ℕ) → ((s : ℕ) → s < 64 → test s ≡ true → has_slot set s ≡ true) → [] ≡ slots_where (passes_outside test set)
unfolding slots_where
none_outside test set covers =
    slots_agree (λ _. false) (passes_outside test set) (λ s small. elim (cases_Bool (test s)) [
      | inl passes ↦ rw (passes, covers s small passes) refl
      | inr fails ↦ rw fails refl
    ])

-- after the last one
all_outside : (test : ℕ → Bool) (rest : List ℕ) → slice_get rest 0 ≡ None → slots_where (passes_outside test rest) ≡ slots_where test
unfolding has_slot
all_outside test [] none = slots_agree (passes_outside test []) test (λ s small. and-true (test s))
all_outside test (x ∷ xs) none = absurd (none-some x (sym none))

-- ---- the scan

-- how far a scan has come: these are the slots to come, on each of which something is there, and those before them that pass
pub record Scans (test there : ℕ → Bool) (rest taken : List ℕ) : Type 0 where
  pub set : rest ≡ slots_where (has_slot rest)
  pub held : (s : ℕ) → s < 64 → has_slot rest s ≡ true → there s ≡ true
  pub so_far : taken ≡ slots_where (passes_outside test rest)

module _ (test there : ℕ → Bool) where
  -- it begins with all slots on which something is there
  pub scan_begun : (rest taken : List ℕ) → rest ≡ slots_where there → taken ≡ [] → ((s : ℕ) → test s ≡ true → there s ≡ true) → Scans test there rest taken
  scan_begun rest taken is empty covers =
      let has : (s : ℕ) → s < 64 → has_slot rest s ≡ there s = λ s small. ap (λ (set : List ℕ). has_slot set s) is ∙ has_where there s small in
      record {
        set = is ∙ determined there ∙ ap (λ (set : List ℕ). slots_where (has_slot set)) (sym is);
        held = λ s small in_set. sym (has s small) ∙ in_set;
        so_far = empty ∙ none_outside test rest (λ s small passes. has s small ∙ covers s passes);
      }

  -- it ends with those that pass
  pub scan_ended : (rest taken : List ℕ) → Scans test there rest taken → None ≡ slice_get rest 0 → taken ≡ slots_where test
  scan_ended rest taken scans none = scans.so_far ∙ all_outside test rest (sym none)

  -- it goes on with the first slot, on which something is there
  module _ (rest taken : List ℕ) (scans : Scans test there rest taken) (slot : ℕ) (first : Some slot ≡ slice_get rest 0) (small : slot < 64) where
    pub scan_there : there slot ≡ true
    scan_there = scans.held slot small (first_has rest slot (sym first))

    -- without it there are fewer
    module _ (left : List ℕ) (is : left ≡ without_slot slot rest) where
      pub scan_fewer : length left < length rest
      scan_fewer = subst (λ (set : List ℕ). length set < length rest) (sym is) (fewer_left rest slot scans.set (sym first))

      pub scan_more : (after : List ℕ) (b : Bool) → b ≡ test slot → after ≡ cond b (with_slot slot taken) taken → Scans test there left after
      scan_more after b passes next = record {
        set = is ∙ determined (λ s. not (nat_eq s slot) && has_slot rest s) ∙ ap (λ (set : List ℕ). slots_where (has_slot set)) (sym is);
        held = λ s low in_set. scans.held s low (and_parts (not (nat_eq s slot)) (has_slot rest s) (sym (left_has test rest slot s low) ∙ ap (λ (set : List ℕ). has_slot set s) (sym is) ∙ in_set)).1;
        so_far = next ∙ ap (λ (set : List ℕ). cond b (with_slot slot set) set) scans.so_far ∙ either b passes ∙ ap (λ (set : List ℕ). slots_where (passes_outside test set)) (sym is);
      } where
        either : (b : Bool) → b ≡ test slot → cond b (with_slot slot (slots_where (passes_outside test rest))) (slots_where (passes_outside test rest)) ≡ slots_where (passes_outside test (without_slot slot rest))
        either true passes = taken_in test rest slot (sym passes)
        either false fails = left_out test rest slot (sym fails)
