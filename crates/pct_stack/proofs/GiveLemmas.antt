-- A block whose slots are given from the last one down, but one to keep.
use Rattle.std.proofs.Common.{◌≡◌, ℕ, suc, ◌+◌, ◌-◌, ◌<◌, ◌≤◌, Bool, true, false, cond, nat_eq, eqb, List, [], ◌∷◌, length, get_or, set, replicate, refl, sym, ap, ◌∙◌, inl, inr, arith, Option, Some, None}
use Rattle.std.specs.List.{range_with_len}
use Rattle.std.specs.Prelude.{is_some, IfSome}
use Rattle.std.specs.Option.{unwrap_or, option_eq}
use Rattle.std.proofs.lemmas.Bool.{cases_eq, both_ways, eqb-true, eq-eqb, ne_eqb, cond-true, cond-false}
use Rattle.std.proofs.lemmas.List.{length-set, get_or-set_same, get_or-set_other, get_or_past, same_lists, length-replicate, get_or-replicate, get_or_default}
use Rattle.pct_stack.specs.Stacks.{Stacks, slot_at, is_taken, words_at, without, with_given, with_kept_alone}
use Rattle.pct_stack.proofs.ChainLemmas.{without-head, without-other}

-- the list without the slot to keep
abbrev pub kept_out : Option ℕ → List ℕ → List ℕ
kept_out None slots = slots
kept_out (Some slot) slots = without slot slots

-- the slot is the one to keep
abbrev pub is_kept : Option ℕ → ℕ → Bool
is_kept None slot = false
is_kept (Some kept) slot = nat_eq kept slot

-- the slots from `i` on are given
pub record AreGiven (keep : Option ℕ) (i : ℕ) (old now : Stacks) : Type 0 where
  pub width : now.width ≡ old.width
  pub count : length now.slots ≡ length old.slots
  pub free : now.free ≡ kept_out keep (range_with_len i (length old.slots - i))
  pub below : (s : ℕ) → s < i → slot_at now s ≡ slot_at old s
  pub above : (s : ℕ) → i ≤ s → slot_at now s ≡ cond (is_kept keep s) (slot_at old s) None

-- the test of the code
pub option_eq-some : (keep : Option ℕ) (slot : ℕ) → option_eq eqb keep (Some slot) ≡ is_kept keep slot
option_eq-some None slot = refl
option_eq-some (Some kept) slot = refl

module _ (keep : Option ℕ) (old : Stacks) (inside : IfSome keep (λ slot. slot < length old.slots)) where
  abbrev n : ℕ
  n = length old.slots

  kept_none : kept_out keep [] ≡ []
  kept_none = test keep
    where
      test : (k : Option ℕ) → kept_out k [] ≡ []
      test None = refl
      test (Some slot) = refl

  past_kept : (s : ℕ) → n ≤ s → is_kept keep s ≡ false
  past_kept s past = test keep inside
    where
      test : (k : Option ℕ) → IfSome k (λ slot. slot < n) → is_kept k s ≡ false
      test None within = refl
      test (Some slot) within = ne_eqb slot s (λ e. absurd (omega (arith, e, within, past)))

  -- no slot is given
  pub given-none : (i : ℕ) → i ≡ n → old.free ≡ [] → AreGiven keep i old old
  given-none i all none =
      let rest : n - i ≡ 0 = omega (arith, all) in
      record {
        width = refl;
        count = refl;
        free = none ∙ sym kept_none ∙ ap (λ k. kept_out keep (range_with_len i k)) (sym rest);
        below = λ s under. refl;
        above = λ s over.
            let out : slot_at old s ≡ None = get_or_past old.slots s None (omega (arith, all, over)) in
            out ∙ sym (cond-false (is_kept keep s) (slot_at old s) None (past_kept s (omega (arith, all, over))));
      }

  module _ (i slot : ℕ) (now : Stacks) (given : AreGiven keep i old now) (next : i ≡ slot + 1) (within : slot < n) where
    range : range_with_len slot (n - slot) ≡ slot ∷ range_with_len i (n - i)
    range =
        let count : n - slot ≡ suc (n - i) = omega (arith, next, within) in
        ap (range_with_len slot) count ∙ ap (λ k. slot ∷ range_with_len k (n - i)) (sym next)

    -- one more slot is given
    pub given-next : is_kept keep slot ≡ false → AreGiven keep slot old (with_given slot now)
    given-next other = record {
      width = given.width;
      count = length-set now.slots slot None ∙ given.count;
      free = ap (λ l. slot ∷ l) given.free ∙ test keep other ∙ ap (kept_out keep) (sym range);
      below = λ s under. get_or-set_other now.slots slot s None None (λ e. absurd (omega (arith, e, under))) ∙ given.below s (omega (arith, under, next));
      above = λ s over. elim (cases_eq s slot) [
        | inl at ↦
            ap (λ k. get_or (set now.slots slot None) k None) at ∙ get_or-set_same now.slots slot None None (omega (arith, within, given.count))
            ∙ sym (cond-false (is_kept keep s) (slot_at old s) None (ap (is_kept keep) at ∙ other))
        | inr differs ↦
            get_or-set_other now.slots slot s None None differs ∙ given.above s (omega (arith, over, next, differs))
      ];
    }
      where
        test : (k : Option ℕ) → is_kept k slot ≡ false → slot ∷ kept_out k (range_with_len i (n - i)) ≡ kept_out k (slot ∷ range_with_len i (n - i))
        test None _ = refl
        test (Some kept) is_not = sym (without-other kept slot (range_with_len i (n - i)) (λ e. both_ways (nat_eq kept slot) is_not (eq-eqb kept slot (sym e))))

    -- the slot is kept
    pub given-kept : is_kept keep slot ≡ true → AreGiven keep slot old now
    given-kept same = record {
      width = given.width;
      count = given.count;
      free = given.free ∙ test keep same ∙ ap (kept_out keep) (sym range);
      below = λ s under. given.below s (omega (arith, under, next));
      above = λ s over. elim (cases_eq s slot) [
        | inl at ↦ given.below s (omega (arith, at, next)) ∙ sym (cond-true (is_kept keep s) (slot_at old s) None (ap (is_kept keep) at ∙ same))
        | inr differs ↦ given.above s (omega (arith, over, next, differs))
      ];
    }
      where
        test : (k : Option ℕ) → is_kept k slot ≡ true → kept_out k (range_with_len i (n - i)) ≡ kept_out k (slot ∷ range_with_len i (n - i))
        test None is = absurd (both_ways false refl is)
        test (Some kept) is = sym (without-head kept slot (range_with_len i (n - i)) (sym (eqb-true kept slot is)))

  -- all slots are given
  pub given-all : (now : Stacks) → AreGiven keep 0 old now → ((s : ℕ) → s < n → is_taken old s ≡ true) → now ≡ with_kept_alone keep old
  given-all now given taken = test keep given inside
    where
      whole : n - 0 ≡ n
      whole = omega arith

      some_is : (o : Option (List ℕ)) → is_some o ≡ true → o ≡ Some (unwrap_or o [])
      some_is (Some ws) _ = refl
      some_is None is = absurd (both_ways false refl is)

      test : (k : Option ℕ) → AreGiven k 0 old now → IfSome k (λ slot. slot < n) → now ≡ with_kept_alone k old
      test None at within =
          (λ j. record {
            width = at.width j;
            free = (at.free ∙ ap (range_with_len 0) whole) j;
            slots =
                same_lists now.slots (replicate n None) (at.count ∙ sym (length-replicate n None))
                (λ s d small. get_or_default now.slots s d None small ∙ at.above s (omega arith) ∙ sym (get_or-replicate n s None d (omega (arith, small, at.count)))) j;
          })
      test (Some slot) at within =
          (λ j. record {
            width = at.width j;
            free = (at.free ∙ ap (λ k. without slot (range_with_len 0 k)) whole) j;
            slots =
                same_lists now.slots (set (replicate n None) slot (Some (words_at old slot))) (at.count ∙ sym (length-set (replicate n None) slot (Some (words_at old slot)) ∙ length-replicate n None))
                (λ s d small. get_or_default now.slots s d None small ∙ at.above s (omega arith) ∙ elim (cases_eq s slot) [
                  | inl is ↦
                      cond-true (nat_eq slot s) (slot_at old s) None (eq-eqb slot s (sym is))
                      ∙ ap (slot_at old) is ∙ some_is (slot_at old slot) (taken slot within)
                      ∙ sym (ap (λ k. get_or (set (replicate n None) slot (Some (words_at old slot))) k d) is ∙ get_or-set_same (replicate n None) slot (Some (words_at old slot)) d (omega (arith, within, length-replicate {A = Option (List ℕ)} n None)))
                  | inr differs ↦
                      cond-false (nat_eq slot s) (slot_at old s) None (ne_eqb slot s (λ e. differs (sym e)))
                      ∙ sym (get_or-set_other (replicate n None) slot s (Some (words_at old slot)) d differs ∙ get_or-replicate n s None d (omega (arith, small, at.count)))
                ]) j;
          })
