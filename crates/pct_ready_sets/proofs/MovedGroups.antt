-- The groups after a slot was moved from one to another.
use Rattle.pct_names.proofs.Names.{◌≡◌, ◌≢◌, ℕ, ◌<◌, Bool, not, ◌&&◌, ◌||◌, List, [], length, refl, sym, ap, ◌∙◌, subst}
use Rattle.pct_names.proofs.Names.{inl, inr, arith, nat_eq, slice_set, slice_index_or, cases_eq, slice_get-get_or}
use Rattle.pct_names.proofs.Names.{slice_get_within, get_or_from_slice_get}
use Rattle.std.proofs.Common.{eq-eqb}
use Rattle.std.proofs.lemmas.Bool.{ne_eqb}
use Rattle.std.proofs.lemmas.List.{length-set, get_or-set_same, get_or-set_other}
use Rattle.pct_set.specs.Slots.{slots_where, with_slot, without_slot}
use Rattle.pct_set.proofs.SlotLemmas.{slots_agree, with_slot-where, without_slot-where}
use Rattle.pct_transitions.specs.declared.readiness.ReadyWhen.{ReadyWhen}
use Rattle.pct_ready_sets.specs.declared.ready_sets.TheConstants.{GROUPS}
use Rattle.pct_ready_sets.specs.ReadyGroups.{group_of, is_in_group, condition_on, is_alike, AreGroups}

-- the group of this index has the slots whose conditions are in it
pub group_at : (conditions : List ReadyWhen) (groups : List (List ℕ)) → AreGroups conditions groups → (j : ℕ) (d : List ℕ) → j < GROUPS → slice_index_or groups j d ≡ slots_where (λ k. is_in_group j (condition_on conditions k))
group_at conditions groups are j d within = are.each j _ (slice_get-get_or groups j d (omega (arith, within, are.every)))

-- the slots in a group that is not the one of the conditions with no group of their own
pub alike_in : (conditions : List ReadyWhen) (slot group : ℕ) → group ≡ group_of (condition_on conditions slot) → group ≢ 2 → slots_where (λ k. is_in_group group (condition_on conditions k)) ≡ slots_where (is_alike conditions slot)
alike_in conditions slot group is other =
    slots_agree _ _ (λ k small. rw (ne_eqb (group_of (condition_on conditions slot)) 2 (λ same. other (is ∙ same))) (ap (λ (n : ℕ). is_in_group n (condition_on conditions k)) is))

module _ (conditions : List ReadyWhen) (groups : List (List ℕ)) (are : AreGroups conditions groups) (slot : ℕ) (c : ReadyWhen) (inside : slot < 64) (before : ReadyWhen) (was : before ≡ condition_on conditions slot) (few_before : group_of before < GROUPS) (few : group_of c < GROUPS) where
  abbrev out : List (List ℕ)
  out = slice_set groups (group_of before) (without_slot slot (slice_index_or groups (group_of before) []))

  abbrev moved : List (List ℕ)
  moved = slice_set out (group_of c) (with_slot slot (slice_index_or out (group_of c) []))

  abbrev conditions_moved : List ReadyWhen
  conditions_moved = slice_set conditions slot c

  abbrev was_in : ℕ → ℕ → Bool
  was_in j k = is_in_group j (condition_on conditions k)

  abbrev is_in : ℕ → ℕ → Bool
  is_in j k = is_in_group j (condition_on conditions_moved k)

  -- the slot, and the others
  here : (j : ℕ) → is_in j slot ≡ is_in_group j c
  here j = ap (is_in_group j) (get_or-set_same conditions slot c _ (omega (arith, inside, are.all)))

  elsewhere : (j k : ℕ) → (k ≡ slot → ⊥) → is_in j k ≡ was_in j k
  elsewhere j k other = ap (is_in_group j) (get_or-set_other conditions slot k c _ other)

  -- without the slot
  taken_out : (j : ℕ) → j < GROUPS → slice_index_or out j [] ≡ slots_where (λ k. not (nat_eq k slot) && was_in j k)
  taken_out j within =
      elim (cases_eq j (group_of before)) [
        | inl same ↦
            subst (λ (n : ℕ). slice_index_or out n [] ≡ slots_where (λ k. not (nat_eq k slot) && was_in n k)) (sym same)
            (get_or-set_same groups (group_of before) _ [] (omega (arith, few_before, are.every))
            ∙ ap (without_slot slot) (group_at conditions groups are (group_of before) [] few_before)
            ∙ without_slot-where (was_in (group_of before)) slot)
        | inr other ↦
            get_or-set_other groups (group_of before) j _ [] other
            ∙ group_at conditions groups are j [] within
            ∙ slots_agree _ _ (λ k small. elim (cases_eq k slot) [
              | inl at ↦ ap (λ (n : ℕ). was_in j n) at ∙ ap (is_in_group j) (sym was) ∙ ne_eqb (group_of before) j (λ is. other (sym is)) ∙ sym (ap (λ (b : Bool). not b && was_in j k) (eq-eqb k slot at))
              | inr apart ↦ sym (ap (λ (b : Bool). not b && was_in j k) (ne_eqb k slot apart))
            ])
      ]

  -- and with it
  put_in : (j : ℕ) → j < GROUPS → slice_index_or moved j [] ≡ slots_where (is_in j)
  put_in j within =
      elim (cases_eq j (group_of c)) [
        | inl same ↦
            subst (λ (n : ℕ). slice_index_or moved n [] ≡ slots_where (is_in n)) (sym same)
            (get_or-set_same out (group_of c) _ [] (omega (arith, few, are.every, length-set groups (group_of before) (without_slot slot (slice_index_or groups (group_of before) []))))
            ∙ ap (with_slot slot) (taken_out (group_of c) few)
            ∙ with_slot-where (λ k. not (nat_eq k slot) && was_in (group_of c) k) slot
            ∙ slots_agree _ _ (λ k small. elim (cases_eq k slot) [
              | inl at ↦ ap (λ (b : Bool). b || (not b && was_in (group_of c) k)) (eq-eqb k slot at) ∙ sym (ap (λ (n : ℕ). is_in (group_of c) n) at ∙ here (group_of c) ∙ eq-eqb (group_of c) (group_of c) refl)
              | inr apart ↦ ap (λ (b : Bool). b || (not b && was_in (group_of c) k)) (ne_eqb k slot apart) ∙ sym (elsewhere (group_of c) k apart)
            ]))
        | inr other ↦
            get_or-set_other out (group_of c) j _ [] other
            ∙ taken_out j within
            ∙ slots_agree _ _ (λ k small. elim (cases_eq k slot) [
              | inl at ↦ ap (λ (b : Bool). not b && was_in j k) (eq-eqb k slot at) ∙ sym (ap (λ (n : ℕ). is_in j n) at ∙ here j ∙ ne_eqb (group_of c) j (λ is. other (sym is)))
              | inr apart ↦ ap (λ (b : Bool). not b && was_in j k) (ne_eqb k slot apart) ∙ sym (elsewhere j k apart)
            ])
      ]

  pub groups_moved : AreGroups conditions_moved moved
  groups_moved =
      let one = length-set groups (group_of before) (without_slot slot (slice_index_or groups (group_of before) [])) in
      let two = length-set out (group_of c) (with_slot slot (slice_index_or out (group_of c) [])) in
      record {
        all = length-set conditions slot c ∙ are.all;
        every = two ∙ one ∙ are.every;
        each = λ j group at. let within : j < length moved = slice_get_within moved j group at in sym (get_or_from_slice_get moved j group [] at) ∙ put_in j (omega (arith, within, two, one, are.every));
      }

  -- the groups stay, where the condition has the group of the one before
  pub groups_kept : group_of before ≡ group_of c → AreGroups conditions_moved groups
  groups_kept same = record {
    all = length-set conditions slot c ∙ are.all;
    every = are.every;
    each = λ j group at. are.each j group at ∙ slots_agree _ _ (λ k small. elim (cases_eq k slot) [
      | inl here_is ↦ ap (was_in j) here_is ∙ ap (is_in_group j) (sym was) ∙ ap (λ (n : ℕ). nat_eq n j) same ∙ sym (ap (is_in j) here_is ∙ here j)
      | inr apart ↦ sym (elsewhere j k apart)
    ]);
  }
