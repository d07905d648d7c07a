-- The sets of the slots with each key, before and after a slot gets another key.
use Rattle.std.proofs.Common.{◌≡◌, ℕ, ◌<◌, Bool, true, not, ◌&&◌, List, [], refl, sym, ap, ◌∙◌, subst, inl, inr, arith, replicate}
use Rattle.std.specs.Prelude.{nat_eq, slice_index_or, slice_set}
use Rattle.std.proofs.lemmas.Bool.{cases_eq, cases_lt, eq-eqb, ne_eqb}
use Rattle.std.proofs.lemmas.List.{length-set, get_or-set_same, get_or-set_other, get_or-replicate, get_or_past, length-replicate}
use Rattle.pct_set.specs.declared.keyed_sets.TheConstants.{KEYS, NO_KEY}
use Rattle.pct_set.specs.Keyed.{key_at, AreKeyed}
use Rattle.pct_set.specs.Slots.{slots_where, with_slot, without_slot}
use Rattle.pct_set.proofs.SlotLemmas.{slots_agree, with_slot-where, without_slot-where}

-- ---- before

abbrev first_keys : List ℕ
first_keys = replicate 64 NO_KEY

abbrev empty_sets : List (List ℕ)
empty_sets = replicate KEYS []

first_key : (k : ℕ) → k < 64 → key_at first_keys k ≡ NO_KEY
first_key k inside = get_or-replicate 64 k NO_KEY 0 inside

low : (k : ℕ) → key_at first_keys k < KEYS
low k = elim (cases_lt k 64) [
  | inl inside ↦ omega (arith, first_key k inside)
  | inr past ↦ omega (arith, get_or_past first_keys k 0 (omega (arith, past, length-replicate 64 NO_KEY)))
]

no_slot : [] ≡ slots_where (λ k. nat_eq 0 1)
unfolding slots_where
no_slot = refl

-- each slot has the last key
pub keyed_first : AreKeyed first_keys (slice_set empty_sets NO_KEY (slots_where (λ _. true)))
keyed_first = record {
  all = length-replicate 64 NO_KEY;
  every = length-set empty_sets NO_KEY (slots_where (λ _. true)) ∙ length-replicate {A = List ℕ} KEYS [];
  few = low;
  each = λ j within. elim (cases_eq j NO_KEY) [
    | inl same ↦
        subst (λ (n : ℕ). slice_index_or (slice_set empty_sets NO_KEY (slots_where (λ _. true))) n [] ≡ slots_where (λ k. nat_eq (key_at first_keys k) n)) (sym same)
        (get_or-set_same empty_sets NO_KEY (slots_where (λ _. true)) [] (omega (arith, length-replicate {A = List ℕ} KEYS []))
        ∙ slots_agree _ _ (λ k small. sym (eq-eqb (key_at first_keys k) NO_KEY (first_key k small))))
    | inr other ↦
        get_or-set_other empty_sets NO_KEY j (slots_where (λ _. true)) [] other
        ∙ get_or-replicate KEYS j [] [] within
        ∙ no_slot
        ∙ slots_agree _ _ (λ k small. sym (ne_eqb (key_at first_keys k) j (λ is. other (sym is ∙ first_key k small))))
  ];
}

-- ---- after

module _ (keys : List ℕ) (sets : List (List ℕ)) (are : AreKeyed keys sets) (slot key : ℕ) (inside : slot < 64) (few : key < KEYS) where
  abbrev from : ℕ
  from = key_at keys slot

  abbrev out : List (List ℕ)
  out = slice_set sets from (without_slot slot (slice_index_or sets from []))

  abbrev moved : List (List ℕ)
  moved = slice_set out key (with_slot slot (slice_index_or out key []))

  abbrev had : ℕ → ℕ → Bool
  had j k = nat_eq (key_at keys k) j

  abbrev has : ℕ → ℕ → Bool
  has j k = nat_eq (key_at (slice_set keys slot key) k) j

  here : key_at (slice_set keys slot key) slot ≡ key
  here = get_or-set_same keys slot key 0 (omega (arith, inside, are.all))

  elsewhere : (k : ℕ) → (k ≡ slot → ⊥) → key_at (slice_set keys slot key) k ≡ key_at keys k
  elsewhere k other = get_or-set_other keys slot k key 0 other

  -- without the slot
  taken_out : (j : ℕ) → j < KEYS → slice_index_or out j [] ≡ slots_where (λ k. not (nat_eq k slot) && had j k)
  taken_out j within =
      elim (cases_eq j from) [
        | inl same ↦
            subst (λ (n : ℕ). slice_index_or out n [] ≡ slots_where (λ k. not (nat_eq k slot) && had n k)) (sym same)
            (get_or-set_same sets from _ [] (omega (arith, are.few slot, are.every))
            ∙ ap (without_slot slot) (are.each from (are.few slot))
            ∙ without_slot-where (had from) slot)
        | inr other ↦
            get_or-set_other sets from j _ [] other
            ∙ are.each j within
            ∙ slots_agree _ _ (λ k small. elim (cases_eq k slot) [
              | inl at ↦ rw (at, eq-eqb slot slot refl) (ne_eqb from j (λ is. other (sym is)))
              | inr apart ↦ rw (ne_eqb k slot apart) refl
            ])
      ]

  -- and with it
  put_in : (j : ℕ) → j < KEYS → slice_index_or moved j [] ≡ slots_where (has j)
  put_in j within =
      elim (cases_eq j key) [
        | inl same ↦
            subst (λ (n : ℕ). slice_index_or moved n [] ≡ slots_where (has n)) (sym same)
            (get_or-set_same out key _ [] (omega (arith, few, are.every, length-set sets from (without_slot slot (slice_index_or sets from []))))
            ∙ ap (with_slot slot) (taken_out key few)
            ∙ with_slot-where (λ k. not (nat_eq k slot) && had key k) slot
            ∙ slots_agree _ _ (λ k small. elim (cases_eq k slot) [
              | inl at ↦ rw (at, eq-eqb slot slot refl) (sym (eq-eqb (key_at (slice_set keys slot key) slot) key here))
              | inr apart ↦ rw (ne_eqb k slot apart) (ap (λ (n : ℕ). nat_eq n key) (sym (elsewhere k apart)))
            ]))
        | inr other ↦
            get_or-set_other out key j _ [] other
            ∙ taken_out j within
            ∙ slots_agree _ _ (λ k small. elim (cases_eq k slot) [
              | inl at ↦ rw (at, eq-eqb slot slot refl) (sym (ne_eqb (key_at (slice_set keys slot key) slot) j (λ is. other (sym is ∙ here))))
              | inr apart ↦ rw (ne_eqb k slot apart) (ap (λ (n : ℕ). nat_eq n j) (sym (elsewhere k apart)))
            ])
      ]

  pub keyed_moved : AreKeyed (slice_set keys slot key) moved
  keyed_moved = record {
    all = length-set keys slot key ∙ are.all;
    every = length-set out key (with_slot slot (slice_index_or out key [])) ∙ length-set sets from (without_slot slot (slice_index_or sets from [])) ∙ are.every;
    few = λ k. elim (cases_eq k slot) [
      | inl at ↦ subst (λ (n : ℕ). key_at (slice_set keys slot key) n < KEYS) (sym at) (omega (arith, here, few))
      | inr apart ↦ omega (arith, elsewhere k apart, are.few k)
    ];
    each = put_in;
  }
