-- The groups of a process of which nothing is known.
use Rattle.pct_names.proofs.Names.{◌≡◌, ℕ, zero, suc, ◌<◌, true, List, [], ◌∷◌, length, replicate, sym, ap}
use Rattle.pct_names.proofs.Names.{◌∙◌, inl, inr, arith, slice_index_or, cases_lt, get_or-replicate, get_or_past}
use Rattle.pct_names.proofs.Names.{length-replicate, get_or_from_slice_get, slice_get_within}
use Rattle.std.proofs.lemmas.Bool.{ne_eqb}
use Rattle.pct_set.specs.Slots.{slots_where}
use Rattle.pct_set.proofs.SlotLemmas.{slots_agree}
use Rattle.pct_transitions.specs.declared.readiness.ReadyWhen.{ReadyWhen}
use Rattle.pct_transitions.specs.declared.readiness.ReadyWhen.TheVariants as ready
use Rattle.pct_ready_sets.specs.declared.ready_sets.TheConstants.{GROUPS}
use Rattle.pct_ready_sets.specs.ReadyGroups.{is_in_group, condition_on, AreGroups}
use Rattle.pct_ready_sets.proofs.TouchedSlots.{no_slots}

abbrev none : List ReadyWhen
none = replicate 64 ready.Never

never_on : (k : ℕ) → condition_on none k ≡ ready.Never
never_on k = elim (cases_lt k 64) [
  | inl inside ↦ get_or-replicate 64 k ready.Never ready.Never inside
  | inr past ↦ get_or_past none k ready.Never (omega (arith, past, length-replicate 64 ready.Never))
]

abbrev first : List (List ℕ)
first = slots_where (λ _. true) ∷ replicate 98 []

group_is : (j : ℕ) → j < GROUPS → slice_index_or first j [] ≡ slots_where (λ k. is_in_group j (condition_on none k))
group_is zero inside = slots_agree _ _ (λ k small. sym (ap (is_in_group 0) (never_on k)))
group_is (suc j) inside =
    get_or-replicate 98 j [] [] (omega (arith, inside))
    ∙ no_slots
    ∙ slots_agree _ _ (λ k small. sym (ap (is_in_group (suc j)) (never_on k) ∙ ne_eqb 0 (suc j) (λ is. omega (arith, is))))

-- all slots are in the first group
pub fresh_groups : AreGroups none first
fresh_groups = record {
  all = length-replicate 64 ready.Never;
  every = ap suc (length-replicate {A = List ℕ} 98 []);
  each = λ j group at. let within : j < length first = slice_get_within first j group at in sym (get_or_from_slice_get first j group [] at) ∙ group_is j (omega (arith, within, length-replicate {A = List ℕ} 98 []));
}
