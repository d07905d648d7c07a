-- Sets of slots by tests.
use Rattle.pct_names.proofs.Names.{◌≡◌, ℕ, Bool, true, false, not, ◌&&◌, ◌||◌, [], refl, sym, inl, inr, nat_eq, cases_eq}
use Rattle.std.proofs.Common.{eq-eqb}
use Rattle.std.proofs.lemmas.Bool.{ne_eqb}
use Rattle.pct_set.specs.Slots.{slots_where, has_slot, with_slot, union_of, difference_of}
use Rattle.pct_set.proofs.SlotLemmas.{slots_agree, has_where}

-- one slot
pub one_slot : (slot : ℕ) → with_slot slot [] ≡ slots_where (nat_eq slot)
unfolding has_slot
one_slot slot = slots_agree _ _ (λ k small. elim (cases_eq k slot) [
  | inl same ↦ rw (eq-eqb k slot same, eq-eqb slot k (sym same)) refl
  | inr other ↦ rw (ne_eqb k slot other, ne_eqb slot k (λ is. other (sym is))) refl
])

-- no slots
pub no_slots : [] ≡ slots_where (λ _. false)
unfolding slots_where
no_slots = refl

module _ (p q : ℕ → Bool) where
  pub union_where : union_of (slots_where p) (slots_where q) ≡ slots_where (λ k. p k || q k)
  union_where = slots_agree _ _ (λ k small. rw (has_where p k small, has_where q k small) refl)

  outside : (a b : Bool) → ((true && not a) && not b) ≡ not (a || b)
  outside true b = refl
  outside false b = refl

  -- all slots without two sets
  pub outside_where : difference_of (difference_of (slots_where (λ _. true)) (slots_where p)) (slots_where q) ≡ slots_where (λ k. not (p k || q k))
  outside_where =
      slots_agree _ _ (λ k small.
      rw (has_where (λ s. has_slot (slots_where (λ _. true)) s && not (has_slot (slots_where p) s)) k small, has_where (λ _. true) k small, has_where p k small, has_where q k small)
      (outside (p k) (q k)))
