-- The sum of two ranges, the second of which begins right after the first.
use Rattle.std.proofs.Common.{◌≡◌, ℕ, zero, suc, ◌+◌, ◌<◌, ◌≤◌, Bool, true, false, cond, not, ◌&&◌, List, [], ◌∷◌, Option, Some, None, arith, ap, filter, get_or, length, nat_eq, nat_le, nat_lt, refl, sym, subst, ◌∙◌}
use Rattle.std.proofs.Common.{eqb-true, eq-eqb, leb-true, rules}
use Rattle.std.specs.Prelude.{◌==◌}
use Rattle.std.specs.declared.cmp.Ordering.TheVariants.{Equal, Greater}
use Rattle.std.proofs.lemmas.List.Sorted.{IsPermutation-refl}
use Rattle.std.proofs.lemmas.Bool.{le-ltb}
use Rattle.std.specs.Prelude.{Result, Ok, Err, IsPermutation, IsSortedByKey}
use Rattle.std.specs.List.Sorted.{IsStableByKey}
use Rattle.std.specs.Ordering.{is_lt, nat_cmp}
use Rattle.pct_model.proofs.Bytes.{bytes_eq-refl}
use Rattle.pct_tallies.specs.declared.fault.TallyWhy.{TallyWhy}
use Rattle.pct_tallies.specs.declared.range_tally.Limits.{Limits}
use Rattle.pct_tallies.specs.declared.range_tally.PlacedTally.{PlacedTally}
use Rattle.pct_tallies.specs.declared.range_tally.RangeTally.{RangeTally}
use Rattle.pct_tallies.specs.declared.range_tally.Subject.{Subject}
use Rattle.pct_tallies.specs.contracts.range_tally.LimitsPartialEq.TheImpl as limits_eq
use Rattle.pct_tallies.specs.Faults.{Fault}
use Rattle.pct_tallies.specs.Sums.{fits}
use Rattle.pct_tallies.specs.Totals.{AreOrdered, IsTotalOf, fault_after, fault_of_subjects, first_subject_fault, next_sum, subject_fault, sum_with, total_from, total_in_order, unless}
use Rattle.pct_tallies.specs.Totals as total
use Rattle.pct_tallies.proofs.OneOrder.{tie, tie_is}
use Rattle.pct_tallies.proofs.SubjectFaults.{later, nowhere}
use Rattle.pct_tallies.proofs.TotalSteps.{total_goes_on, total_of_one}

not_le : (m n : ℕ) → n < m → nat_le m n ≡ false
not_le m n h = by_test (nat_le m n) refl
  where
    by_test : (t : Bool) → nat_le m n ≡ t → t ≡ false
    by_test true is = absurd (omega (arith, leb-true m n is, h))
    by_test false is = refl

not_less : (t : Bool) → is_lt (cond t Equal Greater) ≡ false
not_less true = refl
not_less false = refl

abbrev key : PlacedTally → ℕ
key placed = placed.range.seeds.first

same_limits : (l : Limits) → limits_eq.ghosts.eq l l ≡ true
same_limits l = rw (eq-eqb l.budget l.budget refl, eq-eqb l.passes l.passes refl, eq-eqb l.slots l.slots refl) refl

same_subject : (s t : Subject) → s ≡ t → subject_fault s t ≡ None
same_subject s t same = subst (λ (x : Subject). subject_fault s x ≡ None) same (rw (bytes_eq-refl s.digest, same_limits s.limits) refl)

alike : (a b : PlacedTally) → a.range.subject ≡ b.range.subject → fault_of_subjects (a ∷ b ∷ []) ≡ None
alike a b same = later a.range.subject b [] (same_subject a.range.subject b.range.subject same) ∙ nowhere a.range.subject

module _ (a b : PlacedTally) (same : a.range.subject ≡ b.range.subject) (some : a.range.seeds.first ≤ a.range.seeds.last) (next : b.range.seeds.first ≡ a.range.seeds.last + 1) (fit : fits a.range.tally b.range.tally ≡ true) where
  none_after : fault_after a.range b ≡ None
  none_after =
      let apart : nat_le b.range.seeds.first a.range.seeds.last ≡ false = not_le b.range.seeds.first a.range.seeds.last (omega (arith, next)) in
      let close : nat_lt (a.range.seeds.last + 1) b.range.seeds.first ≡ false = le-ltb (a.range.seeds.last + 1) b.range.seeds.first (omega (arith, next)) in
      rw (apart, close, fit) refl

  added : total_in_order (a ∷ b ∷ []) ≡ Ok (sum_with a.range b.range)
  added = total_goes_on a.range (sum_with a.range b.range) b [] (ap (λ (w : Option TallyWhy). unless w b.line (Ok (sum_with a.range b.range))) none_after) ∙ total_of_one (sum_with a.range b.range)

  sorted : IsSortedByKey key nat_cmp (a ∷ b ∷ [])
  sorted zero d low high = rw (le-ltb (key b) (key a) (omega (arith, some, next))) (not_less (key b == key a))
  sorted (suc k) d low high = absurd (omega (arith, high))

  in_order : AreOrdered (a ∷ b ∷ []) (a ∷ b ∷ [])
  in_order = record { same = IsPermutation-refl (a ∷ b ∷ []); sorted = sorted; stable = λ w. refl }

  out_of_order : AreOrdered (b ∷ a ∷ []) (a ∷ b ∷ [])
  out_of_order = record { same = record { moves = (0, 1) ∷ []; below = search rules; is = refl }; sorted = sorted; stable = λ w. by_ties w (tie key w a) (tie key w b) refl refl }
    where
      by_ties : (w : PlacedTally) (s t : Bool) → tie key w a ≡ s → tie key w b ≡ t → filter (tie key w) (a ∷ b ∷ []) ≡ filter (tie key w) (b ∷ a ∷ [])
      by_ties w true true s_is t_is =
          let one = eqb-true (key w) (key a) (sym (tie_is key (key w) (key a)) ∙ s_is) in
          let other = eqb-true (key w) (key b) (sym (tie_is key (key w) (key b)) ∙ t_is) in
          absurd (omega (arith, one, other, some, next))
      by_ties w true false s_is t_is = rw (s_is, t_is) refl
      by_ties w false true s_is t_is = rw (s_is, t_is) refl
      by_ties w false false s_is t_is = rw (s_is, t_is) refl

  -- in this order and in the other
  pub two_added : IsTotalOf (a ∷ b ∷ []) (Ok (sum_with a.range b.range))
  two_added = total.Added (alike a b same) (a ∷ b ∷ []) in_order added

  pub two_added_back : IsTotalOf (b ∷ a ∷ []) (Ok (sum_with a.range b.range))
  two_added_back = total.Added (alike b a (sym same)) (a ∷ b ∷ []) out_of_order added
