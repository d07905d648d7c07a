-- What holds of each stop that is listed.
use Rattle.std.proofs.Common.{◌≡◌, Bool, true, false, ◌||◌, List, [], ◌∷◌, refl, sym, subst, true≢false}
use Rattle.std.specs.List.{list_all, list_any}
use Rattle.pct_names.proofs.Names.{and_parts}
use Rattle.pct_model.specs.declared.stop.Why.{Why}
use Rattle.pct_model.specs.contracts.stop.WhyPartialEq.TheImpl as why_eq
use Rattle.pct_tallies.specs.Tallies.{all_stops}
use Rattle.pct_tallies.proofs.SumsOfRuns.{is_listed}
use Rattle.pct_tallies.proofs.Verdicts.{same_why}

module _ (p : Why → Bool) (w : Why) where
  by_step : (v : Why) (whys : List Why) (same : Bool) → why_eq.ghosts.eq v w ≡ same → (p v ≡ true) × (list_all p whys ≡ true) → (same || list_any (λ u. why_eq.ghosts.eq u w) whys) ≡ true
      → (list_all p whys ≡ true → list_any (λ u. why_eq.ghosts.eq u w) whys ≡ true → p w ≡ true) → p w ≡ true
  by_step v whys true s parts any more = subst (λ (x : Why). p x ≡ true) (same_why v w s) parts.0
  by_step v whys false s parts any more = more parts.1 any

  among : (whys : List Why) → list_all p whys ≡ true → list_any (λ u. why_eq.ghosts.eq u w) whys ≡ true → p w ≡ true
  among [] all any = absurd (true≢false (sym any))
  among (v ∷ whys) all any = by_step v whys (why_eq.ghosts.eq v w) refl (and_parts (p v) (list_all p whys) all) any (among whys)

  -- what holds of all stops holds of each
  pub of_each_stop : list_all p all_stops ≡ true → p w ≡ true
  of_each_stop all = among all_stops all (is_listed w)
