-- What is counted of the runs of a range can be written.
use Rattle.std.proofs.Common.{◌≡◌, ◌≢◌, ◌⊎◌, inl, inr, ℕ, suc, ◌+◌, ◌*◌, ◌<◌, ◌≤◌, ◌^◌, Bool, true, false, not, ◌&&◌, cond, List, [], ◌∷◌, arith, ap, filter, length, map, max, nat_eq, nat_le, refl, sym, subst, ◌∙◌}
use Rattle.std.proofs.Common.{eq-eqb, le-leb, true≢false}
use Rattle.std.specs.List.{AllZip, range_with_len, fold}
use Rattle.std.proofs.lemmas.List.FromFn.{length-range_with_len}
use Rattle.std.proofs.lemmas.List.Sums.{count_by-le-length}
use Rattle.pct_model.specs.declared.limits.TheConstants.{DEFAULT_BUDGET}
use Rattle.pct_model.specs.declared.stop.Why.{Why}
use Rattle.pct_model.specs.declared.stop.Verdict.{Verdict}
use Rattle.pct_model.specs.declared.stop.Verdict.TheVariants as verdict
use Rattle.pct_tallies.specs.declared.count.Count.{Count}
use Rattle.pct_tallies.specs.declared.count.StopCount.{StopCount}
use Rattle.pct_tallies.specs.declared.seed_run.SeedRun.{SeedRun}
use Rattle.pct_tallies.specs.declared.seeds.Seeds.{Seeds}
use Rattle.pct_tallies.specs.Seeds.{IsRange, is_in, seed_count, seeds_in}
use Rattle.pct_tallies.specs.Tallies.{all_stops, count_of, has_verdict, is_met, least_in, most_in, runs_with, stop_count, stops_among, tally_of}
use Rattle.pct_tallies.specs.TextLaws.{AreStops, IsCount, IsCounted, IsSome, NoRuns, SomeRuns}
use Rattle.pct_tallies.proofs.FirstHits.{NoneHas, OneHas, first_hit}
use Rattle.pct_tallies.proofs.FittingSums.{AreFew}
use Rattle.pct_tallies.proofs.SumsOfRuns.{least_within}

-- two lists of which each pair is related are of one length
same_length : {X Y : Type 0} (R : X → Y → Type 0) (xs : List X) (ys : List Y) → AllZip R xs ys → length ys ≡ length xs
same_length R [] [] h = refl
same_length R [] (y ∷ ys) h = absurd h
same_length R (x ∷ xs) [] h = absurd h
same_length R (x ∷ xs) (y ∷ ys) h = ap suc (same_length R xs ys h.1)

module _ (counts : ℕ → SeedRun → Type 0) (numbered : (n : ℕ) (r : SeedRun) → counts n r → r.seed ≡ n) (seeds : Seeds) (is : IsRange seeds) (runs : List SeedRun) (of_seeds : AllZip counts (seeds_in seeds) runs) where
  many : length runs ≡ seed_count seeds
  many = same_length counts (seeds_in seeds) runs of_seeds ∙ length-range_with_len seeds.first (seed_count seeds)

  some_is : (v : Verdict) → OneHas (has_verdict v) (λ r. r.seed) counts numbered seeds.first (seed_count seeds) runs → IsSome seeds (count_of v runs)
  some_is v one =
      let most = count_by-le-length (has_verdict v) runs in
      let count : Count = count_of v runs in
      let low : seeds.first ≤ count.first = omega (arith, one.first, one.least) in
      let high : count.first ≤ seeds.last = omega (arith, one.first, one.least, one.most, is.some) in
      record {
        some = one.runs;
        runs_fit = omega (arith, most, many, is.from_one, is.some, is.fits);
        first_fits = omega (arith, high, is.fits);
        of_range = rw (le-leb seeds.first count.first low, le-leb count.first seeds.last high) refl;
      }

  count_is : (v : Verdict) → IsCount seeds (count_of v runs)
  count_is v = elim (first_hit (has_verdict v) (λ r. r.seed) counts numbered seeds.first (seed_count seeds) runs of_seeds) [
    | inl none ↦ NoRuns (λ i. record { runs = none.runs i; first = none.first i })
    | inr one ↦ SomeRuns (some_is v one)
  ]

  met_is : (w : Why) → is_met (stop_count runs w) ≡ true → IsSome seeds (count_of (verdict.Undefined w) runs)
  met_is w met = elim (first_hit (has_verdict (verdict.Undefined w)) (λ r. r.seed) counts numbered seeds.first (seed_count seeds) runs of_seeds) [
    | inl none ↦ absurd (true≢false (sym met ∙ ap not (eq-eqb (runs_with (verdict.Undefined w) runs) 0 none.runs)))
    | inr one ↦ some_is (verdict.Undefined w) one
  ]

  skipped : (w : Why) (whys : List Why) (stops : List StopCount) → AreStops seeds whys stops → AreStops seeds (w ∷ whys) stops
  skipped w whys [] are = tt
  skipped w whys (s ∷ stops) are = inr are

  stops_step : (w : Why) (whys : List Why) (met : Bool) → is_met (stop_count runs w) ≡ met → AreStops seeds whys (filter is_met (map (stop_count runs) whys))
      → AreStops seeds (w ∷ whys) (cond met (stop_count runs w ∷ filter is_met (map (stop_count runs) whys)) (filter is_met (map (stop_count runs) whys)))
  stops_step w whys true met more = inl (refl, met_is w met, more)
  stops_step w whys false met more = skipped w whys (filter is_met (map (stop_count runs) whys)) more

  stops_are : (whys : List Why) → AreStops seeds whys (filter is_met (map (stop_count runs) whys))
  stops_are [] = tt
  stops_are (w ∷ whys) =
      let met = is_met (stop_count runs w) in
      subst (λ (stops : List StopCount). AreStops seeds (w ∷ whys) stops) (sym (filtered met refl)) (stops_step w whys met refl (stops_are whys))
    where
      filtered : (t : Bool) → is_met (stop_count runs w) ≡ t → filter is_met (map (stop_count runs) (w ∷ whys)) ≡ cond t (stop_count runs w ∷ filter is_met (map (stop_count runs) whys)) (filter is_met (map (stop_count runs) whys))
      filtered true m = rw m refl
      filtered false m = rw m refl

  -- so the tally of at most 1,000,000 runs, none of which has 2 ^ 32 joins or entries, has a text
  pub counted_runs : length runs ≤ 1000000 → AreFew runs → most_in runs < 2 ^ 32 → IsCounted seeds (tally_of runs)
  unfolding stops_among
  counted_runs few joins short =
      let least = least_within DEFAULT_BUDGET runs in
      record {
        complete = count_is verdict.Complete;
        deadlock = count_is verdict.Deadlock;
        budget = count_is verdict.Budget;
        stops = stops_are all_stops;
        joined = omega (arith, joins.joined, few);
        canceled = omega (arith, joins.canceled, few);
        least = omega (arith, least);
        most = short;
      }
