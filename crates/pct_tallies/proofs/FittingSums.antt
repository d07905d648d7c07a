-- The sum of the tallies of few runs has numbers of 64 bits.
use Rattle.std.proofs.Common.{◌≡◌, ℕ, ◌+◌, ◌*◌, ◌<◌, ◌≤◌, ◌^◌, Bool, true, ◌&&◌, List, [], ◌∷◌, arith, length, refl, sym, subst, ◌∙◌}
use Rattle.std.proofs.Common.{le-leb, lt-ltb}
use Rattle.std.specs.List.{count_by, list_all, sum_by}
use Rattle.std.proofs.lemmas.List.Sums.{count_by-le-length, sum_by-cons}
use Rattle.pct_model.specs.declared.stop.Why.{Why}
use Rattle.pct_model.specs.declared.stop.Verdict.{Verdict}
use Rattle.pct_model.specs.declared.stop.Verdict.TheVariants as verdict
use Rattle.pct_tallies.specs.declared.seed_run.SeedRun.{SeedRun}
use Rattle.pct_tallies.specs.Sums.{count_at, count_fits, fits, number_fits, stop_fits, stops_fit}
use Rattle.pct_tallies.specs.Tallies.{all_stops, count_of, has_verdict, runs_with, stops_among, tally_of}
use Rattle.pct_tallies.proofs.SumsOfRuns.{counted_stop}

-- each run has fewer than 2 ^ 32 joins
pub record AreFew (runs : List SeedRun) : Type 0 where
  pub joined : sum_by (λ r. r.joined) runs ≤ length runs * 4294967295
  pub canceled : sum_by (λ r. r.canceled) runs ≤ length runs * 4294967295

module _ (xs ys : List SeedRun) (few : length xs + length ys ≤ 1000000) (x : AreFew xs) (y : AreFew ys) where
  verdict_fits : (v : Verdict) → count_fits (count_of v xs) (count_of v ys) ≡ true
  verdict_fits v =
      let a = count_by-le-length (has_verdict v) xs in
      let b = count_by-le-length (has_verdict v) ys in
      lt-ltb (runs_with v xs + runs_with v ys) (2 ^ 64) (omega (arith, a, b, few))

  stop_fits_each : (w : Why) → stop_fits (stops_among xs all_stops) (stops_among ys all_stops) w ≡ true
  stop_fits_each w = rw (counted_stop xs w, counted_stop ys w) (verdict_fits (verdict.Undefined w))

  each : (p : Why → Bool) → ((w : Why) → p w ≡ true) → (whys : List Why) → list_all p whys ≡ true
  each p h [] = refl
  each p h (w ∷ whys) = rw (h w, each p h whys) refl

  six : (a b c d e f : Bool) → a ≡ true → b ≡ true → c ≡ true → d ≡ true → e ≡ true → f ≡ true → (a && b && c && d && e && f) ≡ true
  six a b c d e f h i j k l m = rw (h, i, j, k, l, m) refl

  -- their sum fits
  pub sums_fit : fits (tally_of xs) (tally_of ys) ≡ true
  sums_fit =
      let p = stop_fits (stops_among xs all_stops) (stops_among ys all_stops) in
      let j : (tally_of xs).joined + (tally_of ys).joined < 2 ^ 64 = omega (arith, x.joined, y.joined, few) in
      let k : (tally_of xs).canceled + (tally_of ys).canceled < 2 ^ 64 = omega (arith, x.canceled, y.canceled, few) in
      six (count_fits (count_of verdict.Complete xs) (count_of verdict.Complete ys)) (count_fits (count_of verdict.Deadlock xs) (count_of verdict.Deadlock ys))
      (count_fits (count_of verdict.Budget xs) (count_of verdict.Budget ys)) (list_all p all_stops)
      (number_fits (tally_of xs).joined (tally_of ys).joined) (number_fits (tally_of xs).canceled (tally_of ys).canceled)
      (verdict_fits verdict.Complete) (verdict_fits verdict.Deadlock) (verdict_fits verdict.Budget) (each p stop_fits_each all_stops)
      (lt-ltb ((tally_of xs).joined + (tally_of ys).joined) (2 ^ 64) j) (lt-ltb ((tally_of xs).canceled + (tally_of ys).canceled) (2 ^ 64) k)
