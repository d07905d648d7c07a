-- The tally of seeds to which the seeds right after them are added.
use Rattle.std.proofs.Common.{◌≡◌, ◌∙◌, ℕ, zero, suc, ◌+◌, ◌-◌, ◌*◌, ◌/◌, ◌<◌, ◌≤◌, ◌++◌, List, ◌∷◌, ap, arith, length, min, refl, slice_index_or, subst, subst₂, sym, true}
use Rattle.std.specs.List.{AllZip, range_with_len}
use Rattle.std.proofs.Math.Nat.{lt-mul-div-succ, mul_comm}
use Rattle.std.proofs.lemmas.List.FromFn.{length-range_with_len}
use Rattle.rayon.specs.Numbers.{nat_range}
use Rattle.rayon.proofs.ListFacts.{AllZip-append}
use Rattle.pct_model.specs.declared.script.Script.{Script}
use Rattle.pct_tallies.specs.declared.seed_run.SeedRun.{SeedRun}
use Rattle.pct_tallies.specs.declared.seeds.Seeds.{Seeds}
use Rattle.pct_tallies.specs.declared.tally.Tally.{Tally}
use Rattle.pct_tallies.specs.Seeds.{seed_count, seeds_in}
use Rattle.pct_tallies.specs.Sums.{fits, sum_of}
use Rattle.pct_tallies.proofs.FittingSums.{sums_fit}
use Rattle.pct_tallies.proofs.SumsOfRuns.{sums_count_all}
use Rattle.pct_sample.specs.Parts.{AreParts, IsPart, TallyFrom}
use Rattle.pct_sample.specs.Samples.{TallyOf}
use Rattle.pct_sample.specs.SeedRuns.{IsRunOfSeed}
use Rattle.pct_sample.proofs.FewJoins.{runs_are_few}
use Rattle.pct_sample.proofs.OkRuns.{all_length, item_at}

-- so many numbers, and those right after them
range-append : (first n m : ℕ) → range_with_len first (n + m) ≡ range_with_len first n ++ range_with_len (first + n) m
range-append first zero m =
    let none : 0 + m ≡ m = omega arith in
    let same : first ≡ first + 0 = omega arith in
    ap (range_with_len first) none ∙ ap (λ (a : ℕ). range_with_len a m) same
range-append first (suc n) m =
    let next : (first + 1) + n ≡ first + suc n = omega arith in
    let one : suc n + m ≡ suc (n + m) = omega arith in
    ap (range_with_len first) one
    ∙ ap (λ (xs : List ℕ). first ∷ xs) (range-append (first + 1) n m ∙ ap (λ (a : ℕ). range_with_len (first + 1) n ++ range_with_len a m) next)

module _ (script : Script) where
  -- there is a run for each seed
  seeds_run : (first count : ℕ) (runs : List SeedRun) → AllZip (IsRunOfSeed script) (range_with_len first count) runs → length runs ≡ count
  seeds_run first count runs each = all_length (IsRunOfSeed script) (range_with_len first count) runs each ∙ length-range_with_len first count

  pub run_count : (seeds : Seeds) (runs : List SeedRun) → AllZip (IsRunOfSeed script) (seeds_in seeds) runs → length runs ≡ seed_count seeds
  run_count seeds runs each = seeds_run seeds.first (seed_count seeds) runs each

  -- the sum of two tallies that count at most 1,000,000 runs has numbers of 64 bits
  from_fit : (first n other m : ℕ) (earlier later : Tally) → n + m ≤ 1000000 → TallyFrom script first n earlier → TallyFrom script other m later → fits earlier later ≡ true
  from_fit first n other m earlier later few x y =
      let earlier_runs = seeds_run first n x.runs x.of_seeds in
      let later_runs = seeds_run other m y.runs y.of_seeds in
      (λ i. fits (x.counted i) (y.counted i))
      ∙ sums_fit x.runs y.runs (omega (arith, earlier_runs, later_runs, few)) (runs_are_few script (range_with_len first n) x.runs x.of_seeds) (runs_are_few script (range_with_len other m) y.runs y.of_seeds)

  -- the tally of a range is one from its first seed on
  from_first : (seeds : Seeds) (tally : Tally) → TallyOf script seeds tally → TallyFrom script seeds.first (seed_count seeds) tally
  from_first seeds tally x = record { runs = x.runs; of_seeds = x.of_seeds; counted = x.counted }

  pub tallies_fit : (one other : Seeds) (earlier later : Tally) → seed_count one + seed_count other ≤ 1000000 → TallyOf script one earlier → TallyOf script other later → fits earlier later ≡ true
  tallies_fit one other earlier later few x y =
      from_fit one.first (seed_count one) other.first (seed_count other) earlier later few (from_first one earlier x) (from_first other later y)

  -- the tally of some seeds, and that of the seeds right after them
  longer_tally : (first n next m all : ℕ) (earlier later tally : Tally) → next ≡ first + n → all ≡ n + m → TallyFrom script first n earlier → TallyFrom script next m later
      → tally ≡ sum_of earlier later → TallyFrom script first all tally
  longer_tally first n next m all earlier later tally next_is all_is x y sum =
      let seeds : range_with_len first n ++ range_with_len next m ≡ range_with_len first all =
      ap (λ (a : ℕ). range_with_len first n ++ range_with_len a m) next_is ∙ sym (range-append first n m) ∙ ap (range_with_len first) (sym all_is) in
      record {
        runs = x.runs ++ y.runs;
        of_seeds = subst (λ (s : List ℕ). AllZip (IsRunOfSeed script) s (x.runs ++ y.runs)) seeds
            (AllZip-append (IsRunOfSeed script) (range_with_len first n) (range_with_len next m) x.runs y.runs x.of_seeds y.of_seeds);
        counted = sum ∙ (λ i. sum_of (x.counted i) (y.counted i)) ∙ sym (sums_count_all x.runs y.runs);
      }

  module _ (seeds : Seeds) (size : ℕ) where
    -- the sum of the tallies of the parts before one, and of its own, has numbers of 64 bits
    pub part_fits : (part : ℕ) (all tally : Tally) → seed_count seeds ≤ 1000000 → TallyFrom script seeds.first (min (part * size) (seed_count seeds)) all → IsPart script seeds size part tally → fits all tally ≡ true
    part_fits part all tally few x y =
        let before = part * size in
        from_fit seeds.first (min before (seed_count seeds)) (seeds.first + min before (seed_count seeds)) (min size (seed_count seeds - before)) all tally (omega (arith, few)) x y

    -- and it is that of the parts so far
    pub one_part_more : (part : ℕ) (all tally sum : Tally) → TallyFrom script seeds.first (min (part * size) (seed_count seeds)) all → IsPart script seeds size part tally → sum ≡ sum_of all tally
        → TallyFrom script seeds.first (min ((part + 1) * size) (seed_count seeds)) sum
    one_part_more part all tally sum x y is =
        let count = seed_count seeds in
        longer_tally seeds.first (min (part * size) count) (seeds.first + min (part * size) count) (min size (count - part * size)) (min ((part + 1) * size) count) all tally sum refl (omega arith) x y is

    -- the part at a place
    pub part_at : (parts : List Tally) (place : ℕ) (tally : Tally) → AreParts script seeds size parts → place < length parts → tally ≡ slice_index_or parts place tally → IsPart script seeds size place tally
    part_at parts place tally are within is =
        let at : 0 + place ≡ place = omega arith in
        subst₂ (λ (n : ℕ) (t : Tally). IsPart script seeds size n t) at (sym is) (item_at (IsPart script seeds size) 0 (length parts) parts place tally are.each within)

    -- the tallies that are made of all parts
    pub are_parts : (end : ℕ) (parts : List Tally) → 1 ≤ size → end ≡ (seed_count seeds - 1) / size + 1 → AllZip (IsPart script seeds size) (nat_range 0 end) parts → AreParts script seeds size parts
    are_parts end parts some is each =
        let numbers = length-range_with_len 0 (end - 0) in
        let each_number = all_length (IsPart script seeds size) (nat_range 0 end) parts each in
        let as_many : length parts ≡ end - 0 = each_number ∙ numbers in
        let all : length parts ≡ (seed_count seeds - 1) / size + 1 = omega (arith, as_many, is) in
        let most = lt-mul-div-succ (seed_count seeds - 1) {b = size} (omega (arith, some)) in
        record {
          each = subst (λ (n : ℕ). AllZip (IsPart script seeds size) (range_with_len 0 n) parts) (sym as_many) each;
          all = rw (all, mul_comm ((seed_count seeds - 1) / size + 1) size) (omega (arith, most));
        }

    -- the parts have all seeds
    pub whole_tally : (parts : List Tally) (place : ℕ) (tally : Tally) → AreParts script seeds size parts → length parts ≤ place → place ≤ length parts
        → TallyFrom script seeds.first (min (place * size) (seed_count seeds)) tally → TallyOf script seeds tally
    whole_tally parts place tally are past within x =
        let place_is : place ≡ length parts = omega (arith, past, within) in
        let part_seeds : min (place * size) (seed_count seeds) ≡ seed_count seeds = rw place_is (omega (arith, are.all)) in
        record {
          runs = x.runs;
          of_seeds = subst (λ (n : ℕ). AllZip (IsRunOfSeed script) (range_with_len seeds.first n) x.runs) part_seeds x.of_seeds;
          counted = x.counted;
        }
