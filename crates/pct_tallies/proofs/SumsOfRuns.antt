-- The tally of runs is the sum of the tallies of its parts.
use Rattle.std.proofs.Common.{◌≡◌, ◌≢◌, ℕ, zero, suc, ◌+◌, ◌-◌, ◌≤◌, ◌<◌, Bool, true, false, cond, List, [], ◌∷◌, ◌++◌, Option, Some, None, find, filter, map, min, max, refl, sym, ap, subst, arith, ◌∙◌}
use Rattle.std.proofs.Common.{eqb-true, ne_eqb, nat_eq, not, ◌&&◌, ◌||◌, true≢false}
use Rattle.std.specs.List.{AllZip, range_with_len, count_by, list_any, sum_by, fold}
use Rattle.std.specs.Prelude.{option_map, unwrap_or}
use Rattle.std.specs.Option.{option_map_or}
use Rattle.std.proofs.lemmas.List.Sums.{fold-append, sum_by-cons, sum_by-append}
use Rattle.pct_model.specs.declared.limits.TheConstants.{DEFAULT_BUDGET}
use Rattle.pct_model.specs.declared.stop.Why.{Why}
use Rattle.pct_model.specs.declared.stop.Why.TheVariants as why
use Rattle.pct_model.specs.declared.stop.Verdict.{Verdict}
use Rattle.pct_model.specs.declared.stop.Verdict.TheVariants as verdict
use Rattle.pct_model.specs.contracts.stop.WhyPartialEq.TheImpl as why_eq
use Rattle.pct_tallies.specs.declared.count.Count.{Count}
use Rattle.pct_tallies.specs.declared.count.StopCount.{StopCount}
use Rattle.pct_tallies.specs.declared.seed_run.SeedRun.{SeedRun}
use Rattle.pct_tallies.specs.declared.seeds.Seeds.{Seeds}
use Rattle.pct_tallies.specs.declared.tally.Tally.{Tally}
use Rattle.pct_tallies.specs.Seeds.{seeds_in}
use Rattle.pct_tallies.specs.Sums.{count_at, is_stop, no_runs, stop_sum, sum_of, sum_of_counts, sums_among}
use Rattle.pct_tallies.specs.SumLaws.{SumsCountAll}
use Rattle.pct_tallies.specs.Tallies.{IsTallyOf, all_stops, count_of, first_with, has_verdict, is_met, least_in, most_in, runs_with, stop_count, stops_among, tally_of}
use Rattle.pct_tallies.proofs.Verdicts.{same_why, why_is_itself}

-- ---- counts

module _ {X : Type 0} (has : X → Bool) (number_of : X → ℕ) where
  -- the number of the first that has it, 0 if none has
  abbrev first : List X → ℕ
  first xs = unwrap_or (option_map number_of (find has xs)) 0

  -- the same of two lists
  abbrev first_of : ℕ → ℕ → ℕ → ℕ
  first_of runs later earlier = cond (nat_eq runs 0) later earlier

  counted : (x : X) (xs : List X) (b : Bool) → has x ≡ b → count_by has (x ∷ xs) ≡ cond b 1 0 + count_by has xs
  counted x xs b is = sum_by-cons (λ y. cond (has y) 1 0) x xs ∙ ap (λ (c : Bool). cond c 1 0 + count_by has xs) is

  some_runs : (n : ℕ) (later earlier : ℕ) → 0 < n → earlier ≡ first_of n later earlier
  some_runs n later earlier some = rw (ne_eqb n 0 (λ none. absurd (omega (arith, some, none)))) refl

  first_step : (x : X) (xs ys : List X) (b : Bool) → has x ≡ b → first (xs ++ ys) ≡ first_of (count_by has xs) (first ys) (first xs)
      → first (x ∷ (xs ++ ys)) ≡ first_of (count_by has (x ∷ xs)) (first ys) (first (x ∷ xs))
  first_step x xs ys true is more =
      let sum : count_by has (x ∷ xs) ≡ 1 + count_by has xs = counted x xs true is in
      let here : (zs : List X) → first (x ∷ zs) ≡ number_of x = λ zs. rw is refl in
      here (xs ++ ys) ∙ sym (here xs) ∙ some_runs (count_by has (x ∷ xs)) (first ys) (first (x ∷ xs)) (omega (arith, sum))
  first_step x xs ys false is more = rw is more

  -- the first of two lists is that of the one before, if it has one
  pub first_append : (xs ys : List X) → first (xs ++ ys) ≡ first_of (count_by has xs) (first ys) (first xs)
  first_append [] ys = refl
  first_append (x ∷ xs) ys = first_step x xs ys (has x) refl (first_append xs ys)

-- the count of two lists
count-append : (v : Verdict) (xs ys : List SeedRun) → count_of v (xs ++ ys) ≡ sum_of_counts (count_of v xs) (count_of v ys)
count-append v xs ys = λ i. record {
  runs = sum_by-append (λ r. cond (has_verdict v r) 1 0) xs ys i;
  first = first_append (has_verdict v) (λ r. r.seed) xs ys i;
}

-- ---- the least and the greatest

min_from : (a b : ℕ) (runs : List SeedRun) → fold (λ least r. min least r.steps) (min a b) runs ≡ min a (fold (λ least r. min least r.steps) b runs)
min_from a b [] = refl
min_from a b (r ∷ runs) =
    let same : min (min a b) r.steps ≡ min a (min b r.steps) = omega arith in
    ap (λ (n : ℕ). fold (λ least r. min least r.steps) n runs) same ∙ min_from a (min b r.steps) runs

max_from : (a b : ℕ) (runs : List SeedRun) → fold (λ most r. max most r.steps) (max a b) runs ≡ max a (fold (λ most r. max most r.steps) b runs)
max_from a b [] = refl
max_from a b (r ∷ runs) =
    let same : max (max a b) r.steps ≡ max a (max b r.steps) = omega arith in
    ap (λ (n : ℕ). fold (λ most r. max most r.steps) n runs) same ∙ max_from a (max b r.steps) runs

pub least_within : (a : ℕ) (runs : List SeedRun) → fold (λ least r. min least r.steps) a runs ≤ a
least_within a [] = omega arith
least_within a (r ∷ runs) = let more = least_within (min a r.steps) runs in omega (arith, more)

least-append : (xs ys : List SeedRun) → least_in (xs ++ ys) ≡ min (least_in xs) (least_in ys)
least-append xs ys =
    let within : least_in xs ≤ DEFAULT_BUDGET = least_within DEFAULT_BUDGET xs in
    let same : least_in xs ≡ min (least_in xs) DEFAULT_BUDGET = omega (arith, within) in
    fold-append (λ least (r : SeedRun). min least r.steps) DEFAULT_BUDGET xs ys
    ∙ ap (λ (n : ℕ). fold (λ least (r : SeedRun). min least r.steps) n ys) same
    ∙ min_from (least_in xs) DEFAULT_BUDGET ys

most-append : (xs ys : List SeedRun) → most_in (xs ++ ys) ≡ max (most_in xs) (most_in ys)
most-append xs ys =
    let same : most_in xs ≡ max (most_in xs) 0 = omega arith in
    fold-append (λ most (r : SeedRun). max most r.steps) 0 xs ys
    ∙ ap (λ (n : ℕ). fold (λ most (r : SeedRun). max most r.steps) n ys) same
    ∙ max_from (most_in xs) 0 ys

-- ---- stops

abbrev ended : List SeedRun → Why → Count
ended runs w = count_of (verdict.Undefined w) runs

-- where no run has it, there is no first
no_first : (has : SeedRun → Bool) (runs : List SeedRun) → count_by has runs ≡ 0 → unwrap_or (option_map (λ r. r.seed) (find has runs)) 0 ≡ 0
no_first has [] none = refl
no_first has (r ∷ runs) none = no_first_by has r runs (has r) refl none (no_first has runs)
  where
    no_first_by : (has : SeedRun → Bool) (r : SeedRun) (runs : List SeedRun) (b : Bool) → has r ≡ b → count_by has (r ∷ runs) ≡ 0 → (count_by has runs ≡ 0 → unwrap_or (option_map (λ x. x.seed) (find has runs)) 0 ≡ 0)
        → unwrap_or (option_map (λ x. x.seed) (find has (r ∷ runs))) 0 ≡ 0
    no_first_by has r runs true is none more = let sum : count_by has (r ∷ runs) ≡ 1 + count_by has runs = counted has (λ x. x.seed) r runs true is in absurd (omega (arith, sum, none))
    no_first_by has r runs false is none more = let sum : count_by has (r ∷ runs) ≡ 0 + count_by has runs = counted has (λ x. x.seed) r runs false is in rw is (more (omega (arith, sum, none)))

-- a count of no runs
none_counted : (w : Why) (runs : List SeedRun) → runs_with (verdict.Undefined w) runs ≡ 0 → ended runs w ≡ no_runs
none_counted w runs none = λ i. record { runs = none i; first = no_first (has_verdict (verdict.Undefined w)) runs none i }

module _ (runs : List SeedRun) where
  abbrev listed : List Why → List StopCount
  listed whys = filter is_met (map (stop_count runs) whys)

  -- what is found in a list that begins with a stop, if it was met
  at_head : (w v : Why) (rest : List StopCount) (met same : Bool) → is_met (stop_count runs v) ≡ met → why_eq.ghosts.eq v w ≡ same
      → count_at w (cond met (stop_count runs v ∷ rest) rest) ≡ cond (met && same) (ended runs v) (count_at w rest)
  unfolding count_at is_stop
  at_head w v rest true true m s = rw s refl
  at_head w v rest true false m s = rw s refl
  at_head w v rest false same m s = refl

  filtered : (v : Why) (whys : List Why) (met : Bool) → is_met (stop_count runs v) ≡ met → listed (v ∷ whys) ≡ cond met (stop_count runs v ∷ listed whys) (listed whys)
  filtered v whys true m = rw m refl
  filtered v whys false m = rw m refl

  not_met : (v : Why) → is_met (stop_count runs v) ≡ false → ended runs v ≡ no_runs
  not_met v m = none_counted v runs (eqb-true (runs_with (verdict.Undefined v) runs) 0 (not_false (nat_eq (runs_with (verdict.Undefined v) runs) 0) m))
    where
      not_false : (b : Bool) → not b ≡ false → b ≡ true
      not_false true e = refl
      not_false false e = absurd (true≢false e)

  -- one step of a search: what is found in the rest, unless it is the first
  found_by : (w v : Why) (whys : List Why) (c : Count) (met same : Bool) → is_met (stop_count runs v) ≡ met → why_eq.ghosts.eq v w ≡ same
      → (met ≡ true → same ≡ true → ended runs v ≡ c) → (met && same ≡ false → count_at w (listed whys) ≡ c) → count_at w (listed (v ∷ whys)) ≡ c
  found_by w v whys c true true m s first rest = ap (count_at w) (filtered v whys true m) ∙ at_head w v (listed whys) true true m s ∙ first refl refl
  found_by w v whys c true false m s first rest = ap (count_at w) (filtered v whys true m) ∙ at_head w v (listed whys) true false m s ∙ rest refl
  found_by w v whys c false same m s first rest = ap (count_at w) (filtered v whys false m) ∙ rest refl

  same_ended : (v w : Why) → why_eq.ghosts.eq v w ≡ true → ended runs v ≡ ended runs w
  same_ended v w s = ap (ended runs) (same_why v w s)

  -- a stop that ended no run is not found
  not_found : (w : Why) → ended runs w ≡ no_runs → (whys : List Why) → count_at w (listed whys) ≡ no_runs
  unfolding count_at
  not_found w none [] = refl
  not_found w none (v ∷ whys) =
      found_by w v whys no_runs (is_met (stop_count runs v)) (why_eq.ghosts.eq v w) refl refl (λ _ same. same_ended v w same ∙ none) (λ _. not_found w none whys)

  in_rest : (w v : Why) (whys : List Why) (met same : Bool) → is_met (stop_count runs v) ≡ met → why_eq.ghosts.eq v w ≡ same → (same || list_any (λ u. why_eq.ghosts.eq u w) whys) ≡ true → met && same ≡ false
      → (list_any (λ u. why_eq.ghosts.eq u w) whys ≡ true → count_at w (listed whys) ≡ ended runs w) → count_at w (listed whys) ≡ ended runs w
  in_rest w v whys met false m s any other more = more any
  in_rest w v whys false true m s any other more =
      let none : ended runs w ≡ no_runs = sym (same_ended v w s) ∙ not_met v m in
      not_found w none whys ∙ sym none
  in_rest w v whys true true m s any other more = absurd (true≢false other)

  -- one that is listed is found, if it ended a run
  at_listed : (w : Why) (whys : List Why) → list_any (λ v. why_eq.ghosts.eq v w) whys ≡ true → count_at w (listed whys) ≡ ended runs w
  at_listed w [] is = absurd (true≢false (sym is))
  at_listed w (v ∷ whys) is =
      let met = is_met (stop_count runs v) in
      let same = why_eq.ghosts.eq v w in
      found_by w v whys (ended runs w) met same refl refl (λ _ s. same_ended v w s) (λ other. in_rest w v whys met same refl refl is other (at_listed w whys))

-- each stop is listed
pub is_listed : (w : Why) → list_any (λ v. why_eq.ghosts.eq v w) all_stops ≡ true
unfolding all_stops
is_listed why.ForkChildCall = refl
is_listed why.AsyncCall = refl
is_listed why.EnableInHandler = refl
is_listed why.ExitInEnding = refl
is_listed why.ThreadId = refl
is_listed why.JoinSelf = refl
is_listed why.NotJoinable = refl
is_listed why.JoinTwice = refl
is_listed why.DetachJoined = refl
is_listed why.KeyId = refl
is_listed why.NotOwner = refl
is_listed why.CondTwoMutexes = refl
is_listed why.ExitTwice = refl
is_listed why.ForkInEnding = refl
is_listed why.StackFull = refl
is_listed why.CleanupFull = refl

-- the count of a stop in a tally is that of the runs
pub counted_stop : (runs : List SeedRun) (w : Why) → count_at w (stops_among runs all_stops) ≡ ended runs w
unfolding stops_among
counted_stop runs w = at_listed runs w all_stops (is_listed w)

stop_of_all : (xs ys : List SeedRun) (w : Why) → stop_count (xs ++ ys) w ≡ stop_sum (stops_among xs all_stops) (stops_among ys all_stops) w
unfolding stops_among
stop_of_all xs ys w = λ i. record {
  why = w;
  count = (count-append (verdict.Undefined w) xs ys ∙ (λ j. sum_of_counts (sym (at_listed xs w all_stops (is_listed w)) j) (sym (at_listed ys w all_stops (is_listed w)) j))) i;
}

stops-append : (xs ys : List SeedRun) → stops_among (xs ++ ys) all_stops ≡ sums_among (stops_among xs all_stops) (stops_among ys all_stops) all_stops
unfolding sums_among stops_among
stops-append xs ys = λ i. filter is_met (map (λ w. stop_of_all xs ys w i) all_stops)

-- a tally is that of all runs
pub sums_count_all : SumsCountAll
sums_count_all xs ys = λ i. record {
  complete = count-append verdict.Complete xs ys i;
  deadlock = count-append verdict.Deadlock xs ys i;
  budget = count-append verdict.Budget xs ys i;
  stops = stops-append xs ys i;
  joined = sum_by-append (λ r. r.joined) xs ys i;
  canceled = sum_by-append (λ r. r.canceled) xs ys i;
  least = least-append xs ys i;
  most = most-append xs ys i;
}

module _ {X Y : Type 0} (R : X → Y → Type 0) where
  all_zip-append : (xs more : List X) (ys others : List Y) → AllZip R xs ys → AllZip R more others → AllZip R (xs ++ more) (ys ++ others)
  all_zip-append [] more [] others x y = y
  all_zip-append [] more (b ∷ ys) others x y = absurd x
  all_zip-append (a ∷ xs) more [] others x y = absurd x
  all_zip-append (a ∷ xs) more (b ∷ ys) others x y = (x.0, all_zip-append xs more ys others x.1 y)

range-append : (first n m : ℕ) → range_with_len first (n + m) ≡ range_with_len first n ++ range_with_len (first + n) m
range-append first zero m =
    let none : 0 + m ≡ m = omega arith in
    let same : first ≡ first + 0 = omega arith in
    ap (range_with_len first) none ∙ ap (λ (a : ℕ). range_with_len a m) same
range-append first (suc n) m =
    let next : (first + 1) + n ≡ first + suc n = omega arith in
    let one : suc n + m ≡ suc (n + m) = omega arith in
    ap (range_with_len first) one
    ∙ ap (λ (xs : List ℕ). first ∷ xs) (range-append (first + 1) n m ∙ ap (λ (a : ℕ). range_with_len (first + 1) n ++ range_with_len a m) next)

-- the seeds of two ranges, the second of which begins right after the first
seeds-append : (first middle last : ℕ) → first ≤ middle → middle + 1 ≤ last
    → seeds_in (record { first = first; last = middle }) ++ seeds_in (record { first = middle + 1; last = last }) ≡ seeds_in (record { first = first; last = last })
seeds-append first middle last some more =
    let next : first + (middle + 1 - first) ≡ middle + 1 = omega (arith, some) in
    let all : (middle + 1 - first) + (last + 1 - (middle + 1)) ≡ last + 1 - first = omega (arith, some, more) in
    ap (λ (a : ℕ). range_with_len first (middle + 1 - first) ++ range_with_len a (last + 1 - (middle + 1))) (sym next)
    ∙ sym (range-append first (middle + 1 - first) (last + 1 - (middle + 1)))
    ∙ ap (range_with_len first) all

-- the sum of the tallies for the seeds first to middle and middle + 1 to last is the tally for the seeds first to last
pub sum_of_ranges : (counts : ℕ → SeedRun → Type 0) (first middle last : ℕ) (earlier later : Tally) → first ≤ middle → middle + 1 ≤ last
    → IsTallyOf counts (record { first = first; last = middle }) earlier → IsTallyOf counts (record { first = middle + 1; last = last }) later
    → IsTallyOf counts (record { first = first; last = last }) (sum_of earlier later)
sum_of_ranges counts first middle last earlier later some more x y = record {
  runs = x.runs ++ y.runs;
  of_seeds = subst (λ (seeds : List ℕ). AllZip counts seeds (x.runs ++ y.runs)) (seeds-append first middle last some more)
      (all_zip-append counts (seeds_in (record { first = first; last = middle })) (seeds_in (record { first = middle + 1; last = last })) x.runs y.runs x.of_seeds y.of_seeds);
  counted = (λ i. sum_of (x.counted i) (y.counted i)) ∙ sym (sums_count_all x.runs y.runs);
}
