-- The lines of tallies are read as these tallies.
use Rattle.std.proofs.Common.{◌≡◌, ◌⊎◌, inl, inr, ℕ, zero, suc, ◌+◌, ◌<◌, ◌≤◌, Bool, true, false, ◌||◌, List, [], ◌∷◌, ◌++◌, Option, Some, None, ap, arith, length, length-append, map, refl, sym, subst, ◌∙◌, true≢false}
use Rattle.std.specs.Prelude.{Result, Ok, Err, codes, decimal, flat_map}
use Rattle.std.specs.List.{join_with_byte, list_any}
use Rattle.std.proofs.lemmas.List.{length-map, map-append}
use Rattle.pct_model.specs.declared.keyword.Keyword.TheVariants as keyword
use Rattle.pct_model.specs.declared.stop.Why.{Why}
use Rattle.pct_model.specs.contracts.stop.WhyPartialEq.TheImpl as why_eq
use Rattle.pct_model.specs.Keywords.{keyword_text}
use Rattle.pct_tallies.specs.declared.count.Count.{Count}
use Rattle.pct_tallies.specs.declared.count.StopCount.{StopCount}
use Rattle.pct_tallies.specs.declared.range_tally.PlacedTally.{PlacedTally}
use Rattle.pct_tallies.specs.declared.range_tally.RangeTally.{RangeTally}
use Rattle.pct_tallies.specs.declared.seeds.Seeds.{Seeds}
use Rattle.pct_tallies.specs.declared.tally.Tally.{Tally}
use Rattle.pct_tallies.specs.Readings.{Left, count_for, counts_from, digest_of, limits_of, next_by, number_for, prepend, range_from, seeds_of, small_number_for, stop_from, stops_from, subject_from, tallies_from, totals_from, with_others}
use Rattle.pct_tallies.proofs.ManyTallies.{none_left}
use Rattle.pct_tallies.specs.Tallies.{all_stops}
use Rattle.pct_tallies.specs.TallyTexts.{count_lines, number_line, range_lines, stop_line, subject_lines, total_lines, verdict_count_line, verdict_lines}
use Rattle.pct_tallies.specs.TextLaws.{AreStops, AreWritable, IsCounted, IsSome, IsWritable, placed_from}
use Rattle.pct_tallies.proofs.LinesAgain.{budget_lacks, canceled_lacks, complete_lacks, count_line_again, deadlock_lacks, digest_again, joined_lacks, least_lacks, limits_again, most_lacks, no_stop_line, number_line_again, other_stop, seeds_again, small_number_line_again, stop_line_again}
use Rattle.pct_tallies.proofs.Verdicts.{why_is_itself}

next_again : {A : Type 0} (f : List ℕ → Option A) (n : ℕ) (line : List ℕ) (rest : List (List ℕ)) (x : A) → f line ≡ Some x → next_by f (n, line ∷ rest) ≡ Ok (x, (n + 1, rest))
unfolding next_by
next_again f n line rest x is = rw is refl

-- ---- stops

abbrev pub stop_text : StopCount → List ℕ
stop_text s = join_with_byte 32 (stop_line s)

abbrev joined_text : ℕ → List ℕ
joined_text n = join_with_byte 32 (number_line keyword.Joined n)

-- each stop is listed once
abbrev Distinct : List Why → Type 0
Distinct [] = Unit {0}
Distinct (w ∷ whys) = (list_any (λ v. why_eq.ghosts.eq v w) whys ≡ false) × Distinct whys

all_distinct : Distinct all_stops
unfolding all_stops
all_distinct = (refl, (refl, (refl, (refl, (refl, (refl, (refl, (refl, (refl, (refl, (refl, (refl, (refl, (refl, (refl, (refl, tt))))))))))))))))

or_right : (a b : Bool) → b ≡ true → (a || b) ≡ true
or_right true b is = refl
or_right false b is = is

or_left : (a b : Bool) → a ≡ true → (a || b) ≡ true
or_left a b is = rw is refl

-- the first stop that is met is one of these
head_stop : (seeds : Seeds) (whys : List Why) (s : StopCount) (stops : List StopCount) → AreStops seeds whys (s ∷ stops) → IsSome seeds s.count × (list_any (λ v. why_eq.ghosts.eq v s.why) whys ≡ true)
head_stop seeds [] s stops are = absurd are
head_stop seeds (w ∷ whys) s stops (inl met) =
    (met.1, or_left (why_eq.ghosts.eq w s.why) (list_any (λ v. why_eq.ghosts.eq v s.why) whys) (subst (λ (v : Why). why_eq.ghosts.eq v s.why ≡ true) met.0 (why_is_itself s.why)))
head_stop seeds (w ∷ whys) s stops (inr more) =
    let rest = head_stop seeds whys s stops more in
    (rest.0, or_right (why_eq.ghosts.eq w s.why) (list_any (λ v. why_eq.ghosts.eq v s.why) whys) rest.1)

-- the lines of stops and the line after them
abbrev stop_lines : List StopCount → ℕ → List (List ℕ) → List (List ℕ)
stop_lines stops m rest = map stop_text stops ++ (joined_text m ∷ rest)

-- a stop that is none of these is not the next one
unmet : (seeds : Seeds) (w : Why) (whys : List Why) (stops : List StopCount) → AreStops seeds whys stops → list_any (λ v. why_eq.ghosts.eq v w) whys ≡ false → (n m : ℕ) (rest : List (List ℕ))
    → stop_from w seeds (n, stop_lines stops m rest) ≡ None
unfolding stop_from
unmet seeds w whys [] are other n m rest = rw (no_stop_line w seeds m) refl
unmet seeds w whys (s ∷ stops) are other n m rest =
    let head = head_stop seeds whys s stops are in
    let differ : ¬ (s.why ≡ w) = λ same. true≢false (sym head.1 ∙ ap (λ (x : Why). list_any (λ v. why_eq.ghosts.eq v x) whys) same ∙ other) in
    rw (other_stop w s.why seeds s.count head.0 differ) refl

-- what is read of the stops
abbrev Given : List StopCount → ℕ → ℕ → List (List ℕ) → List StopCount × Left
Given stops n m rest = (stops, (n + length stops, joined_text m ∷ rest))

met_step : (seeds : Seeds) (w : Why) (whys : List Why) (s : StopCount) (stops : List StopCount) (n m : ℕ) (rest : List (List ℕ)) → s.why ≡ w → IsSome seeds s.count
    → stops_from whys seeds (n + 1, stop_lines stops m rest) ≡ Given stops (n + 1) m rest → stops_from (w ∷ whys) seeds (n, stop_lines (s ∷ stops) m rest) ≡ Given (s ∷ stops) n m rest
unfolding stops_from stop_from
met_step seeds w whys s stops n m rest same some more =
    subst (λ (v : Why). stops_from (v ∷ whys) seeds (n, stop_lines (s ∷ stops) m rest) ≡ Given (s ∷ stops) n m rest) same
    (let number : (n + 1) + length stops ≡ n + suc (length stops) = omega arith in
    rw (stop_line_again s.why seeds s.count some)
    ((λ i. (s ∷ (more i).0, (more i).1)) ∙ (λ i. (s ∷ stops, (number i, joined_text m ∷ rest)))))

unmet_step : (seeds : Seeds) (w : Why) (whys : List Why) (left : Left) (given : List StopCount × Left) → stop_from w seeds left ≡ None → stops_from whys seeds left ≡ given → stops_from (w ∷ whys) seeds left ≡ given
unfolding stops_from
unmet_step seeds w whys left given none more = rw none more

none_read : (seeds : Seeds) (left : Left) → stops_from [] seeds left ≡ ([], left)
unfolding stops_from
none_read seeds left = refl

no_stops_are : (seeds : Seeds) (whys : List Why) → AreStops seeds whys []
no_stops_are seeds [] = tt
no_stops_are seeds (w ∷ whys) = tt

stops_again : (seeds : Seeds) (whys : List Why) (stops : List StopCount) → AreStops seeds whys stops → Distinct whys → (n m : ℕ) (rest : List (List ℕ))
    → stops_from whys seeds (n, stop_lines stops m rest) ≡ Given stops n m rest
stops_again seeds [] [] are distinct n m rest =
    let same : n ≡ n + 0 = omega arith in
    none_read seeds (n, joined_text m ∷ rest) ∙ (λ i. ([], (same i, joined_text m ∷ rest)))
stops_again seeds [] (s ∷ stops) are distinct n m rest = absurd are
stops_again seeds (w ∷ whys) [] are distinct n m rest =
    unmet_step seeds w whys (n, stop_lines [] m rest) (Given [] n m rest) (unmet seeds w whys [] (no_stops_are seeds whys) distinct.0 n m rest) (stops_again seeds whys [] (no_stops_are seeds whys) distinct.1 n m rest)
stops_again seeds (w ∷ whys) (s ∷ stops) (inl met) distinct n m rest =
    met_step seeds w whys s stops n m rest met.0 met.1 (stops_again seeds whys stops met.2 distinct.1 (n + 1) m rest)
stops_again seeds (w ∷ whys) (s ∷ stops) (inr more) distinct n m rest =
    unmet_step seeds w whys (n, stop_lines (s ∷ stops) m rest) (Given (s ∷ stops) n m rest) (unmet seeds w whys (s ∷ stops) more distinct.0 n m rest) (stops_again seeds whys (s ∷ stops) more distinct.1 n m rest)

-- ---- one tally

abbrev pub bytes_of : List (List ℕ) → List ℕ
bytes_of words = join_with_byte 32 words

-- the lines of what is counted, one by one, and the lines after them
abbrev pub count_texts : Tally → List (List ℕ) → List (List ℕ)
count_texts t rest =
    bytes_of (verdict_count_line keyword.Complete t.complete) ∷ bytes_of (verdict_count_line keyword.Deadlock t.deadlock) ∷ bytes_of (verdict_count_line keyword.Budget t.budget)
    ∷ stop_lines t.stops t.joined (bytes_of (number_line keyword.Canceled t.canceled) ∷ bytes_of (number_line keyword.Least t.least) ∷ bytes_of (number_line keyword.Most t.most) ∷ rest)

after_stops : (stops : List StopCount) (lines : List (List (List ℕ))) (rest : List (List ℕ)) → map bytes_of (map stop_line stops ++ lines) ++ rest ≡ map stop_text stops ++ (map bytes_of lines ++ rest)
after_stops [] lines rest = refl
after_stops (s ∷ stops) lines rest = ap (λ (ls : List (List ℕ)). stop_text s ∷ ls) (after_stops stops lines rest)

pub counts_text : (t : Tally) (rest : List (List ℕ)) → map bytes_of (count_lines t) ++ rest ≡ count_texts t rest
unfolding count_lines verdict_lines total_lines
counts_text t rest =
    ap (λ (ls : List (List ℕ)). bytes_of (verdict_count_line keyword.Complete t.complete) ∷ bytes_of (verdict_count_line keyword.Deadlock t.deadlock) ∷ bytes_of (verdict_count_line keyword.Budget t.budget) ∷ ls)
    (after_stops t.stops (number_line keyword.Joined t.joined ∷ number_line keyword.Canceled t.canceled ∷ number_line keyword.Least t.least ∷ number_line keyword.Most t.most ∷ []) rest)

-- the number of the line after what is counted
abbrev after_counts : Tally → ℕ → ℕ
after_counts t n = n + 1 + 1 + 1 + length t.stops + 1 + 1 + 1 + 1

counts_again : (seeds : Seeds) (t : Tally) → IsCounted seeds t → (n : ℕ) (rest : List (List ℕ)) → counts_from seeds (n, count_texts t rest) ≡ Ok (t, (after_counts t n, rest))
unfolding counts_from totals_from
counts_again seeds t is n rest =
    let totals = bytes_of (number_line keyword.Canceled t.canceled) ∷ bytes_of (number_line keyword.Least t.least) ∷ bytes_of (number_line keyword.Most t.most) ∷ rest in
    let stops = stops_again seeds all_stops t.stops is.stops all_distinct (n + 1 + 1 + 1) t.joined totals in
    rw (
      next_again (count_for keyword.Complete seeds) n (bytes_of (verdict_count_line keyword.Complete t.complete)) _ t.complete (count_line_again keyword.Complete seeds t.complete complete_lacks is.complete),
      next_again (count_for keyword.Deadlock seeds) (n + 1) (bytes_of (verdict_count_line keyword.Deadlock t.deadlock)) _ t.deadlock (count_line_again keyword.Deadlock seeds t.deadlock deadlock_lacks is.deadlock),
      next_again (count_for keyword.Budget seeds) (n + 1 + 1) (bytes_of (verdict_count_line keyword.Budget t.budget)) _ t.budget (count_line_again keyword.Budget seeds t.budget budget_lacks is.budget),
      stops,
      next_again (number_for keyword.Joined) (n + 1 + 1 + 1 + length t.stops) (joined_text t.joined) _ t.joined (number_line_again keyword.Joined t.joined joined_lacks is.joined),
      next_again (number_for keyword.Canceled) (n + 1 + 1 + 1 + length t.stops + 1) (bytes_of (number_line keyword.Canceled t.canceled)) _ t.canceled (number_line_again keyword.Canceled t.canceled canceled_lacks is.canceled),
      next_again (small_number_for keyword.Least) (n + 1 + 1 + 1 + length t.stops + 1 + 1) (bytes_of (number_line keyword.Least t.least)) _ t.least (small_number_line_again keyword.Least t.least least_lacks is.least),
      next_again (small_number_for keyword.Most) (n + 1 + 1 + 1 + length t.stops + 1 + 1 + 1) (bytes_of (number_line keyword.Most t.most)) _ t.most (small_number_line_again keyword.Most t.most most_lacks is.most),
    ) refl

-- the lines of a tally, one by one, and the lines after them
abbrev pub range_texts : RangeTally → List (List ℕ) → List (List ℕ)
range_texts r rest =
    bytes_of (codes "tally" ∷ decimal r.seeds.first ∷ decimal r.seeds.last ∷ []) ∷ bytes_of (keyword_text keyword.Script ∷ r.subject.digest ∷ [])
    ∷ bytes_of (codes "limits" ∷ decimal r.subject.limits.budget ∷ decimal r.subject.limits.passes ∷ decimal r.subject.limits.slots ∷ []) ∷ count_texts r.tally rest

pub range_text : (r : RangeTally) (rest : List (List ℕ)) → map bytes_of (range_lines r) ++ rest ≡ range_texts r rest
unfolding range_lines subject_lines
range_text r rest =
    ap (λ (ls : List (List ℕ)). bytes_of (codes "tally" ∷ decimal r.seeds.first ∷ decimal r.seeds.last ∷ []) ∷ bytes_of (keyword_text keyword.Script ∷ r.subject.digest ∷ [])
    ∷ bytes_of (codes "limits" ∷ decimal r.subject.limits.budget ∷ decimal r.subject.limits.passes ∷ decimal r.subject.limits.slots ∷ []) ∷ ls) (counts_text r.tally rest)

range_again : (r : RangeTally) → IsWritable r → (n : ℕ) (rest : List (List ℕ)) → range_from (n, range_texts r rest) ≡ Ok (r, (after_counts r.tally (n + 1 + 1 + 1), rest))
unfolding range_from subject_from
range_again r is n rest =
    rw (
      next_again seeds_of n (bytes_of (codes "tally" ∷ decimal r.seeds.first ∷ decimal r.seeds.last ∷ [])) _ r.seeds (seeds_again r.seeds is.seeds),
      next_again digest_of (n + 1) (bytes_of (keyword_text keyword.Script ∷ r.subject.digest ∷ [])) _ r.subject.digest (digest_again r.subject.digest is.digest),
      next_again limits_of (n + 1 + 1) (bytes_of (codes "limits" ∷ decimal r.subject.limits.budget ∷ decimal r.subject.limits.passes ∷ decimal r.subject.limits.slots ∷ [])) _ r.subject.limits (limits_again r.subject.limits is.limits),
      counts_again r.seeds r.tally is.counted (n + 1 + 1 + 1) rest,
    ) refl

-- ---- many

number_of_lines : (r : RangeTally) (n : ℕ) → after_counts r.tally (n + 1 + 1 + 1) ≡ n + length (range_lines r)
unfolding range_lines subject_lines count_lines verdict_lines total_lines
number_of_lines r n = omega (
  arith,
  length-append (map stop_line r.tally.stops)
      (number_line keyword.Joined r.tally.joined ∷ number_line keyword.Canceled r.tally.canceled ∷ number_line keyword.Least r.tally.least ∷ number_line keyword.Most r.tally.most ∷ []),
  length-map r.tally.stops stop_line,
)

one_more : (most n : ℕ) (line : List ℕ) (lines : List (List ℕ)) → tallies_from (suc most) (n, line ∷ lines) ≡ with_others n (tallies_from most) (range_from (n, line ∷ lines))
unfolding tallies_from
one_more most n line lines = refl

pub all_again : (ranges : List RangeTally) → AreWritable ranges → (most n : ℕ) → length ranges ≤ most → tallies_from most (n, map bytes_of (flat_map range_lines ranges)) ≡ Ok (placed_from n ranges)
all_again [] are most n enough = none_left most n
all_again (r ∷ ranges) are zero n enough = absurd (omega (arith, enough))
all_again (r ∷ ranges) are (suc most) n enough =
    let more = map bytes_of (flat_map range_lines ranges) in
    let number : after_counts r.tally (n + 1 + 1 + 1) ≡ n + length (range_lines r) = number_of_lines r n in
    let rest = all_again ranges are.1 most (n + length (range_lines r)) (omega (arith, enough)) in
    ap (λ (ls : List (List ℕ)). tallies_from (suc most) (n, ls)) (map-append bytes_of (range_lines r) (flat_map range_lines ranges) ∙ range_text r more)
    ∙ one_more most n _ _
    ∙ ap (with_others n (tallies_from most)) (range_again r are.0 n more ∙ (λ i. Ok (r, (number i, more))))
    ∙ ap (prepend (record { line = n; range = r })) rest
