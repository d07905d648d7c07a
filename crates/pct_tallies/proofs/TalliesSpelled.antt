-- Lines that are read as tallies are the lines of these tallies.
use Rattle.std.proofs.Common.{◌≡◌, ℕ, zero, suc, ◌+◌, ◌<◌, ◌≤◌, arith, le_refl, length, length-append, List, [], ◌∷◌, ◌++◌, Option, Some, None, append-nil, ap, map, refl, sym, subst, ◌∙◌}
use Rattle.std.specs.Prelude.{Result, Ok, Err, codes, decimal, flat_map}
use Rattle.std.specs.List.{join_with_byte}
use Rattle.std.specs.Option.{option_map}
use Rattle.std.proofs.lemmas.List.{length-map, map-append}
use Rattle.pct_model.specs.Lines.{lines_of, split_once, strip_cr}
use Rattle.pct_text.proofs.Lines.{lines_of-last, lines_of-nil, lines_of-split_once}
use Rattle.pct_text.proofs.SplitOnce.{split_joins}
use Rattle.pct_names.proofs.Names.{none-some, same_Some}
use Rattle.pct_model.specs.declared.keyword.Keyword.TheVariants as keyword
use Rattle.pct_model.specs.declared.stop.Why.{Why}
use Rattle.pct_model.specs.Keywords.{keyword_text}
use Rattle.pct_tallies.specs.declared.count.Count.{Count}
use Rattle.pct_tallies.specs.declared.count.StopCount.{StopCount}
use Rattle.pct_tallies.specs.declared.fault.TallyWhy.TheVariants as why
use Rattle.pct_tallies.specs.declared.range_tally.PlacedTally.{PlacedTally}
use Rattle.pct_tallies.specs.declared.range_tally.RangeTally.{RangeTally}
use Rattle.pct_tallies.specs.declared.range_tally.Subject.{Subject}
use Rattle.pct_tallies.specs.declared.seeds.Seeds.{Seeds}
use Rattle.pct_tallies.specs.declared.tally.Tally.{Tally}
use Rattle.pct_tallies.specs.Faults.{Fault}
use Rattle.pct_tallies.specs.Readings.{Left, Read, ◌>>>◌, count_for, counts_from, digest_of, given, if_some, limits_of, lines_in, next_by, number_for, prepend, range_from, seeds_of, small_number_for, stop_count_for, stop_from, stops_from, subject_from, tallies_from, tallies_in, totals_from, with_others}
use Rattle.pct_tallies.specs.Tallies.{all_stops}
use Rattle.pct_tallies.specs.TallyTexts.{count_lines, number_line, range_lines, stop_line, subject_lines, verdict_count_line}
use Rattle.pct_tallies.specs.TextLaws.{ReadIsSpelled, ranges_of}
use Rattle.pct_tallies.proofs.LinesSpelled.{count_line_spelled, digest_spelled, limits_spelled, number_spelled, seeds_spelled, small_number_spelled, stop_spelled}
use Rattle.pct_tallies.proofs.TalliesAgain.{bytes_of, count_texts, counts_text, range_text, range_texts, stop_text}

-- ---- what was read

abbrev value_or : {A : Type 0} → A × Left → Read A → A × Left
value_or other (Ok read) = read
value_or other (Err fault) = other

same_read : {A : Type 0} (a b : A × Left) → ◌≡◌ {A = Read A} (Ok a) (Ok b) → a ≡ b
same_read a b is = ap (value_or a) is

no_read : {A : Type 0} (fault : Fault) (a : A × Left) → ◌≡◌ {A = Read A} (Err fault) (Ok a) → ⊥
no_read fault a is = cc

-- what a reading was made of
bound_read : {A B : Type 0} (read : Read A) (f : A → Left → Read B) (y : B × Left) → (read >>> f) ≡ Ok y → (x : A × Left) × (read ≡ Ok x) × (f x.0 x.1 ≡ Ok y)
bound_read (Ok x) f y is = (x, refl, is)
bound_read (Err fault) f y is = absurd (no_read fault y is)

-- the line that was read
pub line_read : {A : Type 0} (f : List ℕ → Option A) (left : Left) (x : A × Left) → next_by f left ≡ Ok x → (line : List ℕ) × (left.1 ≡ line ∷ x.1.1) × (f line ≡ Some x.0)
unfolding next_by
line_read f (n, []) x is = absurd (no_read (n, why.BadLine) x is)
line_read f (n, line ∷ lines) x is = by_value f n line lines x (f line) refl is
  where
    by_value : {A : Type 0} (f : List ℕ → Option A) (n : ℕ) (line : List ℕ) (lines : List (List ℕ)) (x : A × Left) (o : Option A) → f line ≡ o → given n o lines ≡ Ok x
        → (l : List ℕ) × (line ∷ lines ≡ l ∷ x.1.1) × (f l ≡ Some x.0)
    by_value f n line lines x None o_is is = absurd (no_read (n, why.BadLine) x is)
    by_value f n line lines x (Some value) o_is is =
        let same = same_read (value, (n + 1, lines)) x is in
        (line, (λ i. line ∷ (same i).1.1), o_is ∙ (λ i. Some (same i).0))

-- ---- stops

stop_is_read : (w : Why) (seeds : Seeds) (left rest : Left) (count : Count) → stop_from w seeds left ≡ Some (count, rest) → left.1 ≡ stop_text (record { why = w; count = count }) ∷ rest.1
unfolding stop_from
stop_is_read w seeds (n, []) rest count is = absurd (no_stop_read (count, rest) is)
  where
    no_stop_read : (x : Count × Left) → None ≡ Some x → ⊥
    no_stop_read x h = none-some x h
stop_is_read w seeds (n, line ∷ lines) rest count is = by_count (stop_count_for w seeds line) refl is
  where
    by_count : (o : Option Count) → stop_count_for w seeds line ≡ o → option_map {U = Count × Left} (λ c. (c, (n + 1, lines))) o ≡ Some (count, rest) → line ∷ lines ≡ stop_text (record { why = w; count = count }) ∷ rest.1
    by_count None o_is h = let x : Count × Left = (count, rest) in absurd (none-some x h)
    by_count (Some c) o_is h =
        let x : Count × Left = (c, (n + 1, lines)) in
        let y : Count × Left = (count, rest) in
        let same = same_Some x y h in
        (λ i. stop_spelled w seeds line c o_is i ∷ lines) ∙ (λ i. stop_text (record { why = w; count = (same i).0 }) ∷ (same i).1.1)

stops_are_read : (whys : List Why) (seeds : Seeds) (left : Left) → left.1 ≡ map stop_text (stops_from whys seeds left).0 ++ (stops_from whys seeds left).1.1
unfolding stops_from
stops_are_read [] seeds left = refl
stops_are_read (w ∷ whys) seeds left = by_stop w whys seeds left (stop_from w seeds left) refl (stops_are_read whys seeds)
  where
    by_stop : (w : Why) (whys : List Why) (seeds : Seeds) (left : Left) (o : Option (Count × Left)) → stop_from w seeds left ≡ o
        → ((l : Left) → l.1 ≡ map stop_text (stops_from whys seeds l).0 ++ (stops_from whys seeds l).1.1)
        → left.1 ≡ map stop_text (stops_from (w ∷ whys) seeds left).0 ++ (stops_from (w ∷ whys) seeds left).1.1
    by_stop w whys seeds left None o_is more = rw o_is (more left)
    by_stop w whys seeds left (Some found) o_is more =
        rw o_is (stop_is_read w seeds left found.1 found.0 o_is ∙ ap (λ (ls : List (List ℕ)). stop_text (record { why = w; count = found.0 }) ∷ ls) (more found.1))

-- ---- one tally

counts_are_read : (seeds : Seeds) (left : Left) (t : Tally × Left) → counts_from seeds left ≡ Ok t → left.1 ≡ count_texts t.0 t.1.1
unfolding counts_from totals_from
counts_are_read seeds left t is =
    let a = bound_read (next_by (count_for keyword.Complete seeds) left) _ t is in
    let b = bound_read (next_by (count_for keyword.Deadlock seeds) a.0.1) _ t a.2 in
    let c = bound_read (next_by (count_for keyword.Budget seeds) b.0.1) _ t b.2 in
    let stops = stops_from all_stops seeds c.0.1 in
    let d = bound_read (next_by (number_for keyword.Joined) stops.1) _ t c.2 in
    let e = bound_read (next_by (number_for keyword.Canceled) d.0.1) _ t d.2 in
    let f = bound_read (next_by (small_number_for keyword.Least) e.0.1) _ t e.2 in
    let g = bound_read (next_by (small_number_for keyword.Most) f.0.1) _ t f.2 in
    let made : Tally = record { complete = a.0.0; deadlock = b.0.0; budget = c.0.0; stops = stops.0; joined = d.0.0; canceled = e.0.0; least = f.0.0; most = g.0.0 } in
    let whole : Tally × Left = (made, g.0.1) in
    let same : whole ≡ t = same_read whole t g.2 in
    let la = line_read (count_for keyword.Complete seeds) left a.0 a.1 in
    let lb = line_read (count_for keyword.Deadlock seeds) a.0.1 b.0 b.1 in
    let lc = line_read (count_for keyword.Budget seeds) b.0.1 c.0 c.1 in
    let ld = line_read (number_for keyword.Joined) stops.1 d.0 d.1 in
    let le = line_read (number_for keyword.Canceled) d.0.1 e.0 e.1 in
    let lf = line_read (small_number_for keyword.Least) e.0.1 f.0 f.1 in
    let lg = line_read (small_number_for keyword.Most) f.0.1 g.0 g.1 in
    let first = count_line_spelled keyword.Complete seeds la.0 a.0.0 la.2 in
    let second = count_line_spelled keyword.Deadlock seeds lb.0 b.0.0 lb.2 in
    let third = count_line_spelled keyword.Budget seeds lc.0 c.0.0 lc.2 in
    let joined = number_spelled keyword.Joined ld.0 d.0.0 ld.2 in
    let canceled = number_spelled keyword.Canceled le.0 e.0.0 le.2 in
    let least = small_number_spelled keyword.Least lf.0 f.0.0 lf.2 in
    let most = small_number_spelled keyword.Most lg.0 g.0.0 lg.2 in
    let after_most : f.0.1.1 ≡ bytes_of (number_line keyword.Most g.0.0) ∷ g.0.1.1 = lg.1 ∙ (λ i. most i ∷ g.0.1.1) in
    let after_least : e.0.1.1 ≡ bytes_of (number_line keyword.Least f.0.0) ∷ bytes_of (number_line keyword.Most g.0.0) ∷ g.0.1.1 = lf.1 ∙ (λ i. least i ∷ after_most i) in
    let after_canceled : d.0.1.1 ≡ bytes_of (number_line keyword.Canceled e.0.0) ∷ bytes_of (number_line keyword.Least f.0.0) ∷ bytes_of (number_line keyword.Most g.0.0) ∷ g.0.1.1 = le.1 ∙ (λ i. canceled i ∷ after_least i) in
    let after_stops : c.0.1.1 ≡ map stop_text stops.0 ++ (bytes_of (number_line keyword.Joined d.0.0) ∷ bytes_of (number_line keyword.Canceled e.0.0) ∷ bytes_of (number_line keyword.Least f.0.0) ∷ bytes_of (number_line keyword.Most g.0.0) ∷ g.0.1.1) =
    stops_are_read all_stops seeds c.0.1 ∙ ap (λ (ls : List (List ℕ)). map stop_text stops.0 ++ ls) (ld.1 ∙ (λ i. joined i ∷ after_canceled i)) in
    la.1 ∙ (λ i. first i ∷ (lb.1 ∙ (λ j. second j ∷ (lc.1 ∙ (λ k. third k ∷ after_stops k)) j)) i)
    ∙ (λ i. count_texts (same i).0 (same i).1.1)

subject_is_read : (left : Left) (s : Subject × Left) → subject_from left ≡ Ok s
    → left.1 ≡ bytes_of (keyword_text keyword.Script ∷ s.0.digest ∷ []) ∷ bytes_of (codes "limits" ∷ decimal s.0.limits.budget ∷ decimal s.0.limits.passes ∷ decimal s.0.limits.slots ∷ []) ∷ s.1.1
unfolding subject_from
subject_is_read left s is =
    let a = bound_read (next_by digest_of left) _ s is in
    let b = bound_read (next_by limits_of a.0.1) _ s a.2 in
    let made : Subject = record { digest = a.0.0; limits = b.0.0 } in
    let whole : Subject × Left = (made, b.0.1) in
    let same : whole ≡ s = same_read whole s b.2 in
    let la = line_read digest_of left a.0 a.1 in
    let lb = line_read limits_of a.0.1 b.0 b.1 in
    let first = digest_spelled la.0 a.0.0 la.2 in
    let second = limits_spelled lb.0 b.0.0 lb.2 in
    la.1 ∙ (λ i. first i ∷ (lb.1 ∙ (λ j. second j ∷ b.0.1.1)) i)
    ∙ (λ i. bytes_of (keyword_text keyword.Script ∷ (same i).0.digest ∷ []) ∷ bytes_of (codes "limits" ∷ decimal (same i).0.limits.budget ∷ decimal (same i).0.limits.passes ∷ decimal (same i).0.limits.slots ∷ []) ∷ (same i).1.1)

range_is_read : (left : Left) (r : RangeTally × Left) → range_from left ≡ Ok r → left.1 ≡ map bytes_of (range_lines r.0) ++ r.1.1
unfolding range_from
range_is_read left r is =
    let a = bound_read (next_by seeds_of left) _ r is in
    let b = bound_read (subject_from a.0.1) _ r a.2 in
    let c = bound_read (counts_from a.0.0 b.0.1) _ r b.2 in
    let made : RangeTally = record { seeds = a.0.0; subject = b.0.0; tally = c.0.0 } in
    let whole : RangeTally × Left = (made, c.0.1) in
    let same : whole ≡ r = same_read whole r c.2 in
    let la = line_read seeds_of left a.0 a.1 in
    let first = seeds_spelled la.0 a.0.0 la.2 in
    la.1 ∙ (λ i. first i ∷ (subject_is_read a.0.1 b.0 b.1 ∙ (λ j. bytes_of (keyword_text keyword.Script ∷ b.0.0.digest ∷ []) ∷ bytes_of (codes "limits" ∷ decimal b.0.0.limits.budget ∷ decimal b.0.0.limits.passes ∷ decimal b.0.0.limits.slots ∷ []) ∷ counts_are_read a.0.0 b.0.1 c.0 c.1 j)) i)
    ∙ (λ i. range_texts (same i).0 (same i).1.1)
    ∙ sym (range_text r.0 r.1.1)

-- ---- many

abbrev tallies_or : List PlacedTally → Result (List PlacedTally) Fault → List PlacedTally
tallies_or other (Ok tallies) = tallies
tallies_or other (Err fault) = other

no_tallies : (fault : Fault) (tallies : List PlacedTally) → ◌≡◌ {A = Result (List PlacedTally) Fault} (Err fault) (Ok tallies) → ⊥
no_tallies fault tallies is = cc

-- the tallies that were read after one
after_one : (placed : PlacedTally) (r : Result (List PlacedTally) Fault) (tallies : List PlacedTally) → prepend placed r ≡ Ok tallies → (rest : List PlacedTally) × (r ≡ Ok rest) × (placed ∷ rest ≡ tallies)
after_one placed (Ok rest) tallies is = (rest, refl, ap (tallies_or (placed ∷ rest)) is)
after_one placed (Err fault) tallies is = absurd (no_tallies fault tallies is)

first_line_of : (r : RangeTally) → 0 < length (range_lines r)
unfolding range_lines
first_line_of r = omega arith

no_lines : (lines : List (List ℕ)) → length lines ≤ 0 → lines ≡ []
no_lines [] none = refl
no_lines (line ∷ lines) none = absurd (omega (arith, none))

none_spelled : (lines : List (List ℕ)) (tallies : List PlacedTally) → lines ≡ [] → ◌≡◌ {A = Result (List PlacedTally) Fault} (Ok []) (Ok tallies) → lines ≡ map bytes_of (flat_map range_lines (ranges_of tallies))
none_spelled lines tallies none is = none ∙ ap (λ (ts : List PlacedTally). map bytes_of (flat_map range_lines (ranges_of ts))) (ap (tallies_or []) is)

one_spelled : (n : ℕ) (lines : List (List ℕ)) (others : Left → Result (List PlacedTally) Fault) (read : Read RangeTally) (tallies : List PlacedTally) → range_from (n, lines) ≡ read → with_others n others read ≡ Ok tallies
    → ((left : Left) (rest : List PlacedTally) → others left ≡ Ok rest → length left.1 < length lines → left.1 ≡ map bytes_of (flat_map range_lines (ranges_of rest)))
    → lines ≡ map bytes_of (flat_map range_lines (ranges_of tallies))
one_spelled n lines others (Err fault) tallies range is more = absurd (no_tallies fault tallies is)
one_spelled n lines others (Ok r) tallies range is more =
    let placed : PlacedTally = record { line = n; range = r.0 } in
    let o = after_one placed (others r.1) tallies is in
    let read : lines ≡ map bytes_of (range_lines r.0) ++ r.1.1 = range_is_read (n, lines) r range in
    let some = first_line_of r.0 in
    let fewer : length r.1.1 < length lines = omega (arith, some, ap length read, length-append (map bytes_of (range_lines r.0)) r.1.1, length-map (range_lines r.0) bytes_of) in
    read
    ∙ ap (λ (ls : List (List ℕ)). map bytes_of (range_lines r.0) ++ ls) (more r.1 o.0 o.1 fewer)
    ∙ sym (map-append bytes_of (range_lines r.0) (flat_map range_lines (ranges_of o.0)))
    ∙ ap (λ (ts : List PlacedTally). map bytes_of (flat_map range_lines (ranges_of ts))) o.2

tallies_are_read : (most n : ℕ) (lines : List (List ℕ)) (tallies : List PlacedTally) → tallies_from most (n, lines) ≡ Ok tallies → length lines ≤ most → lines ≡ map bytes_of (flat_map range_lines (ranges_of tallies))
unfolding tallies_from
tallies_are_read zero n lines tallies is enough = none_spelled lines tallies (no_lines lines enough) is
tallies_are_read (suc most) n [] tallies is enough = none_spelled [] tallies refl is
tallies_are_read (suc most) n (line ∷ lines) tallies is enough =
    one_spelled n (line ∷ lines) (tallies_from most) (range_from (n, line ∷ lines)) tallies refl is
    (λ left rest given fewer. tallies_are_read most left.0 left.1 rest given (omega (arith, enough, fewer)))

-- ---- a text

lines_bound : (most : ℕ) (text : List ℕ) → length text ≤ most → length (lines_of text) ≤ length text
lines_bound most [] fits = rw lines_of-nil (omega arith)
lines_bound zero (b ∷ bytes) fits = absurd (omega (arith, fits))
lines_bound (suc most) (b ∷ bytes) fits = by_split most b bytes (split_once 10 (b ∷ bytes)) refl fits (lines_bound most)
  where
    by_split : (most b : ℕ) (bytes : List ℕ) (o : Option (List ℕ × List ℕ)) → split_once 10 (b ∷ bytes) ≡ o → length (b ∷ bytes) ≤ suc most → ((text : List ℕ) → length text ≤ most → length (lines_of text) ≤ length text)
        → length (lines_of (b ∷ bytes)) ≤ length (b ∷ bytes)
    by_split most b bytes None is fits more = rw (lines_of-last b bytes is) (omega arith)
    by_split most b bytes (Some parts) is fits more =
        let whole = ap length (split_joins 10 (b ∷ bytes) parts is) in
        let split = length-append parts.0 (10 ∷ parts.1) in
        let rest = more parts.1 (omega (arith, fits, whole, split)) in
        let lines = ap length (lines_of-split_once (b ∷ bytes) parts is) in
        omega (arith, lines, rest, whole, split)

some_tallies : (r : Result (List PlacedTally) Fault) (tallies : List PlacedTally) → if_some r ≡ Ok tallies → r ≡ Ok tallies
some_tallies (Ok []) tallies is = absurd (no_tallies (1, why.NoTally) tallies is)
some_tallies (Ok (placed ∷ rest)) tallies is = is
some_tallies (Err fault) tallies is = absurd (no_tallies fault tallies is)

pub read_is_spelled : ReadIsSpelled
unfolding tallies_in
read_is_spelled text tallies is =
    let bound = lines_bound (length text) text (le_refl _) in
    tallies_are_read (length text) 1 (lines_in text) tallies (some_tallies (tallies_from (length text) (1, lines_in text)) tallies is) (omega (arith, bound, length-map (lines_of text) strip_cr))
