-- The lines of a tally that are written are read.
use Rattle.std.proofs.Common.{◌≡◌, ℕ, ◌<◌, ◌≤◌, ◌^◌, Bool, true, false, not, ◌&&◌, cond, List, [], ◌∷◌, ◌++◌, Option, Some, None, arith, ap, length, refl, sym, subst, ◌∙◌, bytes_eq, nat_eq, nat_le}
use Rattle.std.proofs.Common.{find, le-leb, ne_eqb, true≢false}
use Rattle.std.proofs.lemmas.Fmt.{decimal_digit}
use Rattle.pct_names.proofs.Names.{none-some, same_Some}
use Rattle.pct_tallies.specs.Tallies.{all_stops}
use Rattle.std.specs.Prelude.{codes, decimal}
use Rattle.std.specs.List.{join_with_byte}
use Rattle.pct_names.proofs.Names.{is_digit}
use Rattle.pct_model.specs.declared.keyword.Keyword.{Keyword}
use Rattle.pct_model.specs.declared.keyword.Keyword.TheVariants as keyword
use Rattle.pct_model.specs.declared.stop.Why.{Why}
use Rattle.pct_model.specs.declared.stop.Why.TheVariants as why
use Rattle.pct_model.specs.Keywords.{keyword_text}
use Rattle.pct_model.specs.Lines.{◌>>=◌, number_of, split_once}
use Rattle.pct_model.specs.StopTexts.{class_of_stop, name_of_stop, stop_words}
use Rattle.pct_model.proofs.Bytes.{same_bytes, bytes_eq-refl}
use Rattle.pct_text.proofs.Numbers.{decimal_lacks, number_again}
use Rattle.pct_text.proofs.SplitOnce.{split_again}
use Rattle.pct_tallies.specs.declared.count.Count.{Count}
use Rattle.pct_tallies.specs.declared.count.StopCount.{StopCount}
use Rattle.pct_tallies.specs.declared.range_tally.Limits.{Limits}
use Rattle.pct_tallies.specs.declared.seeds.Seeds.{Seeds}
use Rattle.pct_tallies.specs.Readings.{after_word, count_for, count_of, digest_of, first_in, if_counted, if_range, is_digest, limits_of, number_for, seeds_of, small_number_for, stop_count_for, written_count}
use Rattle.pct_tallies.specs.Seeds.{IsRange, is_in, is_range}
use Rattle.pct_tallies.specs.Sums.{no_runs}
use Rattle.pct_tallies.specs.TallyTexts.{count_words, number_line, stop_line, verdict_count_line}
use Rattle.pct_tallies.specs.TextLaws.{AreLimits, IsCount, IsSome, NoRuns, SomeRuns}
use Rattle.pct_tallies.proofs.CountTexts.{count_again}

-- ---- words

-- a word has no space
abbrev pub Lacks : List ℕ → Type 0
Lacks word = split_once 32 word ≡ None

after_again : (word rest : List ℕ) → Lacks word → after_word word (word ++ 32 ∷ rest) ≡ Some rest
unfolding after_word
after_again word rest lacks = rw (split_again 32 word rest lacks, bytes_eq-refl word) refl

tally_lacks : Lacks (codes "tally")
unfolding split_once
tally_lacks = refl

limits_lacks : Lacks (codes "limits")
unfolding split_once
limits_lacks = refl

script_lacks : Lacks (keyword_text keyword.Script)
unfolding keyword_text split_once
script_lacks = refl

first_lacks : Lacks (keyword_text keyword.First)
unfolding keyword_text split_once
first_lacks = refl

-- ---- numbers

pub number_line_again : (k : Keyword) (n : ℕ) → Lacks (keyword_text k) → n < 2 ^ 64 → number_for k (join_with_byte 32 (number_line k n)) ≡ Some n
unfolding number_for
number_line_again k n lacks h = ap (λ o. o >>= count_of) (after_again (keyword_text k) (decimal n) lacks) ∙ count_again n h

pub small_number_line_again : (k : Keyword) (n : ℕ) → Lacks (keyword_text k) → n < 2 ^ 32 → small_number_for k (join_with_byte 32 (number_line k n)) ≡ Some n
unfolding small_number_for
small_number_line_again k n lacks h = ap (λ o. o >>= number_of) (after_again (keyword_text k) (decimal n) lacks) ∙ number_again n (omega (arith, h))

-- ---- what is run

both : (a b : Bool) → a ≡ true → b ≡ true → (a && b) ≡ true
both a b h i = rw (h, i) refl

pub seeds_again : (s : Seeds) → IsRange s → seeds_of (join_with_byte 32 (codes "tally" ∷ decimal s.first ∷ decimal s.last ∷ [])) ≡ Some s
unfolding seeds_of
seeds_again s is =
    let first : s.first < 2 ^ 64 = omega (arith, is.some, is.fits) in
    let range : is_range s ≡ true = both (nat_le 1 s.first) (nat_le s.first s.last) (le-leb 1 s.first is.from_one) (le-leb s.first s.last is.some) in
    rw (
      after_again (codes "tally") (decimal s.first ++ (32 ∷ decimal s.last)) tally_lacks,
      split_again 32 (decimal s.first) (decimal s.last) (decimal_lacks 32 s.first refl),
      count_again s.first first,
      count_again s.last is.fits,
      range,
    ) refl

pub digest_again : (digits : List ℕ) → is_digest digits ≡ true → digest_of (join_with_byte 32 (keyword_text keyword.Script ∷ digits ∷ [])) ≡ Some digits
unfolding digest_of
digest_again digits is = rw (after_again (keyword_text keyword.Script) digits script_lacks, is) refl

pub limits_again : (l : Limits) → AreLimits l → limits_of (join_with_byte 32 (codes "limits" ∷ decimal l.budget ∷ decimal l.passes ∷ decimal l.slots ∷ [])) ≡ Some l
unfolding limits_of
limits_again l are =
    rw (
      after_again (codes "limits") (decimal l.budget ++ (32 ∷ (decimal l.passes ++ (32 ∷ decimal l.slots)))) limits_lacks,
      split_again 32 (decimal l.budget) (decimal l.passes ++ (32 ∷ decimal l.slots)) (decimal_lacks 32 l.budget refl),
      split_again 32 (decimal l.passes) (decimal l.slots) (decimal_lacks 32 l.passes refl),
      number_again l.budget (omega (arith, are.budget)),
      number_again l.passes (omega (arith, are.passes)),
      number_again l.slots (omega (arith, are.slots)),
    ) refl

-- ---- counts

-- the words `N first S` as a text
abbrev pub some_text : Count → List ℕ
some_text count = decimal count.runs ++ (32 ∷ (keyword_text keyword.First ++ (32 ∷ decimal count.first)))

first_again : (seeds : Seeds) (count : Count) → IsSome seeds count → first_in seeds (some_text count) ≡ Some count
unfolding first_in
first_again seeds count is =
    let some : nat_eq count.runs 0 ≡ false = ne_eqb count.runs 0 (λ none. absurd (omega (arith, none, is.some))) in
    rw (
      split_again 32 (decimal count.runs) (keyword_text keyword.First ++ (32 ∷ decimal count.first)) (decimal_lacks 32 count.runs refl),
      count_again count.runs is.runs_fit,
      after_again (keyword_text keyword.First) (decimal count.first) first_lacks,
      count_again count.first is.first_fits,
      some,
      is.of_range,
    ) refl

zero_lacks : split_once 32 (codes "0") ≡ None
unfolding split_once
zero_lacks = refl

-- a text with a space is not `0`
not_zero : (n : ℕ) (rest : List ℕ) → bytes_eq (decimal n ++ (32 ∷ rest)) (codes "0") ≡ false
not_zero n rest = by_test (bytes_eq (decimal n ++ (32 ∷ rest)) (codes "0")) refl
  where
    by_test : (t : Bool) → bytes_eq (decimal n ++ (32 ∷ rest)) (codes "0") ≡ t → t ≡ false
    by_test false is = refl
    by_test true is =
        let same : decimal n ++ (32 ∷ rest) ≡ codes "0" = same_bytes (decimal n ++ (32 ∷ rest)) (codes "0") is in
        let parts : List ℕ × List ℕ = (decimal n, rest) in
        absurd (none-some parts (sym zero_lacks ∙ sym (ap (split_once 32) same) ∙ split_again 32 (decimal n) rest (decimal_lacks 32 n refl)))

pub some_again : (k : Keyword) (seeds : Seeds) (count : Count) → Lacks (keyword_text k) → IsSome seeds count → count_for k seeds (join_with_byte 32 (verdict_count_line k count)) ≡ Some count
unfolding count_for written_count count_words
some_again k seeds count lacks is =
    let some : nat_eq count.runs 0 ≡ false = ne_eqb count.runs 0 (λ none. absurd (omega (arith, none, is.some))) in
    rw (some, after_again (keyword_text k) (some_text count) lacks, not_zero count.runs (keyword_text keyword.First ++ (32 ∷ decimal count.first))) (first_again seeds count is)

pub none_again : (k : Keyword) (seeds : Seeds) → Lacks (keyword_text k) → count_for k seeds (join_with_byte 32 (verdict_count_line k no_runs)) ≡ Some no_runs
unfolding count_for written_count count_words
none_again k seeds lacks =
    let zero : bytes_eq (decimal 0) (codes "0") ≡ true = rw (decimal_digit 0 (omega arith)) refl in
    rw (after_again (keyword_text k) (decimal 0) lacks, zero) refl

pub count_line_again : (k : Keyword) (seeds : Seeds) (count : Count) → Lacks (keyword_text k) → IsCount seeds count → count_for k seeds (join_with_byte 32 (verdict_count_line k count)) ≡ Some count
count_line_again k seeds count lacks (NoRuns is) = subst (λ (c : Count). count_for k seeds (join_with_byte 32 (verdict_count_line k c)) ≡ Some c) (sym is) (none_again k seeds lacks)
count_line_again k seeds count lacks (SomeRuns is) = some_again k seeds count lacks is

-- ---- stops

abbrev pub class_text : Why → List ℕ
class_text w = keyword_text (class_of_stop w)

abbrev pub name_text : Why → List ℕ
name_text w = keyword_text (name_of_stop w)

class_lacks : (w : Why) → Lacks (class_text w)
unfolding keyword_text split_once
class_lacks why.ForkChildCall = refl
class_lacks why.AsyncCall = refl
class_lacks why.EnableInHandler = refl
class_lacks why.ExitInEnding = refl
class_lacks why.ThreadId = refl
class_lacks why.JoinSelf = refl
class_lacks why.NotJoinable = refl
class_lacks why.JoinTwice = refl
class_lacks why.DetachJoined = refl
class_lacks why.KeyId = refl
class_lacks why.NotOwner = refl
class_lacks why.CondTwoMutexes = refl
class_lacks why.ExitTwice = refl
class_lacks why.ForkInEnding = refl
class_lacks why.StackFull = refl
class_lacks why.CleanupFull = refl

name_lacks : (w : Why) → Lacks (name_text w)
unfolding keyword_text split_once
name_lacks why.ForkChildCall = refl
name_lacks why.AsyncCall = refl
name_lacks why.EnableInHandler = refl
name_lacks why.ExitInEnding = refl
name_lacks why.ThreadId = refl
name_lacks why.JoinSelf = refl
name_lacks why.NotJoinable = refl
name_lacks why.JoinTwice = refl
name_lacks why.DetachJoined = refl
name_lacks why.KeyId = refl
name_lacks why.NotOwner = refl
name_lacks why.CondTwoMutexes = refl
name_lacks why.ExitTwice = refl
name_lacks why.ForkInEnding = refl
name_lacks why.StackFull = refl
name_lacks why.CleanupFull = refl

-- the stop with this name
abbrev stop_named : List ℕ → Option Why
stop_named text = find (λ w. bytes_eq (name_text w) text) all_stops

named : (w : Why) → stop_named (name_text w) ≡ Some w
unfolding keyword_text all_stops
named why.ForkChildCall = refl
named why.AsyncCall = refl
named why.EnableInHandler = refl
named why.ExitInEnding = refl
named why.ThreadId = refl
named why.JoinSelf = refl
named why.NotJoinable = refl
named why.JoinTwice = refl
named why.DetachJoined = refl
named why.KeyId = refl
named why.NotOwner = refl
named why.CondTwoMutexes = refl
named why.ExitTwice = refl
named why.ForkInEnding = refl
named why.StackFull = refl
named why.CleanupFull = refl

names_differ : (a b : Why) → name_text a ≡ name_text b → a ≡ b
names_differ a b same = same_Some a b (sym (named a) ∙ ap stop_named same ∙ named b)

-- the line of a stop is read as its own
pub stop_line_again : (w : Why) (seeds : Seeds) (count : Count) → IsSome seeds count → stop_count_for w seeds (join_with_byte 32 (stop_line (record { why = w; count = count }))) ≡ Some count
unfolding stop_count_for count_words stop_words
stop_line_again w seeds count is =
    let some : nat_eq count.runs 0 ≡ false = ne_eqb count.runs 0 (λ none. absurd (omega (arith, none, is.some))) in
    rw (some, after_again (class_text w) (name_text w ++ (32 ∷ some_text count)) (class_lacks w), after_again (name_text w) (some_text count) (name_lacks w)) (first_again seeds count is)

-- and not as that of another
other_word : (word other rest : List ℕ) → Lacks other → ¬ (other ≡ word) → after_word word (other ++ 32 ∷ rest) ≡ None
unfolding after_word
other_word word other rest lacks differ = rw (split_again 32 other rest lacks) (by_test (bytes_eq other word) refl)
  where
    by_test : (t : Bool) → bytes_eq other word ≡ t → cond t (Some rest) None ≡ None
    by_test false is = refl
    by_test true is = absurd (differ (same_bytes other word is))

by_class : (w : Why) (seeds : Seeds) (v : Why) (rest : List ℕ) (t : Bool) → bytes_eq (class_text v) (class_text w) ≡ t → ¬ (v ≡ w) → stop_count_for w seeds (class_text v ++ (32 ∷ (name_text v ++ (32 ∷ rest)))) ≡ None
unfolding stop_count_for after_word
by_class w seeds v rest false t_is differ = rw (split_again 32 (class_text v) (name_text v ++ (32 ∷ rest)) (class_lacks v), t_is) refl
by_class w seeds v rest true t_is differ =
    rw (split_again 32 (class_text v) (name_text v ++ (32 ∷ rest)) (class_lacks v), t_is)
    (ap (λ o. o >>= first_in seeds) (other_word (name_text w) (name_text v) rest (name_lacks v) (λ same. differ (names_differ v w same))))

pub other_stop : (w v : Why) (seeds : Seeds) (count : Count) → IsSome seeds count → ¬ (v ≡ w) → stop_count_for w seeds (join_with_byte 32 (stop_line (record { why = v; count = count }))) ≡ None
unfolding count_words stop_words
other_stop w v seeds count is differ =
    let some : nat_eq count.runs 0 ≡ false = ne_eqb count.runs 0 (λ none. absurd (omega (arith, none, is.some))) in
    rw some (by_class w seeds v (some_text count) (bytes_eq (class_text v) (class_text w)) refl differ)

pub joined_lacks : Lacks (keyword_text keyword.Joined)
unfolding keyword_text split_once
joined_lacks = refl

no_class : (w : Why) → bytes_eq (keyword_text keyword.Joined) (class_text w) ≡ false
unfolding keyword_text
no_class why.ForkChildCall = refl
no_class why.AsyncCall = refl
no_class why.EnableInHandler = refl
no_class why.ExitInEnding = refl
no_class why.ThreadId = refl
no_class why.JoinSelf = refl
no_class why.NotJoinable = refl
no_class why.JoinTwice = refl
no_class why.DetachJoined = refl
no_class why.KeyId = refl
no_class why.NotOwner = refl
no_class why.CondTwoMutexes = refl
no_class why.ExitTwice = refl
no_class why.ForkInEnding = refl
no_class why.StackFull = refl
no_class why.CleanupFull = refl

-- the line after the stops is that of none
pub no_stop_line : (w : Why) (seeds : Seeds) (n : ℕ) → stop_count_for w seeds (join_with_byte 32 (number_line keyword.Joined n)) ≡ None
unfolding stop_count_for after_word
no_stop_line w seeds n = rw (split_again 32 (keyword_text keyword.Joined) (decimal n) joined_lacks, no_class w) refl

-- ---- the words that the lines begin with

pub complete_lacks : Lacks (keyword_text keyword.Complete)
unfolding keyword_text split_once
complete_lacks = refl

pub deadlock_lacks : Lacks (keyword_text keyword.Deadlock)
unfolding keyword_text split_once
deadlock_lacks = refl

pub budget_lacks : Lacks (keyword_text keyword.Budget)
unfolding keyword_text split_once
budget_lacks = refl

pub canceled_lacks : Lacks (keyword_text keyword.Canceled)
unfolding keyword_text split_once
canceled_lacks = refl

pub least_lacks : Lacks (keyword_text keyword.Least)
unfolding keyword_text split_once
least_lacks = refl

pub most_lacks : Lacks (keyword_text keyword.Most)
unfolding keyword_text split_once
most_lacks = refl
