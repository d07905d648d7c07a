-- A line that is read as one of a tally is written so.
use Rattle.std.proofs.Common.{◌≡◌, ℕ, ◌<◌, ◌^◌, Bool, true, false, not, ◌&&◌, cond, List, [], ◌∷◌, ◌++◌, Option, Some, None, arith, ap, refl, sym, subst, ◌∙◌, bytes_eq, nat_eq}
use Rattle.std.proofs.Common.{true≢false}
use Rattle.std.specs.Prelude.{codes, decimal}
use Rattle.std.specs.List.{join_with_byte}
use Rattle.std.proofs.lemmas.Fmt.{decimal_digit}
use Rattle.pct_names.proofs.Names.{none-some, same_Some}
use Rattle.pct_model.specs.declared.keyword.Keyword.{Keyword}
use Rattle.pct_model.specs.declared.keyword.Keyword.TheVariants as keyword
use Rattle.pct_model.specs.declared.stop.Why.{Why}
use Rattle.pct_model.specs.Keywords.{keyword_text}
use Rattle.pct_model.specs.Lines.{◌>>=◌, number_of, split_once}
use Rattle.pct_model.specs.StopTexts.{class_of_stop, name_of_stop, stop_words}
use Rattle.pct_model.proofs.Bytes.{same_bytes}
use Rattle.pct_text.proofs.Numbers.{number_takes}
use Rattle.pct_text.proofs.SplitOnce.{split_joins}
use Rattle.pct_tallies.specs.declared.count.Count.{Count}
use Rattle.pct_tallies.specs.declared.count.StopCount.{StopCount}
use Rattle.pct_tallies.specs.declared.range_tally.Limits.{Limits}
use Rattle.pct_tallies.specs.declared.seeds.Seeds.{Seeds}
use Rattle.pct_tallies.specs.Readings.{after_word, count_for, count_of, digest_of, first_in, if_counted, if_range, is_digest, limits_of, number_for, seeds_of, small_number_for, stop_count_for, written_count}
use Rattle.pct_tallies.specs.Seeds.{is_in, is_range}
use Rattle.pct_tallies.specs.Sums.{no_runs}
use Rattle.pct_tallies.specs.TallyTexts.{count_words, number_line, stop_line, verdict_count_line}
use Rattle.pct_tallies.proofs.CountTexts.{count_spelled}
use Rattle.pct_tallies.proofs.LinesAgain.{some_text}

-- what a value was made of
pub bound : {A B : Type 0} (o : Option A) (f : A → Option B) (y : B) → (o >>= f) ≡ Some y → (x : A) × (o ≡ Some x) × (f x ≡ Some y)
bound None f y is = absurd (none-some y is)
bound (Some x) f y is = (x, refl, is)

-- a value that passes a test
pub tested : {A : Type 0} (t : Bool) (x y : A) → cond t (Some x) None ≡ Some y → (t ≡ true) × (x ≡ y)
tested true x y is = (refl, same_Some x y is)
tested false x y is = absurd (none-some y is)

word_spelled : (word line rest : List ℕ) → after_word word line ≡ Some rest → line ≡ word ++ (32 ∷ rest)
unfolding after_word
word_spelled word line rest is =
    let b = bound (split_once 32 line) (λ parts. cond (bytes_eq parts.0 word) (Some parts.1) None) rest is in
    let t = tested (bytes_eq b.0.0 word) b.0.1 rest b.2 in
    split_joins 32 line b.0 b.1 ∙ (λ i. same_bytes b.0.0 word t.0 i ++ (32 ∷ t.1 i))

pub number_spelled : (k : Keyword) (line : List ℕ) (n : ℕ) → number_for k line ≡ Some n → line ≡ join_with_byte 32 (number_line k n)
unfolding number_for
number_spelled k line n is =
    let b = bound (after_word (keyword_text k) line) count_of n is in
    word_spelled (keyword_text k) line b.0 b.1 ∙ ap (λ (w : List ℕ). keyword_text k ++ (32 ∷ w)) (count_spelled b.0 n b.2).0

pub small_number_spelled : (k : Keyword) (line : List ℕ) (n : ℕ) → small_number_for k line ≡ Some n → line ≡ join_with_byte 32 (number_line k n)
unfolding small_number_for
small_number_spelled k line n is =
    let b = bound (after_word (keyword_text k) line) number_of n is in
    word_spelled (keyword_text k) line b.0 b.1 ∙ ap (λ (w : List ℕ). keyword_text k ++ (32 ∷ w)) (number_takes b.0 n b.2)

pub digest_spelled : (line digits : List ℕ) → digest_of line ≡ Some digits → line ≡ join_with_byte 32 (keyword_text keyword.Script ∷ digits ∷ [])
unfolding digest_of
digest_spelled line digits is =
    let b = bound (after_word (keyword_text keyword.Script) line) (λ word. cond (is_digest word) (Some word) None) digits is in
    word_spelled (keyword_text keyword.Script) line b.0 b.1 ∙ ap (λ (w : List ℕ). keyword_text keyword.Script ++ (32 ∷ w)) (tested (is_digest b.0) b.0 digits b.2).1

pub seeds_spelled : (line : List ℕ) (s : Seeds) → seeds_of line ≡ Some s → line ≡ join_with_byte 32 (codes "tally" ∷ decimal s.first ∷ decimal s.last ∷ [])
unfolding seeds_of
seeds_spelled line s is =
    let a = bound (after_word (codes "tally") line) _ s is in
    let b = bound (split_once 32 a.0) _ s a.2 in
    let c = bound (count_of b.0.0) _ s b.2 in
    let d = bound (count_of b.0.1) _ s c.2 in
    let range : Seeds = record { first = c.0; last = d.0 } in
    let same : range ≡ s = (tested (is_range range) range s d.2).1 in
    word_spelled (codes "tally") line a.0 a.1
    ∙ ap (λ (w : List ℕ). codes "tally" ++ (32 ∷ w)) (split_joins 32 a.0 b.0 b.1 ∙ (λ i. (count_spelled b.0.0 c.0 c.1).0 i ++ (32 ∷ (count_spelled b.0.1 d.0 d.1).0 i)))
    ∙ ap (λ (r : Seeds). join_with_byte 32 (codes "tally" ∷ decimal r.first ∷ decimal r.last ∷ [])) same

pub limits_spelled : (line : List ℕ) (l : Limits) → limits_of line ≡ Some l → line ≡ join_with_byte 32 (codes "limits" ∷ decimal l.budget ∷ decimal l.passes ∷ decimal l.slots ∷ [])
unfolding limits_of
limits_spelled line l is =
    let a = bound (after_word (codes "limits") line) _ l is in
    let b = bound (split_once 32 a.0) _ l a.2 in
    let c = bound (split_once 32 b.0.1) _ l b.2 in
    let d = bound (number_of b.0.0) _ l c.2 in
    let e = bound (number_of c.0.0) _ l d.2 in
    let f = bound (number_of c.0.1) _ l e.2 in
    let given : Limits = record { budget = d.0; passes = e.0; slots = f.0 } in
    let same : given ≡ l = same_Some given l f.2 in
    word_spelled (codes "limits") line a.0 a.1
    ∙ ap (λ (w : List ℕ). codes "limits" ++ (32 ∷ w))
    (split_joins 32 a.0 b.0 b.1 ∙ ap (λ (w : List ℕ). b.0.0 ++ (32 ∷ w)) (split_joins 32 b.0.1 c.0 c.1)
    ∙ (λ i. number_takes b.0.0 d.0 d.1 i ++ (32 ∷ (number_takes c.0.0 e.0 e.1 i ++ (32 ∷ number_takes c.0.1 f.0 f.1 i)))))
    ∙ ap (λ (r : Limits). join_with_byte 32 (codes "limits" ∷ decimal r.budget ∷ decimal r.passes ∷ decimal r.slots ∷ [])) same

-- ---- counts

and_first : (a b : Bool) → (a && b) ≡ true → a ≡ true
and_first true b is = refl
and_first false b is = absurd (true≢false (sym is))

not_true : (a : Bool) → not a ≡ true → a ≡ false
not_true true is = absurd (true≢false (sym is))
not_true false is = refl

first_spelled : (seeds : Seeds) (text : List ℕ) (count : Count) → first_in seeds text ≡ Some count → (text ≡ some_text count) × (nat_eq count.runs 0 ≡ false)
unfolding first_in
first_spelled seeds text count is =
    let a = bound (split_once 32 text) _ count is in
    let b = bound (count_of a.0.0) _ count a.2 in
    let c = bound (after_word (keyword_text keyword.First) a.0.1) _ count b.2 in
    let d = bound (count_of c.0) _ count c.2 in
    let given : Count = record { runs = b.0; first = d.0 } in
    let t = tested (not (nat_eq given.runs 0) && is_in seeds given.first) given count d.2 in (
      (split_joins 32 text a.0 a.1
          ∙ (λ i. (count_spelled a.0.0 b.0 b.1).0 i ++ (32 ∷ word_spelled (keyword_text keyword.First) a.0.1 c.0 c.1 i))
          ∙ ap (λ (w : List ℕ). decimal b.0 ++ (32 ∷ (keyword_text keyword.First ++ (32 ∷ w)))) (count_spelled c.0 d.0 d.1).0
          ∙ ap some_text t.1),
      (subst (λ (x : Count). nat_eq x.runs 0 ≡ false) t.1 (not_true (nat_eq given.runs 0) (and_first (not (nat_eq given.runs 0)) (is_in seeds given.first) t.0))),
    )

-- the words of a count as a text
count_text : Count → List ℕ
count_text count = join_with_byte 32 (count_words count)

some_count_text : (count : Count) → nat_eq count.runs 0 ≡ false → some_text count ≡ join_with_byte 32 (count_words count)
unfolding count_words
some_count_text count some = rw some refl

zero_count_text : codes "0" ≡ join_with_byte 32 (count_words no_runs)
unfolding count_words
zero_count_text = sym (decimal_digit 0 (omega arith))

written_spelled : (seeds : Seeds) (text : List ℕ) (count : Count) → written_count seeds text ≡ Some count → text ≡ join_with_byte 32 (count_words count)
unfolding written_count
written_spelled seeds text count is = by_test (bytes_eq text (codes "0")) refl is
  where
    by_test : (t : Bool) → bytes_eq text (codes "0") ≡ t → cond t (Some no_runs) (first_in seeds text) ≡ Some count → text ≡ join_with_byte 32 (count_words count)
    by_test true t_is same = same_bytes text (codes "0") t_is ∙ zero_count_text ∙ ap (λ (c : Count). join_with_byte 32 (count_words c)) (same_Some no_runs count same)
    by_test false t_is same = let f = first_spelled seeds text count same in f.0 ∙ some_count_text count f.1

counted_line : (k : Keyword) (count : Count) → keyword_text k ++ (32 ∷ join_with_byte 32 (count_words count)) ≡ join_with_byte 32 (verdict_count_line k count)
unfolding count_words
counted_line k count = by_runs (nat_eq count.runs 0)
  where
    by_runs : (t : Bool) → keyword_text k ++ (32 ∷ join_with_byte 32 (cond t (decimal count.runs ∷ []) (decimal count.runs ∷ keyword_text keyword.First ∷ decimal count.first ∷ [])))
        ≡ join_with_byte 32 (keyword_text k ∷ cond t (decimal count.runs ∷ []) (decimal count.runs ∷ keyword_text keyword.First ∷ decimal count.first ∷ []))
    by_runs true = refl
    by_runs false = refl

pub count_line_spelled : (k : Keyword) (seeds : Seeds) (line : List ℕ) (count : Count) → count_for k seeds line ≡ Some count → line ≡ join_with_byte 32 (verdict_count_line k count)
unfolding count_for
count_line_spelled k seeds line count is =
    let b = bound (after_word (keyword_text k) line) (written_count seeds) count is in
    word_spelled (keyword_text k) line b.0 b.1 ∙ ap (λ (w : List ℕ). keyword_text k ++ (32 ∷ w)) (written_spelled seeds b.0 count b.2) ∙ counted_line k count

stopped_line : (w : Why) (count : Count) → nat_eq count.runs 0 ≡ false
    → keyword_text (class_of_stop w) ++ (32 ∷ (keyword_text (name_of_stop w) ++ (32 ∷ some_text count))) ≡ join_with_byte 32 (stop_line (record { why = w; count = count }))
unfolding count_words stop_words
stopped_line w count some = rw some refl

pub stop_spelled : (w : Why) (seeds : Seeds) (line : List ℕ) (count : Count) → stop_count_for w seeds line ≡ Some count → line ≡ join_with_byte 32 (stop_line (record { why = w; count = count }))
unfolding stop_count_for
stop_spelled w seeds line count is =
    let a = bound (after_word (keyword_text (class_of_stop w)) line) _ count is in
    let b = bound (after_word (keyword_text (name_of_stop w)) a.0) (first_in seeds) count a.2 in
    let f = first_spelled seeds b.0 count b.2 in
    word_spelled (keyword_text (class_of_stop w)) line a.0 a.1
    ∙ ap (λ (x : List ℕ). keyword_text (class_of_stop w) ++ (32 ∷ x)) (word_spelled (keyword_text (name_of_stop w)) a.0 b.0 b.1 ∙ ap (λ (x : List ℕ). keyword_text (name_of_stop w) ++ (32 ∷ x)) f.0)
    ∙ stopped_line w count f.1
