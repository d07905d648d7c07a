-- The value of a word of a kind.
use Rattle.pct_names.proofs.Names.{ap, Bool, bytes_eq, cond, false, find, is_some, keyword_text, List, None, option_map, Option, refl, same_Some, slice_get, Some, subst, sym, true, ℕ, ◌||◌, ◌∙◌, ◌≡◌}
use Rattle.pct_names.proofs.Names.{caller_name, index_among, is_name, number_of, option_and_then, point_of, position, points}
use Rattle.std.proofs.Common.{true≢false}
use Rattle.pct_model.proofs.Bytes.{bytes_eq-refl, same_bytes}
use Rattle.pct_model.specs.declared.keyword.Keyword.{Keyword}
use Rattle.pct_model.specs.declared.line_kind.SymbolKind.{SymbolKind}
use Rattle.pct_model.specs.declared.point.Point.{Point}
use Rattle.pct_model.specs.EventTexts.{EventNames}
use Rattle.pct_model.specs.Points.{Row, point_at}
use Rattle.pct_name_numbers.specs.EventReading.{flag, numbered, plain, point_index}
use Rattle.pct_name_numbers.specs.Numbering.{names_with}
use Rattle.pct_report_reader.proofs.FirstFound.{found_if_any}
use Rattle.pct_report_reader.specs.declared.text.WordKind.{WordKind}
use Rattle.pct_report_reader.specs.declared.text.WordKind.TheVariants as kind
use Rattle.pct_report_reader.specs.Texts.{callers, has_name, is_caller, is_positive, is_stop, is_word, stops}
use Rattle.pct_event_reader.specs.declared.numbers.EventNumbers.{EventNumbers}
use Rattle.pct_event_reader.specs.declared.value.Value.TheVariants as value
use Rattle.pct_event_reader.specs.Numberings.{IsNumberings, Numbers}
use Rattle.pct_event_reader.specs.Values.{field_of, read_map, value_of}
use Rattle.pct_event_reader.proofs.ValueRows.{KindField}

-- ---- what a word of a kind is

module _ (k : WordKind) (w : List ℕ) (passes : is_word k w ≡ true) where
  as_kind : (j : WordKind) → k ≡ j → is_word j w ≡ true
  as_kind j is = subst (λ (i : WordKind). is_word i w ≡ true) is passes

  pub is_number : k ≡ kind.Number → is_some (number_of w) ≡ true
  unfolding is_word
  is_number is = as_kind kind.Number is

  pub is_not_zero : k ≡ kind.Positive → is_positive (number_of w) ≡ true
  unfolding is_word
  is_not_zero is = as_kind kind.Positive is

  pub is_a_name : (j : SymbolKind) → k ≡ kind.Name j → is_name w ≡ true
  unfolding is_word
  is_a_name j is = as_kind (kind.Name j) is

  pub is_point : k ≡ kind.Point → is_some (point_of w) ≡ true
  unfolding is_word
  is_point is = as_kind kind.Point is

  pub is_call : k ≡ kind.Call → is_some (find (λ call. bytes_eq (caller_name call) w) callers) ≡ true
  unfolding is_word is_caller
  is_call is = found_if_any (λ call. bytes_eq (caller_name call) w) callers ∙ as_kind kind.Call is

  pub is_a_stop : (class : Keyword) → k ≡ kind.Stop class → is_some (find (has_name class w) stops) ≡ true
  unfolding is_word is_stop
  is_a_stop class is = found_if_any (has_name class w) stops ∙ as_kind (kind.Stop class) is

  pub is_fixed : (one : Keyword) → k ≡ kind.Word one → bytes_eq (keyword_text one) w ≡ true
  unfolding is_word
  is_fixed one is = as_kind (kind.Word one) is

  pub is_either : (one other : Keyword) → k ≡ kind.Either one other → (bytes_eq (keyword_text one) w || bytes_eq (keyword_text other) w) ≡ true
  unfolding is_word
  is_either one other is = as_kind (kind.Either one other) is

-- ---- values

pub plain_read : {A : Type 0} (read : List ℕ → Option A) (w : List ℕ) (a : A) → read w ≡ Some a → (names : EventNames) → plain read names w ≡ Some (names, a)
plain_read read w a found names = ap (option_map (λ x. (names, x))) found

pub word_value : {A : Type 0} (f : KindField A) (k : WordKind) (w : List ℕ) (a : A) (table : EventNumbers) → k ≡ f.kind → ((names : EventNames) → f.field names w ≡ Some (names, a))
    → (names : EventNames) → IsNumberings table names → Numbers (value_of k names w) table (f.value a)
word_value f k w a table is read names numbering =
    (names, ap (λ (j : WordKind). value_of j names w) is ∙ f.same names w ∙ ap (read_map f.value) (read names), numbering)

pub name_value : (k : WordKind) (j : SymbolKind) (w : List ℕ) (number : ℕ) (before after : EventNumbers) → k ≡ kind.Name j
    → ((names : EventNames) → IsNumberings before names → Numbers (field_of j names w) after number)
    → (names : EventNames) → IsNumberings before names → Numbers (value_of k names w) after (value.Number number)
unfolding value_of
name_value k j w number before after is read names numbering =
    let named = read names numbering in
    (named.0, ap (λ (i : WordKind). value_of i names w) is ∙ ap (read_map (λ v. value.Number v)) named.1, named.2)

pub fixed_value : (k : WordKind) (one : Keyword) (w : List ℕ) (table : EventNumbers) → k ≡ kind.Word one → bytes_eq (keyword_text one) w ≡ true
    → (names : EventNames) → IsNumberings table names → Numbers (value_of k names w) table value.Word
unfolding value_of
fixed_value k one w table is same names numbering =
    (names, ap (λ (i : WordKind). value_of i names w) is ∙ ap (λ (t : Bool). cond t (Some (names, value.Word)) None) same, numbering)

-- ---- the second of two words

module _ (one other : Keyword) (w : List ℕ) where
  same_either_way : (text : List ℕ) (t : Bool) → bytes_eq text w ≡ t → bytes_eq w text ≡ t
  same_either_way text true is = ap (λ (v : List ℕ). bytes_eq v text) (sym (same_bytes text w is)) ∙ bytes_eq-refl text
  same_either_way text false is = by_test (bytes_eq w text) refl
    where
      by_test : (t : Bool) → bytes_eq w text ≡ t → bytes_eq w text ≡ false
      by_test true same = absurd (true≢false (sym (bytes_eq-refl w) ∙ ap (λ (v : List ℕ). bytes_eq v w) (same_bytes w text same) ∙ is))
      by_test false same = same

  pub flag_read : (t : Bool) → bytes_eq (keyword_text one) w ≡ t → (bytes_eq (keyword_text one) w || bytes_eq (keyword_text other) w) ≡ true → flag one other w ≡ Some t
  flag_read true is either = ap (λ (s : Bool). cond s (Some true) (cond (bytes_eq w (keyword_text other)) (Some false) None)) (same_either_way (keyword_text one) true is)
  flag_read false is either =
      ap (λ (s : Bool). cond s (Some true) (cond (bytes_eq w (keyword_text other)) (Some false) None)) (same_either_way (keyword_text one) false is)
      ∙ ap (λ (s : Bool). cond s (Some false) None)
      (same_either_way (keyword_text other) true (sym (ap (λ (s : Bool). s || bytes_eq (keyword_text other) w) is) ∙ either))

-- ---- the index of a point

pub index_read : (w : List ℕ) (p : Point) → point_of w ≡ Some p → point_index w ≡ Some p.index
unfolding point_of point_index
index_read w p is = by_index (position (λ r. bytes_eq r.name w) points) is
  where
    by_row : (i : ℕ) (row : Option Row) → option_map (λ r. record { index = i; kind = r.kind; wait = r.wait }) row ≡ Some p → Some i ≡ Some p.index
    by_row i None there = absurd cc
    by_row i (Some row) there = ap (λ (q : Point). Some q.index) (same_Some _ p there)

    by_index : (o : Option ℕ) → option_and_then point_at o ≡ Some p → o ≡ Some p.index
    by_index None there = absurd cc
    by_index (Some i) there = by_row i (slice_get points i) there

-- ---- the number of a name

pub name_read : (w : List ℕ) (number : ℕ) (names : List (List ℕ)) → is_name w ≡ true → Some number ≡ index_among (names_with w names) w → numbered names w ≡ Some (names_with w names, number)
name_read w number names is found =
    ap (λ (t : Bool). cond t (option_map (λ k. (names_with w names, k)) (index_among (names_with w names) w)) None) is
    ∙ ap (option_map (λ k. (names_with w names, k))) (sym found)
