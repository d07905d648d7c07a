-- A word has a kind exactly if it is read as a field of that kind; so do as many words as kinds.
use Rattle.std.proofs.Common.{lt-ltb, ne_eqb}
use Rattle.pct_names.proofs.Names.{arith, ◌≡◌, ℕ, zero, suc, Bool, true, false, cond, ◌&&◌, ◌||◌, ◌>>=◌, List, [], ◌∷◌, Option, Some, None}
use Rattle.pct_names.proofs.Names.{Keyword, Point, Row, SymbolKind, What, Optional, NoWait}
use Rattle.pct_names.proofs.Names.{ap, ap₂, bytes_eq, caller_name, find, index_among, is_name, is_some, keyword_text, list_any, nat_eq, number_of, option_and_then, option_map, point_at, point_of, points}
use Rattle.pct_names.proofs.Names.{position, position-Some, refl, slice_get-get_or, sym, ◌∙◌}
use Rattle.pct_model.specs.EventTexts.{EventNames}
use Rattle.pct_model.proofs.Bytes.{same_bytes, bytes_eq-refl}
use Rattle.pct_name_numbers.specs.EventReading.{Field, caller_of, callers, flag, four, not_zero, numbered, one, plain, point_index, stop_of, stops, three, two}
use Rattle.pct_name_numbers.specs.Numbering.{names_with}
use Rattle.pct_name_numbers.proofs.IndexLemmas.{index_with}
use Rattle.pct_report_reader.specs.declared.text.WordKind.{WordKind}
use Rattle.pct_report_reader.specs.declared.text.WordKind.TheVariants as kind
use Rattle.pct_report_reader.specs.Texts.{are_words, has_name, is_caller, is_positive, is_stop, is_word}

-- ---- tests and options

and_nothing : (a : Bool) → (a && false) ≡ false
and_nothing true = refl
and_nothing false = refl

pub or_nothing : (a : Bool) → (a || false) ≡ a
or_nothing true = refl
or_nothing false = refl

or_swapped : (a b : Bool) → (a || b) ≡ (b || a)
or_swapped true true = refl
or_swapped true false = refl
or_swapped false true = refl
or_swapped false false = refl

same_tests : (a b : Bool) → (a ≡ true → b ≡ true) → (b ≡ true → a ≡ true) → a ≡ b
same_tests true b f g = sym (f refl)
same_tests false true f g = g refl
same_tests false false f g = refl

pub bytes_eq-swapped : (a b : List ℕ) → bytes_eq a b ≡ bytes_eq b a
bytes_eq-swapped a b = same_tests (bytes_eq a b) (bytes_eq b a) (turned a b) (turned b a)
  where
    turned : (x y : List ℕ) → bytes_eq x y ≡ true → bytes_eq y x ≡ true
    turned x y e = ap (bytes_eq y) (same_bytes x y e) ∙ bytes_eq-refl y

pub is_some-map : {A B : Type 0} (f : A → B) (o : Option A) → is_some o ≡ is_some (option_map f o)
is_some-map f None = refl
is_some-map f (Some a) = refl

-- two tests of two results, the second of which depends on the first
pub bind_tests : {A B : Type 0} (p q : Bool) (o : Option A) (f : A → Option B) → p ≡ is_some o → ((a : A) → q ≡ is_some (f a)) → (p && q) ≡ is_some (o >>= f)
bind_tests p q None f first second = ap (λ (t : Bool). t && q) first
bind_tests p q (Some a) f first second = ap (λ (t : Bool). t && q) first ∙ second a

pub last_test : {A B : Type 0} (q : Bool) (o : Option A) (f : A → B) → q ≡ is_some o → (q && true) ≡ is_some (option_map f o)
last_test q None f last = ap (λ (t : Bool). t && true) last
last_test q (Some a) f last = ap (λ (t : Bool). t && true) last

found_step : {X : Type 0} (here rest : Bool) (x : X) (later : Option X) → rest ≡ is_some later → (here || rest) ≡ is_some (cond here (Some x) later)
found_step true rest x later same = refl
found_step false rest x later same = same

any_found : {X : Type 0} (p : X → Bool) (xs : List X) → list_any p xs ≡ is_some (find p xs)
any_found p [] = refl
any_found p (x ∷ xs) = found_step (p x) (list_any p xs) x (find p xs) (any_found p xs)

-- ---- words

-- the words of a kind are those that the field reads
abbrev pub Reads : {A : Type 0} → WordKind → Field A → Type 0
Reads k field = (n : EventNames) (w : List ℕ) → is_word k w ≡ is_some (field n w)

plain_reads : {A : Type 0} (k : WordKind) (read : List ℕ → Option A) → ((w : List ℕ) → is_word k w ≡ is_some (read w)) → Reads k (plain read)
plain_reads k read same = λ n w. same w ∙ is_some-map (λ x. (n, x)) (read w)

is_number : (w : List ℕ) → is_word kind.Number w ≡ is_some (number_of w)
unfolding is_word
is_number w = refl

pub number_reads : Reads kind.Number (plain number_of)
number_reads = plain_reads kind.Number number_of is_number

positive_step : (o : Option ℕ) → is_positive o ≡ is_some (o >>= λ k. cond (nat_eq k 0) None (Some k))
positive_step None = refl
positive_step (Some zero) = refl
positive_step (Some (suc k)) =
    lt-ltb 0 (suc k) (omega arith) ∙ sym (ap (λ (t : Bool). is_some (cond t None (Some (suc k)))) (ne_eqb (suc k) 0 (omega arith)))

pub is_not_zero : (w : List ℕ) → is_positive (number_of w) ≡ is_some (not_zero w)
is_not_zero w = positive_step (number_of w)

is_positive_number : (w : List ℕ) → is_word kind.Positive w ≡ is_some (not_zero w)
unfolding is_word
is_positive_number w = is_not_zero w

pub positive_reads : Reads kind.Positive (plain not_zero)
positive_reads = plain_reads kind.Positive not_zero is_positive_number

module _ (names : List (List ℕ)) (w : List ℕ) where
  abbrev with_number : ℕ → List (List ℕ) × ℕ
  with_number k = (names_with w names, k)

  by_name : (t : Bool) → t ≡ is_some (cond t (option_map with_number (index_among (names_with w names) w)) None)
  by_name true = sym (ap (λ (index : Option ℕ). is_some (option_map with_number index)) (index_with names w).1)
  by_name false = refl

  is_numbered : is_name w ≡ is_some (numbered names w)
  is_numbered = by_name (is_name w)

pub name_reads : (k : SymbolKind) (names : List (List ℕ)) (make : List (List ℕ) × ℕ → EventNames × ℕ) (w : List ℕ) → is_word (kind.Name k) w ≡ is_some (option_map make (numbered names w))
unfolding is_word
name_reads k names make w = is_numbered names w ∙ is_some-map make (numbered names w)

abbrev row_point : ℕ → Row → Point
row_point i row = record { index = i; kind = row.kind; wait = row.wait }

found_point : (test : Row → Bool) (found : Option ℕ) → position test points ≡ found → is_some (option_and_then point_at found) ≡ is_some found
found_point test None at = refl
found_point test (Some i) at =
    let blank : Row = record { name = []; kind = Optional; wait = NoWait } in
    ap (λ (row : Option Row). is_some (option_map (row_point i) row)) (slice_get-get_or points i blank (position-Some test points i blank at).0)

is_point : (w : List ℕ) → is_word kind.Point w ≡ is_some (point_index w)
unfolding is_word point_of point_index
is_point w = found_point (λ r. bytes_eq r.name w) (position (λ r. bytes_eq r.name w) points) refl

pub point_reads : Reads kind.Point (plain point_index)
point_reads = plain_reads kind.Point point_index is_point

is_call : (w : List ℕ) → is_word kind.Call w ≡ is_some (caller_of w)
unfolding is_word is_caller caller_of
is_call w = any_found (λ call. bytes_eq (caller_name call) w) callers

pub call_reads : Reads kind.Call (plain caller_of)
call_reads = plain_reads kind.Call caller_of is_call

flag_tests : (a b : Bool) → (a || b) ≡ is_some (cond a (Some true) (cond b (Some false) None))
flag_tests true b = refl
flag_tests false true = refl
flag_tests false false = refl

is_either : (one other : Keyword) (w : List ℕ) → is_word (kind.Either one other) w ≡ is_some (flag one other w)
unfolding is_word
is_either one other w =
    ap₂ (λ (a b : Bool). a || b) (bytes_eq-swapped (keyword_text one) w) (bytes_eq-swapped (keyword_text other) w)
    ∙ flag_tests (bytes_eq w (keyword_text one)) (bytes_eq w (keyword_text other))

pub either_reads : (one other : Keyword) → Reads (kind.Either one other) (plain (flag one other))
either_reads one other = plain_reads (kind.Either one other) (flag one other) (is_either one other)

-- the order of the two words does not matter
pub is_swapped : (one other : Keyword) (w : List ℕ) → is_word (kind.Either other one) w ≡ is_some (flag one other w)
unfolding is_word
is_swapped one other w = or_swapped (bytes_eq (keyword_text other) w) (bytes_eq (keyword_text one) w) ∙ is_either one other w

pub swapped_reads : (one other : Keyword) → Reads (kind.Either other one) (plain (flag one other))
swapped_reads one other = plain_reads (kind.Either other one) (flag one other) (is_swapped one other)

is_stop_name : (class : Keyword) (w : List ℕ) → is_word (kind.Stop class) w ≡ is_some (stop_of (keyword_text class) w)
unfolding is_word is_stop stop_of
is_stop_name class w = any_found (has_name class w) stops

pub stop_reads : (class : Keyword) → Reads (kind.Stop class) (plain (stop_of (keyword_text class)))
stop_reads class = plain_reads (kind.Stop class) (stop_of (keyword_text class)) (is_stop_name class)

pub is_fixed : (one : Keyword) (w : List ℕ) → is_word (kind.Word one) w ≡ bytes_eq w (keyword_text one)
unfolding is_word
is_fixed one w = bytes_eq-swapped (keyword_text one) w

-- ---- as many words as kinds

-- there is a word for each kind
abbrev pub fits : List WordKind → List (List ℕ) → Bool
fits [] [] = true
fits [] (w ∷ words) = false
fits (k ∷ kinds) [] = false
fits (k ∷ kinds) (w ∷ words) = fits kinds words

pub other_count : (kinds : List WordKind) (words : List (List ℕ)) → fits kinds words ≡ false → are_words kinds words ≡ false
unfolding are_words
other_count [] [] other = other
other_count [] (w ∷ words) other = refl
other_count (k ∷ kinds) [] other = refl
other_count (k ∷ kinds) (w ∷ words) other = ap (λ (t : Bool). is_word k w && t) (other_count kinds words other) ∙ and_nothing (is_word k w)

module _ {A : Type 0} (j : WordKind) (a : Field A) (first : Reads j a) (make : A → What) (n : EventNames) where
  pub one_row : (words : List (List ℕ)) → are_words (j ∷ []) words ≡ is_some (one make a n words)
  unfolding are_words
  one_row [] = refl
  one_row (v ∷ []) = last_test (is_word j v) (a n v) _ (first n v)
  one_row (v ∷ w ∷ words) = other_count (j ∷ []) (v ∷ w ∷ words) refl

module _ {A B : Type 0} (j k : WordKind) (a : Field A) (b : Field B) (first : Reads j a) (second : Reads k b) (make : A → B → What) (n : EventNames) where
  pub two_row : (words : List (List ℕ)) → are_words (j ∷ k ∷ []) words ≡ is_some (two make a b n words)
  unfolding are_words
  two_row [] = refl
  two_row (v ∷ []) = other_count (j ∷ k ∷ []) (v ∷ []) refl
  two_row (v ∷ w ∷ []) = bind_tests (is_word j v) (is_word k w && true) (a n v) _ (first n v) (λ r. last_test (is_word k w) (b r.0 w) _ (second r.0 w))
  two_row (v ∷ w ∷ x ∷ words) = other_count (j ∷ k ∷ []) (v ∷ w ∷ x ∷ words) refl

module _ {A B C : Type 0} (j k l : WordKind) (a : Field A) (b : Field B) (c : Field C) (first : Reads j a) (second : Reads k b) (third : Reads l c)
    (make : A → B → C → What) (n : EventNames) where
  pub three_row : (words : List (List ℕ)) → are_words (j ∷ k ∷ l ∷ []) words ≡ is_some (three make a b c n words)
  unfolding are_words
  three_row [] = refl
  three_row (u ∷ []) = other_count (j ∷ k ∷ l ∷ []) (u ∷ []) refl
  three_row (u ∷ v ∷ []) = other_count (j ∷ k ∷ l ∷ []) (u ∷ v ∷ []) refl
  three_row (u ∷ v ∷ w ∷ []) =
      bind_tests (is_word j u) (is_word k v && (is_word l w && true)) (a n u) _ (first n u)
      (λ r. bind_tests (is_word k v) (is_word l w && true) (b r.0 v) _ (second r.0 v) (λ s. last_test (is_word l w) (c s.0 w) _ (third s.0 w)))
  three_row (u ∷ v ∷ w ∷ x ∷ words) = other_count (j ∷ k ∷ l ∷ []) (u ∷ v ∷ w ∷ x ∷ words) refl

module _ {A B C D : Type 0} (j k l m : WordKind) (a : Field A) (b : Field B) (c : Field C) (d : Field D) (first : Reads j a) (second : Reads k b) (third : Reads l c) (fourth : Reads m d)
    (make : A → B → C → D → What) (n : EventNames) where
  pub four_row : (words : List (List ℕ)) → are_words (j ∷ k ∷ l ∷ m ∷ []) words ≡ is_some (four make a b c d n words)
  unfolding are_words
  four_row [] = refl
  four_row (u ∷ []) = other_count (j ∷ k ∷ l ∷ m ∷ []) (u ∷ []) refl
  four_row (u ∷ v ∷ []) = other_count (j ∷ k ∷ l ∷ m ∷ []) (u ∷ v ∷ []) refl
  four_row (u ∷ v ∷ w ∷ []) = other_count (j ∷ k ∷ l ∷ m ∷ []) (u ∷ v ∷ w ∷ []) refl
  four_row (u ∷ v ∷ w ∷ x ∷ []) =
      bind_tests (is_word j u) (is_word k v && (is_word l w && (is_word m x && true))) (a n u) _ (first n u)
      (λ r. bind_tests (is_word k v) (is_word l w && (is_word m x && true)) (b r.0 v) _ (second r.0 v)
      (λ s. bind_tests (is_word l w) (is_word m x && true) (c s.0 w) _ (third s.0 w) (λ t. last_test (is_word m x) (d t.0 x) _ (fourth t.0 x))))
  four_row (u ∷ v ∷ w ∷ x ∷ y ∷ words) = other_count (j ∷ k ∷ l ∷ m ∷ []) (u ∷ v ∷ w ∷ x ∷ y ∷ words) refl
