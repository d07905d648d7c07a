-- A check finds no fault if and only if no line fails it.
use Rattle.pct_names.proofs.Names.{◌&&◌, [], ap, Bool, cond, false, Fault, fault_at_line, find, first_in, first_of, first_that, first_wrong}
use Rattle.pct_names.proofs.Names.{functions_in, is_none, Line, List, list_all, map, none_wrong, not, Numbered, Option, ParsedLine}
use Rattle.pct_names.proofs.Names.{ParseWhy, refl, Section, Some, true, ℕ, ◌∙◌, ◌∷◌, ◌≡◌}
use Rattle.pct_grammar.proofs.OptionFacts.{mapped_none, or_none}

-- ---- tests

pub not_not : (t : Bool) → not (not t) ≡ t
not_not true = refl
not_not false = refl

pub swap : (a b d : Bool) → (a && (b && d)) ≡ (b && (a && d))
swap true b d = refl
swap false true d = refl
swap false false d = refl

pub and_assoc : (a b d : Bool) → (a && (b && d)) ≡ (a && b && d)
and_assoc true b d = refl
and_assoc false b d = refl

-- ---- a fault

-- the first fault is None if and only if each is None
pub first_of_none : {A B : Type 0} (check : A → Option B) (xs : List A) → is_none (first_of (map check xs)) ≡ list_all (λ x. is_none (check x)) xs
first_of_none check [] = refl
first_of_none check (x ∷ xs) = or_none (check x) (first_of (map check xs)) ∙ ap (λ (t : Bool). is_none (check x) && t) (first_of_none check xs)

-- there is no fault if there is no line
pub line_none : (why : ParseWhy) (line : Option ℕ) → is_none (fault_at_line why line) ≡ is_none line
line_none why line = mapped_none {B = Fault} (λ (n : ℕ). (n, why)) line

-- ---- rules of lines

wrong_or : (wrong : Bool) (n : ℕ) (first : Option ℕ) (none : Bool) → is_none first ≡ none → is_none (cond wrong (Some n) first) ≡ (not wrong && none)
wrong_or true n first none e = refl
wrong_or false n first none e = e

-- there is no first line that breaks a rule if and only if no line breaks it
pub first_wrong_none : {A : Type 0} (rule : List A → A → Bool) (before : List A) (lines : List (Numbered A)) → is_none (first_wrong rule before lines) ≡ none_wrong rule before (map (λ l. l.1) lines)
unfolding first_wrong none_wrong
first_wrong_none rule before [] = refl
first_wrong_none rule before (l ∷ lines) =
    wrong_or (rule before l.1) l.0 (first_wrong rule (l.1 ∷ before) lines) (none_wrong rule (l.1 ∷ before) (map (λ m. m.1) lines)) (first_wrong_none rule (l.1 ∷ before) lines)

-- ---- tests of a function's lines

found_or : (is : Bool) (l : Line) (others : Option Line) (none : Bool) → is_none others ≡ none → is_none (cond is (Some l) others) ≡ (not is && none)
found_or true l others none e = refl
found_or false l others none e = e

none_found : (test : ParsedLine → Bool) (body : List Line) → is_none (find (λ (l : Line). test l.1) body) ≡ list_all (λ l. not (test l.1)) body
none_found test [] = refl
none_found test (l ∷ body) = found_or (test l.1) l (find (λ (m : Line). test m.1) body) (list_all (λ m. not (test m.1)) body) (none_found test body)

-- there is no first line that passes a test if and only if no line passes it
pub first_that_none : (test : ParsedLine → Bool) (body : List Line) → is_none (first_that test body) ≡ list_all (λ l. not (test l.1)) body
first_that_none test body = mapped_none (λ (l : Line). l.0) (find (λ (l : Line). test l.1) body) ∙ none_found test body

-- ---- checks of functions

-- a check of functions finds no fault if and only if it finds none in each function
pub first_in_none : (why : ParseWhy) (check : Section → Option ℕ) (lines : List Line) → is_none (first_in why check lines) ≡ list_all (λ section. is_none (check section)) (functions_in lines)
first_in_none why check lines = line_none why (first_of (map check (functions_in lines))) ∙ first_of_none check (functions_in lines)
