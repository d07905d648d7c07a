-- The numbers of the lines of statements ascend.
use Rattle.pct_names.proofs.Names.{◌+◌, ◌++◌, ◌<◌, [], add-one, arith, Bool, concat, cond, cons_option, enumerate_from, false, filter}
use Rattle.pct_names.proofs.Names.{filter_map, is_function, is_statement, IsStrictlyIncreasing, length, Line, lines_of, List, map, None}
use Rattle.pct_names.proofs.Names.{Numbered, Option, option_map, parsed, parsed_lines, parsed_numbered, ParsedLine, Section, Sections}
use Rattle.pct_names.proofs.Names.{slice_index, Some, spell_something, spelled_lines, split_sections, suc, true, words_in, zero, ℕ, ◌∷◌}
use Rattle.pct_names.proofs.Names.{◌≤◌}
use Rattle.pct_script_lines.specs.StatementLines.{numbers_in, statement_lines}

-- the numbers ascend, and the first is at least this one
abbrev Ascends : ℕ → List ℕ → Type 0
Ascends n [] = Unit {0}
Ascends n (x ∷ numbers) = (n ≤ x) × Ascends (suc x) numbers

-- the first number is at least each smaller one too
from_less : (n m : ℕ) (numbers : List ℕ) → n ≤ m → Ascends m numbers → Ascends n numbers
from_less n m [] le ascend = tt
from_less n m (x ∷ numbers) le ascend = (omega (arith, ascend.0), ascend.1)

-- the last numbers of those that ascend
without_front : (n : ℕ) (front numbers : List ℕ) → Ascends n (front ++ numbers) → Ascends n numbers
without_front n [] numbers ascend = ascend
without_front n (x ∷ front) numbers ascend = from_less n (suc x) numbers (omega (arith, ascend.0)) (without_front (suc x) front numbers ascend.1)

-- each number is below the next one
each_below : (n : ℕ) (numbers : List ℕ) (k : ℕ) → Ascends n numbers → suc k < length numbers → slice_index numbers k < slice_index numbers (suc k)
each_below n [] k ascend within = absurd (omega arith)
each_below n (x ∷ []) k ascend within = absurd (omega arith)
each_below n (x ∷ y ∷ numbers) zero ascend within = omega (arith, ascend.1.0)
each_below n (x ∷ y ∷ numbers) (suc k) ascend within = each_below (suc x) (y ∷ numbers) k ascend.1 (omega arith)

-- numbers that ascend increase strictly
increasing : (n : ℕ) (numbers : List ℕ) → Ascends n numbers → IsStrictlyIncreasing numbers
increasing n numbers ascend k within = rw (add-one k) (each_below n numbers k ascend (omega arith))

-- ---- the lines of a text

-- the numbers of lines
abbrev numbers_of : {A : Type 0} → List (Numbered A) → List ℕ
numbers_of lines = map (λ l. l.0) lines

-- the line spells something
abbrev spells : Numbered (List ℕ) → Bool
spells l = spell_something (words_in l.1)

-- one more line, which is kept or not
one_kept : (t : Bool) (n : ℕ) (line : List ℕ) (others : List (Numbered (List ℕ))) → Ascends (n + 1) (numbers_of others) → Ascends n (numbers_of (cond t ((n, line) ∷ others) others))
one_kept true n line others ascend = (omega arith, from_less (suc n) (n + 1) (numbers_of others) (omega arith) ascend)
one_kept false n line others ascend = from_less n (n + 1) (numbers_of others) (omega arith) ascend

-- the lines that spell something ascend
spelled_ascend : (n : ℕ) (lines : List (List ℕ)) → Ascends n (numbers_of (filter spells (enumerate_from n lines)))
spelled_ascend n [] = tt
spelled_ascend n (line ∷ lines) = one_kept (spells (n, line)) n line (filter spells (enumerate_from (n + 1) lines)) (spelled_ascend (n + 1) lines)

-- one more line, which parses or not
one_parsed : (n m : ℕ) (o : Option ParsedLine) (others : List Line) → n ≤ m → Ascends (suc m) (numbers_of others)
    → Ascends n (numbers_of (cons_option (option_map {U = Line} (λ line. (m, line)) o) others))
one_parsed n m None others le ascend = from_less n (suc m) (numbers_of others) (omega arith) ascend
one_parsed n m (Some line) others le ascend = (le, ascend)

-- the parsed lines ascend
parsed_ascend : (n : ℕ) (lines : List (Numbered (List ℕ))) → Ascends n (numbers_of lines) → Ascends n (numbers_of (filter_map parsed_numbered lines))
parsed_ascend n [] ascend = tt
parsed_ascend n (l ∷ lines) ascend = one_parsed n l.0 (parsed l.1) (filter_map parsed_numbered lines) ascend.0 (parsed_ascend (suc l.0) lines ascend.1)

-- the parsed lines of a text ascend
text_ascends : (text : List ℕ) → Ascends 1 (numbers_in (parsed_lines text))
unfolding parsed_lines spelled_lines
text_ascends text = parsed_ascend 1 (filter spells (enumerate_from 1 (lines_of text))) (spelled_ascend 1 (lines_of text))

-- ---- the lines of functions

-- the numbers of the lines of the functions among sections
abbrev lines_of_functions : List Section → List ℕ
lines_of_functions sections = concat (map (λ section. numbers_in section.body) (filter is_function sections))

-- the numbers of the lines before the first section, and then of functions, ascend
abbrev InOrder : ℕ → Sections → Type 0
InOrder n p = Ascends n (numbers_in p.preamble ++ lines_of_functions p.sections)

-- the lines before the first section as the body of a new one, which is a function or not
at_header : (t : Bool) (n : ℕ) (preamble : List Line) (others : List Section) (l : Line) → Ascends n (numbers_in preamble ++ concat (map (λ (section : Section). numbers_in section.body) others))
    → Ascends n (concat (map (λ (section : Section). numbers_in section.body) (cond t (record { header = l; body = preamble } ∷ others) others)))
at_header true n preamble others l ascend = ascend
at_header false n preamble others l ascend = without_front n (numbers_in preamble) (concat (map (λ (section : Section). numbers_in section.body) others)) ascend

-- one more line before the sections, which is a statement or a declaration
with_line : (t : Bool) (n : ℕ) (l : Line) (p : Sections) → n ≤ l.0 → InOrder (suc l.0) p
    → InOrder n (cond t (record { preamble = l ∷ p.preamble; sections = p.sections }) (record { preamble = []; sections = record { header = l; body = p.preamble } ∷ p.sections }))
with_line true n l p le order = (le, order)
with_line false n l p le order =
    let section : Section = record { header = l; body = p.preamble } in
    from_less n (suc l.0) (lines_of_functions (section ∷ p.sections)) (omega arith) (at_header (is_function section) (suc l.0) p.preamble (filter is_function p.sections) l order)

-- the lines of functions ascend where all lines do
in_order : (n : ℕ) (lines : List Line) → Ascends n (numbers_in lines) → InOrder n (split_sections lines)
unfolding split_sections
in_order n [] ascend = tt
in_order n (l ∷ lines) ascend = with_line (is_statement l.1) n l (split_sections lines) ascend.0 (in_order (suc l.0) lines ascend.1)

-- the numbers of the lines of all statements ascend
pub lines_ascend : (text : List ℕ) → IsStrictlyIncreasing (concat (statement_lines text))
unfolding statement_lines
lines_ascend text =
    let p = split_sections (parsed_lines text) in
    increasing 1 (lines_of_functions p.sections) (without_front 1 (numbers_in p.preamble) (lines_of_functions p.sections) (in_order 1 (parsed_lines text) (text_ascends text)))
