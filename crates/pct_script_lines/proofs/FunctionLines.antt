-- The numbers of the lines of each function, found line by line.
use Rattle.pct_names.proofs.Names.{◌++◌, [], ap, Bool, cond, declares, false, filter, is_function, is_statement, Line, List, map}
use Rattle.pct_names.proofs.Names.{parsed_lines, refl, Section, Sections, split_sections, sym, true, ℕ, ◌∙◌, ◌∷◌, ◌≡◌}
use Rattle.std.proofs.Common.{append_assoc, append-nil}
use Rattle.pct_model.specs.declared.line_kind.SymbolKind.TheVariants as kind
use Rattle.pct_grammar.proofs.SectionSplits.{prefix_if}
use Rattle.pct_script_lines.specs.StatementLines.{numbers_in, statement_lines}

-- the numbers of the lines of each function
abbrev in_functions : List Section → List (List ℕ)
in_functions sections = map (λ section. numbers_in section.body) (filter is_function sections)

-- the same of lines split into sections, where these numbers are before the lines, in a function or not
abbrev lists_after : List ℕ → Bool → Sections → List (List ℕ)
lists_after numbers in_function p = cond in_function ((numbers ++ numbers_in p.preamble) ∷ in_functions p.sections) (in_functions p.sections)

-- the lists of numbers of all lines, where these are the lists before the lines, and the numbers after the last declaration
unfoldable pub continued : List (List ℕ) → List ℕ → Bool → List Line → List (List ℕ)
continued lists numbers in_function lines = lists ++ lists_after numbers in_function (split_sections lines)

-- the lists, and the numbers after the last declaration if that is of a function
abbrev pub ended : List (List ℕ) → List ℕ → Bool → List (List ℕ)
ended lists numbers in_function = cond in_function (lists ++ numbers ∷ []) lists

-- before the first line
pub before_lines : (text : List ℕ) → statement_lines text ≡ continued [] [] false (parsed_lines text)
unfolding continued statement_lines
before_lines text = refl

before_section : (lists : List (List ℕ)) (numbers : List ℕ) (in_function : Bool) (more : List (List ℕ)) → lists ++ cond in_function ((numbers ++ []) ∷ more) more ≡ ended lists numbers in_function ++ more
before_section lists numbers true more = ap (λ (ns : List ℕ). lists ++ ns ∷ more) (append-nil numbers) ∙ sym (append_assoc lists (numbers ∷ []) more)
before_section lists numbers false more = refl

-- after the last line
pub after_lines : (lists : List (List ℕ)) (numbers : List ℕ) (in_function : Bool) → continued lists numbers in_function [] ≡ ended lists numbers in_function
unfolding continued split_sections
after_lines lists numbers in_function = before_section lists numbers in_function [] ∙ append-nil (ended lists numbers in_function)

-- the sections of lines, by whether the first line is a statement
split_first : (l : Line) (lines : List Line) (t : Bool) → is_statement l.1 ≡ t → split_sections (l ∷ lines) ≡ prefix_if t l (split_sections lines)
unfolding split_sections
split_first l lines t is = ap (λ (t : Bool). prefix_if t l (split_sections lines)) is

one_more_number : (numbers : List ℕ) (in_function : Bool) (l : Line) (p : Sections) → lists_after numbers in_function (prefix_if true l p) ≡ lists_after (numbers ++ l.0 ∷ []) in_function p
one_more_number numbers true l p = ap (λ (ns : List ℕ). ns ∷ in_functions p.sections) (sym (append_assoc numbers (l.0 ∷ []) (numbers_in p.preamble)))
one_more_number numbers false l p = refl

-- a statement
pub at_statement : (lists : List (List ℕ)) (numbers : List ℕ) (in_function : Bool) (l : Line) (lines : List Line) → is_statement l.1 ≡ true
    → continued lists numbers in_function (l ∷ lines) ≡ continued lists (numbers ++ l.0 ∷ []) in_function lines
unfolding continued
at_statement lists numbers in_function l lines is =
    ap (λ (p : Sections). lists ++ lists_after numbers in_function p) (split_first l lines true is) ∙ ap (λ (after : List (List ℕ)). lists ++ after) (one_more_number numbers in_function l (split_sections lines))

one_more_section : (l : Line) (p : Sections) (t : Bool) → map (λ (section : Section). numbers_in section.body) (cond t (record { header = l; body = p.preamble } ∷ filter is_function p.sections) (filter is_function p.sections)) ≡ lists_after [] t p
one_more_section l p true = refl
one_more_section l p false = refl

-- a declaration
pub at_declaration : (lists : List (List ℕ)) (numbers : List ℕ) (in_function : Bool) (l : Line) (lines : List Line) → is_statement l.1 ≡ false
    → continued lists numbers in_function (l ∷ lines) ≡ continued (ended lists numbers in_function) [] (declares kind.Function l.1) lines
unfolding continued
at_declaration lists numbers in_function l lines is =
    ap (λ (p : Sections). lists ++ lists_after numbers in_function p) (split_first l lines false is)
    ∙ ap (λ (more : List (List ℕ)). lists ++ cond in_function ((numbers ++ []) ∷ more) more) (one_more_section l (split_sections lines) (declares kind.Function l.1))
    ∙ before_section lists numbers in_function (lists_after [] (declares kind.Function l.1) (split_sections lines))
