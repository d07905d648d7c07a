-- What the lines of functions spell: a function's name, its locals, and its statements.
use Rattle.pct_names.proofs.Names.{[], AllZip, ap, AreContents, Argument, argument_kinds_in, Bool, cond, Contents, declarations, declaring}
use Rattle.pct_names.proofs.Names.{false, filter, Func, functions_in, have_words, is_declaration, is_function, is_statement, length, Line}
use Rattle.pct_names.proofs.Names.{List, list_all, map, map-map, names_of_kind, not-true, ParsedLine, refl, resolve_all, role_in, Section}
use Rattle.pct_names.proofs.Names.{Sections, sections_of, Some, SpellsBody, split_sections, sym, syntax_of, Token, tokens_at, true, ℕ, ◌∙◌}
use Rattle.pct_names.proofs.Names.{◌∷◌, ◌≡◌}
use Rattle.pct_model.specs.declared.line_kind.SymbolKind.TheVariants as kind
use Rattle.pct_grammar.proofs.SharedWords.{IsParsed, EachParsed}
use Rattle.pct_grammar.proofs.Declarations.{function_words}
use Rattle.pct_grammar.proofs.SectionSplits.{function_headers, prefix_if}
use Rattle.pct_grammar.proofs.TokensResolve.{is_no_count, words_read, statement_kinds, words_at_lengths, replaced_lengths}

-- ---- the sections of lines that were parsed from words

-- each line was parsed from words, and is a statement
abbrev pub EachStatement : List Line → Type 0
EachStatement [] = Unit {0}
EachStatement (l ∷ lines) = IsParsed l.1 × (is_statement l.1 ≡ true) × EachStatement lines

-- each section has such statements
abbrev pub EachSection : (Section → Type 0) → List Section → Type 0
EachSection Is [] = Unit {0}
EachSection Is (section ∷ sections) = Is section × EachSection Is sections

-- the section of such lines
record SectionParsed (section : Section) : Type 0 where
  header : IsParsed section.header.1
  body : EachStatement section.body

record SplitParsed (p : Sections) : Type 0 where
  prefix : EachStatement p.preamble
  sections : EachSection SectionParsed p.sections

-- the section of a function
pub record FunctionParsed (section : Section) : Type 0 where
  pub header : IsParsed section.header.1
  pub is : is_function section ≡ true
  pub body : EachStatement section.body

one_more_parsed : (l : Line) (p : Sections) (t : Bool) → is_statement l.1 ≡ t → IsParsed l.1 → SplitParsed p → SplitParsed (prefix_if t l p)
one_more_parsed l p true e from parsed = record { prefix = (from, e, parsed.prefix); sections = parsed.sections }
one_more_parsed l p false e from parsed = record { prefix = tt; sections = (record { header = from; body = parsed.prefix }, parsed.sections) }

split_parsed : (lines : List Line) → EachParsed lines → SplitParsed (split_sections lines)
unfolding split_sections
split_parsed [] from = record { prefix = tt; sections = tt }
split_parsed (l ∷ lines) from = one_more_parsed l (split_sections lines) (is_statement l.1) refl from.0 (split_parsed lines from.1)

one_function_parsed : (section : Section) (sections : List Section) (t : Bool) → is_function section ≡ t → SectionParsed section → EachSection FunctionParsed sections → EachSection FunctionParsed (cond t (section ∷ sections) sections)
one_function_parsed section sections true e parsed others = (record { header = parsed.header; is = e; body = parsed.body }, others)
one_function_parsed section sections false e parsed others = others

sections_parsed : (sections : List Section) → EachSection SectionParsed sections → EachSection FunctionParsed (filter is_function sections)
sections_parsed [] parsed = tt
sections_parsed (section ∷ sections) parsed = one_function_parsed section (filter is_function sections) (is_function section) refl parsed.0 (sections_parsed sections parsed.1)

-- the functions of such lines
pub functions_parsed : (lines : List Line) → EachParsed lines → EachSection FunctionParsed (functions_in lines)
functions_parsed lines from = sections_parsed (sections_of lines) (split_parsed lines from).sections

-- ---- functions and their sections

-- the section spells the function
pub record WroteAll (c : Contents) (section : Section) (f : Func) : Type 0 where
  pub words : section.header.1.tokens ≡ function_words f.name f.locals
  pub body : SpellsBody c section f

-- the tokens of its `fn` line
abbrev pub words_of_function : Func → List Token
words_of_function f = function_words f.name f.locals

resolve_both : (c : Contents) (sections : List Section) (funcs : List Func) → map (λ section. section.header.1.tokens) sections ≡ map words_of_function funcs → AllZip (SpellsBody c) sections funcs → AllZip (WroteAll c) sections funcs
resolve_both c [] [] headers bodies = tt
resolve_both c (section ∷ sections) (f ∷ funcs) headers bodies =
    let first : section.header.1.tokens ≡ words_of_function f = cc in
    let others : map (λ (p : Section). p.header.1.tokens) sections ≡ map words_of_function funcs = cc in
    (record { words = first; body = bodies.0 }, resolve_both c sections funcs others bodies.1)
resolve_both c _ _ headers bodies = absurd bodies

-- the tokens of the functions' headers are those of the lines that declare functions
pub words_of_headers : {A : Type 0} (h : List Token → A) (lines : List Line) → map (λ section. h section.header.1.tokens) (functions_in lines) ≡ map (λ l. h l.1.tokens) (declaring kind.Function lines)
words_of_headers h lines = sym (map-map (λ (l : Line). h l.1.tokens) (λ (section : Section). section.header) (functions_in lines)) ∙ ap (map (λ (l : Line). h l.1.tokens)) (function_headers lines)

functions_declared : (lines : List Line) (c : Contents) → AreContents lines c → map (λ section. section.header.1.tokens) (functions_in lines) ≡ map words_of_function c.funcs
unfolding declarations
functions_declared lines c are = words_of_headers (λ ws. ws) lines ∙ are.declared kind.Function

-- the sections of lines spell the functions of the script that the lines spell
pub functions_resolve : (lines : List Line) (c : Contents) → AreContents lines c → AllZip (WroteAll c) (functions_in lines) c.funcs
functions_resolve lines c are = resolve_both c (functions_in lines) c.funcs (functions_declared lines c are) are.bodies

-- ---- the arguments on a statement's line

-- a statement is no declaration
pub no_declaration : (line : ParsedLine) → is_statement line ≡ true → is_declaration (role_in line) ≡ false
no_declaration line is = not-true (is_declaration (role_in line)) is

-- resolved arguments of a statement have words
pub line_has_words : (c : Contents) (locals : List (List ℕ)) (line : ParsedLine) (args : List Argument) → IsParsed line → is_statement line ≡ true
    → resolve_all (names_of_kind c) locals (argument_kinds_in line) line.tokens ≡ Some args → have_words c locals ((syntax_of line.line_kind).argument_kinds (length args)) args ≡ true
line_has_words c locals line args from is h =
    let argument_kinds = (syntax_of line.line_kind).argument_kinds in
    let lengths = words_at_lengths (argument_kinds (length from.others)) from.others line.tokens from.words in
    let n : length from.others ≡ length line.tokens = lengths.0 ∙ sym lengths.1 in
    let m : length args ≡ length line.tokens = replaced_lengths (names_of_kind c) locals (argument_kinds_in line) line.tokens args h in
    let at : tokens_at (argument_kinds (length line.tokens)) from.others ≡ Some line.tokens = sym (ap (λ k. tokens_at (argument_kinds k) from.others) n) ∙ from.words in
    let no_count : list_all is_no_count (argument_kinds (length line.tokens)) ≡ true = statement_kinds line.line_kind (length line.tokens) (no_declaration line is) in
    ap (λ k. have_words c locals (argument_kinds k) args) m ∙ words_read c locals (argument_kinds_in line) from.others line.tokens args no_count at h
