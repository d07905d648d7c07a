-- Resolving the statements of a function and the functions of a script, one by one.
use Rattle.pct_names.proofs.Names.{◌++◌, ◌>>=◌, [], and_parts, ap, Argument, argument_kinds_in, Bool, cond, declares, Fault, fault_at_line}
use Rattle.pct_names.proofs.Names.{filter, find, first_of, Func, functions_in, is_declaration, is_function, is_none, is_statement, Line}
use Rattle.pct_names.proofs.Names.{List, list_all, locals_of, map, None, Option, option_map, option_or, ParsedLine, refl, resolve_all}
use Rattle.pct_names.proofs.Names.{role_in, Section, Sections, sections_of, Some, split_sections, Stmt, sym, SymbolKind, true, unknown_in}
use Rattle.pct_names.proofs.Names.{UnknownName, uses_unknown, ℕ, ◌∙◌, ◌∷◌, ◌≡◌}
use Rattle.std.proofs.Common.{append-nil}
use Rattle.pct_model.specs.declared.line_kind.SymbolKind.TheVariants as kind
use Rattle.pct_script_lines.specs.declared.fault.ParseFault.{ParseFault}
use Rattle.pct_script_lines.specs.declared.fault.ParseFault.TheVariants as fault
use Rattle.pct_script_lines.specs.Fault.{IsFoundBy}
use Rattle.pct_script_lines.specs.SectionSteps.{BeginsWithSection, is_ready}
use Rattle.pct_grammar.specs.Resolving.{decode, resolve_statement, first_name, resolve_body, resolve_function, resolve_functions}
use Rattle.pct_script_lines.specs.UnknownNames.{unknown_in_body, unknown_in_section, unknown_in_sections}
use Rattle.pct_grammar.proofs.SectionSplits.{is_section, are_sections}
use Rattle.pct_script_lines.proofs.ResolvingTokens.{onto, regroup}

-- ---- one more item

-- an item and those after it
abbrev with_more : {A : Type 0} → Option A → Option (List A) → Option (List A)
with_more o read = o >>= λ first. option_map (λ others. first ∷ others) read

-- one more item is resolved, and those after it are left
pub read_goes_on : {A : Type 0} (prefix : List A) (a : A) (o : Option A) (more read all : Option (List A)) → o ≡ Some a → read ≡ with_more o more
    → onto prefix read ≡ all → onto (prefix ++ a ∷ []) more ≡ all
read_goes_on prefix a o more read all is step so_far =
    sym (regroup prefix a more) ∙ sym (ap (λ p. onto prefix (with_more p more)) is) ∙ sym (ap (onto prefix) step) ∙ so_far

-- if nothing is left, the items so far are all
pub read_end : {A : Type 0} (prefix : List A) (read all : Option (List A)) → read ≡ Some [] → onto prefix read ≡ all → all ≡ Some prefix
read_end prefix read all none so_far = sym so_far ∙ ap (onto prefix) none ∙ ap (λ xs. Some xs) (append-nil prefix)

-- ---- the statements of a function

module _ (names : SymbolKind → List (List ℕ)) (locals : List (List ℕ)) where
  body_begins : (l : Line) (lines rest : List Line) → rest ≡ l ∷ lines → resolve_body names locals rest ≡ with_more (resolve_statement names locals l.1) (resolve_body names locals lines)
  unfolding resolve_body
  body_begins l lines rest first = ap (resolve_body names locals) first

  body_empty : (rest : List Line) → rest ≡ [] → resolve_body names locals rest ≡ Some []
  unfolding resolve_body
  body_empty rest none = ap (resolve_body names locals) none

  -- one more statement
  pub body_goes_on : (prefix : List Stmt) (s : Stmt) (l : Line) (lines rest : List Line) (all : Option (List Stmt)) → resolve_statement names locals l.1 ≡ Some s → rest ≡ l ∷ lines
      → onto prefix (resolve_body names locals rest) ≡ all → onto (prefix ++ s ∷ []) (resolve_body names locals lines) ≡ all
  body_goes_on prefix s l lines rest all is first so_far = read_goes_on prefix s (resolve_statement names locals l.1) (resolve_body names locals lines) _ all is (body_begins l lines rest first) so_far

  -- after the last line, the statements so far are all
  pub body_ends : (prefix : List Stmt) (rest : List Line) (all : Option (List Stmt)) → rest ≡ [] → onto prefix (resolve_body names locals rest) ≡ all → all ≡ Some prefix
  body_ends prefix rest all none so_far = read_end prefix (resolve_body names locals rest) all (body_empty rest none) so_far

  known_or_not : (line : ParsedLine) (o : Option (List Argument)) (p : Option Stmt) → resolve_all names locals (argument_kinds_in line) line.tokens ≡ o → option_map (decode line.line_kind) o ≡ p
      → uses_unknown names locals line ≡ is_none p
  unfolding uses_unknown
  known_or_not line None p e is = ap (λ q. is_none q) e ∙ ap (λ q. is_none q) is
  known_or_not line (Some args) p e is = ap (λ q. is_none q) e ∙ ap (λ q. is_none q) is

  unknown_is : (line : ParsedLine) (p : Option Stmt) → resolve_statement names locals line ≡ p → uses_unknown names locals line ≡ is_none p
  unfolding resolve_statement
  unknown_is line p is = known_or_not line (resolve_all names locals (argument_kinds_in line) line.tokens) p refl is

  abbrev found_or : Line → List Line → Bool → Option Fault
  found_or l lines t = fault_at_line UnknownName (option_map (λ (m : Line). m.0) (cond t (Some l) (find (λ (m : Line). uses_unknown names locals m.1) lines)))

  -- the names of a statement that resolves are known
  pub known_line : (s : Stmt) (l : Line) (lines rest : List Line) → resolve_statement names locals l.1 ≡ Some s → rest ≡ l ∷ lines → unknown_in_body names locals lines ≡ unknown_in_body names locals rest
  known_line s l lines rest is first =
      sym (ap (found_or l lines) (unknown_is l.1 (Some s) is)) ∙ sym (ap (unknown_in_body names locals) first)

  -- a line that does not resolve is the first with an unknown name
  pub unknown_line : (l : Line) (lines rest : List Line) → resolve_statement names locals l.1 ≡ None → rest ≡ l ∷ lines → unknown_in_body names locals rest ≡ Some (l.0, UnknownName)
  unknown_line l lines rest is first = ap (unknown_in_body names locals) first ∙ ap (found_or l lines) (unknown_is l.1 None is)

-- if all lines are statements, so are the first and the others
pub statements_after : (l : Line) (lines rest : List Line) → rest ≡ l ∷ lines → list_all (λ (m : Line). is_statement m.1) rest ≡ true
    → (is_statement l.1 ≡ true) × (list_all (λ (m : Line). is_statement m.1) lines ≡ true)
statements_after l lines rest first all =
    and_parts (is_statement l.1) (list_all (λ (m : Line). is_statement m.1) lines) (sym (ap (list_all (λ (m : Line). is_statement m.1)) first) ∙ all)

-- after the last line, no name is unknown
pub none_unknown : (names : SymbolKind → List (List ℕ)) (locals : List (List ℕ)) (rest : List Line) → rest ≡ [] → unknown_in_body names locals rest ≡ None
none_unknown names locals rest none = ap (unknown_in_body names locals) none

-- ---- functions

-- the function of a `fn` line, from its resolved statements
pub function_is : (names : SymbolKind → List (List ℕ)) (section : Section) (locals kept : List (List ℕ)) (name : List ℕ) (stmts : List Stmt) → locals ≡ locals_of section.header.1 → kept ≡ locals
    → name ≡ first_name section.header.1.tokens → unknown_in_body names locals section.body ≡ None → resolve_body names locals section.body ≡ Some stmts
    → (unknown_in_section names section ≡ None) × (resolve_function names section ≡ Some (record { name = name; locals = kept; body = stmts }))
unfolding resolve_function
function_is names section locals kept name stmts same same_kept same_name none read =
    let with_body = λ (o : Option (List Stmt)). option_map {U = Func} (λ body. record { name = first_name section.header.1.tokens; locals = locals_of section.header.1; body = body }) o in
    let body : resolve_body names (locals_of section.header.1) section.body ≡ Some stmts = sym (ap (λ ls. resolve_body names ls section.body) same) ∙ read in (
      sym (ap (λ ls. unknown_in_body names ls section.body) same) ∙ none,
      ap with_body body
          ∙ ap (λ n. Some (record { name = n; locals = locals_of section.header.1; body = stmts })) (sym same_name)
          ∙ ap (λ ls. Some (record { name = name; locals = ls; body = stmts })) (sym (same_kept ∙ same)),
    )

functions_with : (lines : List Line) (header : Line) (body after : List Line) (t : Bool) → BeginsWithSection lines header body after → declares kind.Function header.1 ≡ t
    → functions_in lines ≡ cond t (record { header = header; body = body } ∷ functions_in after) (functions_in after)
functions_with lines header body after t begins e =
    ap (λ (p : Sections). filter is_function p.sections) begins.sections
    ∙ ap (λ (b : Bool). cond b (record { header = header; body = body } ∷ functions_in after) (functions_in after)) e

-- the functions of lines that begin with a function
pub functions_take : (lines : List Line) (header : Line) (body after : List Line) → BeginsWithSection lines header body after → declares kind.Function header.1 ≡ true
    → functions_in lines ≡ record { header = header; body = body } ∷ functions_in after
functions_take lines header body after begins e = functions_with lines header body after true begins e

-- no lines have no functions
pub no_functions : (lines : List Line) → lines ≡ [] → functions_in lines ≡ []
unfolding split_sections
no_functions lines none = ap functions_in none

-- the body of the first section has statements alone
pub section_statements : (lines : List Line) (header : Line) (body after : List Line) → BeginsWithSection lines header body after → list_all (λ (m : Line). is_statement m.1) body ≡ true
section_statements lines header body after begins =
    let section : Section = record { header = header; body = body } in
    let sections : list_all is_section (section ∷ sections_of after) ≡ true = sym (ap (λ (p : Sections). list_all is_section p.sections) begins.sections) ∙ (are_sections lines).sections_are in
    let first = and_parts (is_section section) (list_all is_section (sections_of after)) sections in
    (and_parts (is_declaration (role_in header.1)) (list_all (λ (m : Line). is_statement m.1) body) first.0).1

all_after : (p : Line → Bool) (prefix after : List Line) → list_all p (prefix ++ after) ≡ true → list_all p after ≡ true
all_after p [] after all = all
all_after p (l ∷ prefix) after all = all_after p prefix after (and_parts (p l) (list_all p (prefix ++ after)) all).1

-- what holds of all lines holds of the first and of those after the first section
pub ready_after : (lines : List Line) (header : Line) (body after : List Line) → BeginsWithSection lines header body after → list_all is_ready lines ≡ true
    → (is_ready header ≡ true) × (list_all is_ready after ≡ true)
ready_after lines header body after begins all =
    let sections = and_parts (is_ready header) (list_all is_ready (body ++ after)) (sym (ap (list_all is_ready) begins.whole) ∙ all) in
    (sections.0, all_after is_ready body after sections.1)

none_before : (o others : Option ℕ) → fault_at_line UnknownName o ≡ None → fault_at_line UnknownName others ≡ fault_at_line UnknownName (option_or o others)
none_before None others e = refl
none_before (Some n) others e = absurd cc

module _ (names : SymbolKind → List (List ℕ)) where
  functions_begin : (section : Section) (sections all : List Section) → all ≡ section ∷ sections → resolve_functions names all ≡ with_more (resolve_function names section) (resolve_functions names sections)
  unfolding resolve_functions
  functions_begin section sections all first = ap (resolve_functions names) first

  functions_empty : (sections : List Section) → sections ≡ [] → resolve_functions names sections ≡ Some []
  unfolding resolve_functions
  functions_empty sections none = ap (resolve_functions names) none

  -- one more function
  pub functions_go_on : (prefix : List Func) (f : Func) (section : Section) (sections rest : List Section) (all : Option (List Func)) → resolve_function names section ≡ Some f → rest ≡ section ∷ sections
      → onto prefix (resolve_functions names rest) ≡ all → onto (prefix ++ f ∷ []) (resolve_functions names sections) ≡ all
  functions_go_on prefix f section sections rest all is first so_far = read_goes_on prefix f (resolve_function names section) (resolve_functions names sections) _ all is (functions_begin section sections rest first) so_far

  -- after the last section, the functions so far are all
  pub functions_end : (prefix : List Func) (rest : List Section) (all : Option (List Func)) → rest ≡ [] → onto prefix (resolve_functions names rest) ≡ all → all ≡ Some prefix
  functions_end prefix rest all none so_far = read_end prefix (resolve_functions names rest) all (functions_empty rest none) so_far

  -- the names of a function that resolves are known
  pub known_section : (section : Section) (sections rest : List Section) → unknown_in_section names section ≡ None → rest ≡ section ∷ sections → unknown_in_sections names sections ≡ unknown_in_sections names rest
  known_section section sections rest none first = none_before (unknown_in names section) (first_of (map (unknown_in names) sections)) none ∙ sym (ap (unknown_in_sections names) first)

  -- no functions have no unknown name
  pub no_section_unknown : (rest : List Section) → rest ≡ [] → unknown_in_sections names rest ≡ None
  no_section_unknown rest none = ap (unknown_in_sections names) none

-- equal checks find the same fault
pub found_same : (e : ParseFault) (check other : Option Fault) → check ≡ other → IsFoundBy check e → IsFoundBy other e
found_same fault.NoMemory check other same found = tt
found_same (fault.Refused line why) check other same found = sym same ∙ found
