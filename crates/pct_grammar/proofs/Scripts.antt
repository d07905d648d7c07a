-- A text has no fault if and only if it spells a static script, and it spells at most one script.
use Rattle.pct_names.proofs.Names.{and_from, and_parts, ap, are_in_functions, AreContents, Bool-set, checks, Contents, contents_of, Fault}
use Rattle.pct_names.proofs.Names.{first_fault, functions_in, is_none, is_some, is_static, Line, List, list_all, name_twice, nesting}
use Rattle.pct_names.proofs.Names.{no_main, None, not_plain, Option, option_or, parsed, parsed_lines, refl, return_in_push, roles, Script}
use Rattle.pct_names.proofs.Names.{Some, spelled_lines, spelling, Spells, SpellsContents, subst, sym, too_many, true, unknown_name, ℕ, ◌∙◌}
use Rattle.pct_names.proofs.Names.{◌≡◌}
use Rattle.pct_model.proofs.StaticFacts.{PassesAll, passes_all, static_from}
use Rattle.pct_grammar.specs.Resolving.{resolve_contents}
use Rattle.pct_grammar.proofs.SharedWords.{EachParsed}
use Rattle.pct_grammar.proofs.Declared.{main_law}
use Rattle.pct_grammar.proofs.OptionFacts.{or_none, none_is}
use Rattle.pct_grammar.proofs.LimitLaw.{limits_law}
use Rattle.pct_grammar.proofs.Misspelled.{spelling_or_parsed}
use Rattle.pct_grammar.proofs.NestingLaw.{section_nests, nesting_by_sections, nesting_law}
use Rattle.pct_grammar.proofs.NamesDeclaredOnce.{once_law}
use Rattle.pct_grammar.proofs.PlainFunctions.{plain_law}
use Rattle.pct_grammar.proofs.Roles.{returns_law}
use Rattle.pct_grammar.proofs.ParsedFromWords.{parsed_lines_are_parsed}
use Rattle.pct_grammar.proofs.NamesResolve.{unknown_law, contents_are, known_law, one_law}
use Rattle.pct_grammar.proofs.HasText.{has_text_law}

-- ---- nothing among faults

something : {A : Type 0} (o : Option A) → is_some o ≡ true → (x : A) × (o ≡ Some x)
something None e = absurd cc
something (Some x) e = (x, refl)

-- no check finds a fault
record PassesChecks (lines : List Line) : Type 0 where
  nested : is_none (nesting (roles lines)) ≡ true
  limits : is_none (too_many lines) ≡ true
  once : is_none (name_twice lines) ≡ true
  known : is_none (unknown_name lines) ≡ true
  returns : is_none (return_in_push lines) ≡ true
  plain : is_none (not_plain lines) ≡ true
  main : is_none (no_main lines) ≡ true

none_of_two : (o other : Option Fault) → is_none o ≡ true → is_none other ≡ true → is_none (option_or o other) ≡ true
none_of_two o other first second = or_none o other ∙ and_from (is_none o) (is_none other) first second

both_none : (o other : Option Fault) → is_none (option_or o other) ≡ true → (is_none o ≡ true) × (is_none other ≡ true)
both_none o other none = and_parts (is_none o) (is_none other) (sym (or_none o other) ∙ none)

no_fault : (lines : List Line) → PassesChecks lines → is_none (checks lines) ≡ true
unfolding checks
no_fault lines p =
    let end = none_of_two (no_main lines) None p.main refl in
    let plain = none_of_two (not_plain lines) _ p.plain end in
    let returns = none_of_two (return_in_push lines) _ p.returns plain in
    let known = none_of_two (unknown_name lines) _ p.known returns in
    let once = none_of_two (name_twice lines) _ p.once known in
    let limits = none_of_two (too_many lines) _ p.limits once in
    none_of_two (nesting (roles lines)) _ p.nested limits

no_faults : (lines : List Line) → is_none (checks lines) ≡ true → PassesChecks lines
unfolding checks
no_faults lines none =
    let nested = both_none (nesting (roles lines)) _ none in
    let limits = both_none (too_many lines) _ nested.1 in
    let once = both_none (name_twice lines) _ limits.1 in
    let known = both_none (unknown_name lines) _ once.1 in
    let returns = both_none (return_in_push lines) _ known.1 in
    let plain = both_none (not_plain lines) _ returns.1 in
    let main = both_none (no_main lines) _ plain.1 in
    record { nested = nested.0; limits = limits.0; once = once.0; known = known.0; returns = returns.0; plain = plain.0; main = main.0 }

-- ---- from a script to its text

checks_of_static : (lines : List Line) (c : Contents) → AreContents lines c → PassesAll c → PassesChecks lines
checks_of_static lines c are p = record {
  nested = nesting_law lines c are ∙ p.nested;
  limits = limits_law lines c are ∙ p.limits;
  once = once_law lines c are ∙ p.once;
  known = known_law lines c are;
  returns = returns_law lines c are ∙ p.returns;
  plain = plain_law lines c are ∙ p.plain;
  main = main_law lines c are ∙ p.main;
}

-- a text that spells the contents of a static script has no fault
contents_are_faultless : (text : List ℕ) (c : Contents) → SpellsContents text c → is_static c ≡ true → first_fault text ≡ None
unfolding first_fault
contents_are_faultless text c spells static =
    let spelled = spelling_or_parsed text ∙ spells.each_says in
    let checked = no_fault (parsed_lines text) (checks_of_static (parsed_lines text) c spells.are_contents (passes_all c static)) in
    none_is _ (none_of_two (spelling (spelled_lines text)) _ spelled (none_of_two (checks (parsed_lines text)) None checked refl))

-- a text that spells a script has no fault
pub spelled_is_faultless : (text : List ℕ) (script : Script) → Spells text script → first_fault text ≡ None
spelled_is_faultless text script spells = contents_are_faultless text (contents_of script) spells script.passes_checks

-- ---- from a text to its script

static_of_checks : (lines : List Line) (c : Contents) → EachParsed lines → AreContents lines c → PassesChecks lines → PassesAll c
static_of_checks lines c parsed are p = record {
  text = has_text_law lines c parsed are;
  nested = sym (nesting_law lines c are) ∙ p.nested;
  limits = sym (limits_law lines c are) ∙ p.limits;
  once = sym (once_law lines c are) ∙ p.once;
  returns = sym (returns_law lines c are) ∙ p.returns;
  plain = sym (plain_law lines c are) ∙ p.plain;
  main = sym (main_law lines c are) ∙ p.main;
}

-- what a text without a fault spells
pub record SpellsStatic (text : List ℕ) (c : Contents) : Type 0 where
  pub spells : SpellsContents text c
  pub static : is_static c ≡ true

in_functions : (lines : List Line) → PassesChecks lines → are_in_functions lines ≡ true
in_functions lines p = (and_parts (are_in_functions lines) (list_all section_nests (functions_in lines)) (sym (nesting_by_sections lines) ∙ p.nested)).0

-- the contents resolved from a text without a fault are those that it spells, and they are static
pub read_is_spelled : (text : List ℕ) (c : Contents) → first_fault text ≡ None → resolve_contents (parsed_lines text) ≡ Some c → SpellsStatic text c
unfolding first_fault
read_is_spelled text c faultless read =
    let none = both_none (spelling (spelled_lines text)) _ (ap is_none faultless) in
    let p = no_faults (parsed_lines text) (both_none (checks (parsed_lines text)) None none.1).0 in
    let parsed = parsed_lines_are_parsed text in
    let are = contents_are (parsed_lines text) c parsed (in_functions (parsed_lines text) p) read in
    record {
      spells = record { each_says = sym (spelling_or_parsed text) ∙ none.0; are_contents = are };
      static = static_from c (static_of_checks (parsed_lines text) c parsed are p);
    }

known_is_read : (text : List ℕ) → first_fault text ≡ None → (c : Contents) × (resolve_contents (parsed_lines text) ≡ Some c)
unfolding first_fault
known_is_read text faultless =
    let none = both_none (spelling (spelled_lines text)) _ (ap is_none faultless) in
    let p = no_faults (parsed_lines text) (both_none (checks (parsed_lines text)) None none.1).0 in
    something (resolve_contents (parsed_lines text)) (sym (unknown_law (parsed_lines text)) ∙ p.known)

-- the script of static contents
abbrev pub script_of : (c : Contents) → is_static c ≡ true → Script
script_of c static = record { globals = c.globals; mutexes = c.mutexes; conds = c.conds; sems = c.sems; onces = c.onces; funcs = c.funcs; passes_checks = static }

spelled_as : (text : List ℕ) (c : Contents) → SpellsStatic text c → (script : Script) × Spells text script
spelled_as text c spells = (script_of c spells.static, spells.spells)

-- a text without a fault spells a script
pub faultless_is_spelled : (text : List ℕ) → first_fault text ≡ None → (script : Script) × Spells text script
faultless_is_spelled text faultless =
    let read = known_is_read text faultless in
    spelled_as text read.0 (read_is_spelled text read.0 faultless read.1)

-- ---- one script

same_static : (c d : Contents) (one : is_static c ≡ true) (other : is_static d ≡ true) → c ≡ d → script_of c one ≡ script_of d other
same_static c d one other same =
    subst (λ (e : Contents). (static : is_static e ≡ true) → script_of c one ≡ script_of e static) same
    (λ static. ap (script_of c) (Bool-set _ _ one static)) other

-- a text spells at most one script
pub spells_one_script : (text : List ℕ) (script other : Script) → Spells text script → Spells text other → script ≡ other
spells_one_script text script other one also =
    same_static (contents_of script) (contents_of other) script.passes_checks other.passes_checks
    (one_law (parsed_lines text) (contents_of script) (contents_of other) one.are_contents also.are_contents)
