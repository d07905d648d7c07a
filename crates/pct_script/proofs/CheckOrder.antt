-- The order of checks: the first fault of a text is that of the first check that finds one.
use Rattle.pct_names.proofs.Names.{and_parts, ap, are_in_functions, checks, Fault, first_fault, functions_in, is_none, List, list_all}
use Rattle.pct_names.proofs.Names.{name_twice, nesting, no_main, None, not_plain, Option, option_or, parsed_lines, refl, return_in_push}
use Rattle.pct_names.proofs.Names.{roles, Some, spelled_lines, spelling, sym, too_many, true, unknown_name, ℕ, ◌∙◌, ◌≡◌}
use Rattle.pct_script_lines.specs.declared.fault.ParseFault.{ParseFault}
use Rattle.pct_script_lines.specs.declared.fault.ParseFault.TheVariants as fault
use Rattle.pct_script_lines.specs.Fault.{IsFoundBy, IsFaultOf}
use Rattle.pct_script.specs.Order.{early_fault, late_fault, last_fault, fault_in_order}
use Rattle.pct_script_lines.specs.SectionSteps.{is_ready}
use Rattle.pct_grammar.proofs.NestingLaw.{section_nests, nesting_by_sections}
use Rattle.pct_script_lines.proofs.LimitsMakeReady.{are_ready}
use Rattle.pct_grammar.proofs.ParsedFromWords.{parsed_lines_are_parsed}

-- after the last check there is no fault
alone : (o : Option Fault) → option_or o None ≡ o
alone None = refl
alone (Some f) = refl

-- ---- all checks

grouped : (s n t late : Option Fault) → option_or (option_or s (option_or n (option_or t None))) late ≡ option_or s (option_or (option_or n (option_or t late)) None)
grouped None None None late = sym (alone late)
grouped _ _ _ late = refl

-- the first fault of a text is the first in the order of the checks
pub in_order : (text : List ℕ) → fault_in_order text ≡ first_fault text
unfolding fault_in_order early_fault late_fault last_fault checks first_fault
in_order text =
    let lines = parsed_lines text in
    grouped (spelling (spelled_lines text)) (nesting (roles lines)) (too_many lines)
    (option_or (name_twice lines) (option_or (unknown_name lines) (option_or (return_in_push lines) (option_or (not_plain lines) (option_or (no_main lines) None)))))

-- the first fault in the order of the checks is the first fault of the text
pub is_fault : (text : List ℕ) (e : ParseFault) → IsFoundBy (fault_in_order text) e → IsFaultOf text e
is_fault text fault.NoMemory found = tt
is_fault text (fault.Refused line why) found = sym (in_order text) ∙ found

-- ---- after the first checks

pub both_nothing : (o rest : Option Fault) → option_or o rest ≡ None → (o ≡ None) × (rest ≡ None)
both_nothing None rest none = (refl, none)
both_nothing (Some f) rest none = absurd cc

-- if the first checks find no fault, all statements are in functions, and no limit is exceeded
pub record IsChecked (text : List ℕ) : Type 0 where
  pub in_functions : are_in_functions (parsed_lines text) ≡ true
  pub ready : list_all is_ready (parsed_lines text) ≡ true

pub is_checked : (text : List ℕ) → early_fault text ≡ None → IsChecked text
unfolding early_fault
is_checked text none =
    let lines = parsed_lines text in
    let spelled = both_nothing (spelling (spelled_lines text)) _ none in
    let nested = both_nothing (nesting (roles lines)) _ spelled.1 in
    let limits = both_nothing (too_many lines) None nested.1 in
    record {
      in_functions = (and_parts (are_in_functions lines) (list_all section_nests (functions_in lines)) (sym (nesting_by_sections lines) ∙ ap is_none nested.0)).0;
      ready = are_ready lines (parsed_lines_are_parsed text) limits.0;
    }
