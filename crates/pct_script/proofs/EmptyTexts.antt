-- The fault of a text without a line that spells something, and what the first three checks say of spelling.
use Rattle.pct_names.proofs.Names.{[], ap, Err, Fault, filter_map, first_of, first_wrong, IfErr, List, name_twice, nesting, nesting_in}
use Rattle.pct_names.proofs.Names.{no_main, NoMain, None, not_plain, Numbered, Ok, Option, option_or, parsed_lines, parsed_numbered, refl}
use Rattle.pct_names.proofs.Names.{Result, return_in_push, roles, Some, spelled_lines, spelling, split_sections, too_many, unknown_name, ℕ}
use Rattle.pct_names.proofs.Names.{◌∙◌, ◌∷◌, ◌≡◌}
use Rattle.pct_script.proofs.CheckOrder.{both_nothing}
use Rattle.pct_script_lines.specs.declared.fault.ParseFault.{ParseFault}
use Rattle.pct_script_lines.specs.declared.fault.ParseFault.TheVariants.{NoMemory}
use Rattle.pct_script.specs.Order.{early_fault, last_fault, late_fault, fault_in_order}

-- the first fault, by the lines that spell something
abbrev fault_of_lines : List (Numbered (List ℕ)) → Option Fault
fault_of_lines lines =
    let parsed = filter_map parsed_numbered lines in
    option_or (first_of (spelling lines ∷ nesting (roles parsed) ∷ too_many parsed ∷ [])) (late_fault parsed)

no_lines : fault_of_lines [] ≡ Some (1, NoMain)
unfolding late_fault last_fault name_twice unknown_name return_in_push not_plain no_main first_wrong split_sections spelling nesting_in too_many
no_lines = refl

-- a text without a line that spells something has no `main`
pub empty_fault : (text : List ℕ) → spelled_lines text ≡ [] → fault_in_order text ≡ Some (1, NoMain)
unfolding fault_in_order early_fault parsed_lines
empty_fault text none = ap fault_of_lines none ∙ no_lines

-- if the first three checks find no fault, no line is misspelled
spelled_if : (text : List ℕ) → early_fault text ≡ None → spelling (spelled_lines text) ≡ None
unfolding early_fault
spelled_if text none = (both_nothing (spelling (spelled_lines text)) _ none).0

pub spelled_unless : {X : Type 0} (text : List ℕ) (result : Result X ParseFault) → early_fault text ≡ None → IfErr result (λ fault. fault ≡ NoMemory → spelling (spelled_lines text) ≡ None)
spelled_unless text (Ok x) none = tt
spelled_unless text (Err e) none = λ _. spelled_if text none
