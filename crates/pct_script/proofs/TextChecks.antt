-- The checks of spelling, nesting and limits: facts on the stored lines, and which fault is the first.
use Rattle.pct_names.proofs.Names.{◌++◌, [], and_parts, ap, Fault, fault_at_line, filter_map, is_none, is_some, Line, List, list_all}
use Rattle.pct_names.proofs.Names.{misspelled, nesting, None, Numbered, Option, option_map, option_or, parsed, parsed_lines}
use Rattle.pct_names.proofs.Names.{parsed_numbered, refl, roles, same_Some, Some, spelled_lines, spelling, subst, sym, too_many, TooMany}
use Rattle.pct_names.proofs.Names.{true, ℕ, ◌∙◌, ◌∷◌, ◌≡◌}
use Rattle.std.specs.Prelude.{option_to_list}
use Rattle.pct_script_lines.specs.declared.fault.ParseFault.{ParseFault}
use Rattle.pct_script_lines.specs.declared.fault.ParseFault.TheVariants as fault
use Rattle.pct_script_lines.specs.Fault.{IsFoundBy}
use Rattle.pct_script.specs.Order.{early_fault}
use Rattle.pct_script_lines.specs.Outlines.{outlines_of}
use Rattle.pct_script_lines.specs.LineCounts.{none_yet, limit_in}
use Rattle.pct_script_lines.proofs.ParsedLines.{line_kept}
use Rattle.pct_script_lines.proofs.LineLimits.{limit_of_text}
use Rattle.pct_script_lines.proofs.TextSpelling.{fault_first, fault_later}
use Rattle.pct_grammar.proofs.Misspelled.{spelling_or_parsed}

-- no line of the text is misspelled, and these are the parsed lines
abbrev pub AreStored : List ℕ → List Line → Type 0
AreStored text lines = (spelling (spelled_lines text) ≡ None) × (Some (parsed_lines text) ≡ Some lines)

-- the stored lines and the lines left are those of the text, and the first misspelled line is among the lines left
pub record IsStored (text : List ℕ) (prefix : List Line) (left : List (Numbered (List ℕ))) : Type 0 where
  pub lines : prefix ++ filter_map parsed_numbered left ≡ parsed_lines text
  pub spelling : spelling (spelled_lines text) ≡ spelling left
  pub all : list_all (λ l. is_some (parsed l.1)) (spelled_lines text) ≡ true → list_all (λ l. is_some (parsed l.1)) left ≡ true

-- before the first line
pub none_stored : (text : List ℕ) → IsStored text [] (spelled_lines text)
unfolding parsed_lines
none_stored text = record { lines = refl; spelling = refl; all = λ are. are }

-- after one more line
pub one_stored : (text : List ℕ) (prefix : List Line) (l : Numbered (List ℕ)) (left : List (Numbered (List ℕ))) → IsStored text prefix (l ∷ left)
    → option_map {U = Fault} (λ why. (l.0, why)) (misspelled l.1) ≡ None → IsStored text (prefix ++ option_to_list (parsed_numbered l)) left
one_stored text prefix l left gone none = record {
  lines = sym (line_kept prefix l left) ∙ gone.lines;
  spelling = gone.spelling ∙ fault_later l.0 l.1 left none;
  all = λ are. (and_parts (is_some (parsed l.1)) (list_all (λ (m : Numbered (List ℕ)). is_some (parsed m.1)) left) (gone.all are)).1;
}

-- the fault of the first line left is the first fault
pub found_in_line : (text : List ℕ) (prefix : List Line) (l : Numbered (List ℕ)) (left : List (Numbered (List ℕ))) (e : ParseFault) → IsStored text prefix (l ∷ left)
    → IsFoundBy (option_map {U = Fault} (λ why. (l.0, why)) (misspelled l.1)) e → IsFoundBy (spelling (spelled_lines text)) e
found_in_line text prefix l left e gone found = subst (λ check. IsFoundBy check e) (sym gone.spelling) (fault_first l.0 l.1 left e found)

-- if no line left is misspelled, each of them parses
pub left_are_parsed : (text : List ℕ) (prefix : List Line) (left : List (Numbered (List ℕ))) → IsStored text prefix left → spelling left ≡ None → list_all (λ l. is_some (parsed l.1)) left ≡ true
left_are_parsed text prefix left gone none = gone.all (sym (spelling_or_parsed text) ∙ ap is_none (gone.spelling ∙ none))

-- the first fault of the checks after spelling, of stored lines
abbrev fault_of_stored : List Line → Option Fault
fault_of_stored lines = option_or (nesting (roles lines)) (option_or (fault_at_line TooMany (limit_in none_yet (outlines_of lines))) None)

early_is : (text : List ℕ) (lines : List Line) → AreStored text lines → early_fault text ≡ fault_of_stored lines
unfolding early_fault
early_is text lines kept =
    let all = parsed_lines text in
    ap (λ (s : Option Fault). option_or s (option_or (nesting (roles all)) (option_or (too_many all) None))) kept.0
    ∙ ap (λ (t : Option Fault). option_or (nesting (roles all)) (option_or t None)) (sym (limit_of_text text)) ∙ ap fault_of_stored (same_Some all lines kept.1)

-- the check of nesting finds the first fault
pub nests_wrong : (text : List ℕ) (lines : List Line) (e : ParseFault) → AreStored text lines → IsFoundBy (nesting (roles lines)) e → IsFoundBy (early_fault text) e
nests_wrong text lines fault.NoMemory kept found = tt
nests_wrong text lines (fault.Refused line why) kept found =
    early_is text lines kept ∙ ap (λ (n : Option Fault). option_or n (option_or (fault_at_line TooMany (limit_in none_yet (outlines_of lines))) None)) found

-- without a fault of nesting, the check of limits decides
limit_decides : (text : List ℕ) (lines : List Line) (limit found : Option Fault) → AreStored text lines → nesting (roles lines) ≡ None
    → limit ≡ fault_at_line TooMany (limit_in none_yet (outlines_of lines)) → limit ≡ found → early_fault text ≡ option_or found None
limit_decides text lines limit found kept nested is e =
    early_is text lines kept ∙ ap (λ (n : Option Fault). option_or n (option_or (fault_at_line TooMany (limit_in none_yet (outlines_of lines))) None)) nested
    ∙ ap (λ (t : Option Fault). option_or t None) (sym is ∙ e)

-- the check of limits finds the first fault
pub passes_a_limit : (text : List ℕ) (lines : List Line) (e : ParseFault) (limit : Option Fault) → AreStored text lines → nesting (roles lines) ≡ None
    → limit ≡ fault_at_line TooMany (limit_in none_yet (outlines_of lines)) → IsFoundBy limit e → IsFoundBy (early_fault text) e
passes_a_limit text lines fault.NoMemory limit kept nested is found = tt
passes_a_limit text lines (fault.Refused line why) limit kept nested is found = limit_decides text lines limit (Some (line, why)) kept nested is found

-- no check finds a fault
pub passes_all_three : (text : List ℕ) (lines : List Line) (read : List Line) (limit : Option Fault) → AreStored text lines → nesting (roles lines) ≡ None
    → limit ≡ fault_at_line TooMany (limit_in none_yet (outlines_of lines)) → limit ≡ None → read ≡ lines → (early_fault text ≡ None) × (Some (parsed_lines text) ≡ Some read)
passes_all_three text lines read limit kept nested is none reads =
    (limit_decides text lines limit None kept nested is none, ap (λ (ls : List Line). Some ls) (same_Some (parsed_lines text) lines kept.1 ∙ sym reads))
