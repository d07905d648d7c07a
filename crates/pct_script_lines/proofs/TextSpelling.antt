-- The lines of a text that spell something, line by line, and their spelling.
use Rattle.pct_names.proofs.Names.{◌+◌, [], ap, Bool, cond, enumerate_from, false, Fault, filter, lines_of, List, misspelled, None}
use Rattle.pct_names.proofs.Names.{Numbered, Option, option_map, option_or, ParseWhy, refl, Some, spell_something, spelled_lines, spelling}
use Rattle.pct_names.proofs.Names.{true, words_in, ℕ, ◌∙◌, ◌∷◌, ◌≡◌}
use Rattle.pct_text.proofs.Lines.{lines_of-nil}
use Rattle.pct_script_lines.specs.declared.fault.ParseFault.{ParseFault}
use Rattle.pct_script_lines.specs.declared.fault.ParseFault.TheVariants as fault
use Rattle.pct_script_lines.specs.Fault.{IsFoundBy}
use Rattle.pct_script_lines.specs.SpelledLines.{spelled_from}

-- ---- the lines that spell something

pub from_first_line : (text : List ℕ) → spelled_from 1 text ≡ spelled_lines text
unfolding spelled_from spelled_lines
from_first_line text = refl

pub none_spelled : (n : ℕ) (text : List ℕ) → text ≡ [] → spelled_from n text ≡ []
unfolding spelled_from
none_spelled n text e = ap (λ (lines : List (List ℕ)). filter {X = Numbered (List ℕ)} (λ l. spell_something (words_in l.1)) (enumerate_from n lines)) (ap lines_of e ∙ lines_of-nil)

one_line : (n : ℕ) (text line after : List ℕ) → lines_of text ≡ line ∷ lines_of after
    → spelled_from n text ≡ cond (spell_something (words_in line)) ((n, line) ∷ spelled_from (n + 1) after) (spelled_from (n + 1) after)
unfolding spelled_from
one_line n text line after e = ap (λ (lines : List (List ℕ)). filter {X = Numbered (List ℕ)} (λ l. spell_something (words_in l.1)) (enumerate_from n lines)) e

pub spelled_first : (n : ℕ) (text line after : List ℕ) → lines_of text ≡ line ∷ lines_of after → spell_something (words_in line) ≡ true → spelled_from n text ≡ (n, line) ∷ spelled_from (n + 1) after
spelled_first n text line after e is =
    one_line n text line after e ∙ ap (λ (t : Bool). cond t ((n, line) ∷ spelled_from (n + 1) after) (spelled_from (n + 1) after)) is

pub spelled_later : (n : ℕ) (text line after : List ℕ) → lines_of text ≡ line ∷ lines_of after → spell_something (words_in line) ≡ false → spelled_from n text ≡ spelled_from (n + 1) after
spelled_later n text line after e is =
    one_line n text line after e ∙ ap (λ (t : Bool). cond t ((n, line) ∷ spelled_from (n + 1) after) (spelled_from (n + 1) after)) is

-- ---- their spelling

one_spelled : (n : ℕ) (line : List ℕ) (lines : List (Numbered (List ℕ))) → spelling ((n, line) ∷ lines) ≡ option_or (option_map {U = Fault} (λ why. (n, why)) (misspelled line)) (spelling lines)
unfolding spelling
one_spelled n line lines = refl

pub misspelled_first : (n : ℕ) (line : List ℕ) (lines : List (Numbered (List ℕ))) (why : ParseWhy) → misspelled line ≡ Some why → spelling ((n, line) ∷ lines) ≡ Some (n, why)
misspelled_first n line lines why e = one_spelled n line lines ∙ ap (λ (o : Option ParseWhy). option_or (option_map {U = Fault} (λ w. (n, w)) o) (spelling lines)) e

pub spelled_right : (n : ℕ) (line : List ℕ) (lines : List (Numbered (List ℕ))) → misspelled line ≡ None → spelling ((n, line) ∷ lines) ≡ spelling lines
spelled_right n line lines e = one_spelled n line lines ∙ ap (λ (o : Option ParseWhy). option_or (option_map {U = Fault} (λ w. (n, w)) o) (spelling lines)) e

-- the fault of a line is the first fault
pub fault_first : (n : ℕ) (line : List ℕ) (lines : List (Numbered (List ℕ))) (e : ParseFault) → IsFoundBy (option_map {U = Fault} (λ why. (n, why)) (misspelled line)) e → IsFoundBy (spelling ((n, line) ∷ lines)) e
fault_first n line lines fault.NoMemory found = tt
fault_first n line lines (fault.Refused m why) found = one_spelled n line lines ∙ ap (λ (o : Option Fault). option_or o (spelling lines)) found

-- a line without a fault is skipped
pub fault_later : (n : ℕ) (line : List ℕ) (lines : List (Numbered (List ℕ))) → option_map {U = Fault} (λ why. (n, why)) (misspelled line) ≡ None → spelling ((n, line) ∷ lines) ≡ spelling lines
fault_later n line lines none = one_spelled n line lines ∙ ap (λ (o : Option Fault). option_or o (spelling lines)) none

pub none_misspelled : spelling [] ≡ None
unfolding spelling
none_misspelled = refl
