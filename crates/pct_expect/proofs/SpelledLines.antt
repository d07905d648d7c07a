-- The lines of a text that spell something, line by line.
use Rattle.pct_names.proofs.Names.{◌+◌, [], ap, Bool, cond, enumerate_from, false, filter, lines_of, List, Numbered, refl, spell_something, spelled_lines}
use Rattle.pct_names.proofs.Names.{true, words_in, ℕ, ◌∙◌, ◌∷◌, ◌≡◌}
use Rattle.pct_text.proofs.Lines.{lines_of-nil}
use Rattle.pct_expect.specs.SpelledLines.{spelled_from}

pub from_first_line : (text : List ℕ) → spelled_from 1 text ≡ spelled_lines text
unfolding spelled_from spelled_lines
from_first_line text = refl

pub none_spelled : (n : ℕ) (text : List ℕ) → text ≡ [] → spelled_from n text ≡ []
unfolding spelled_from
none_spelled n text e = ap (λ (lines : List (List ℕ)). filter {X = Numbered (List ℕ)} (λ l. spell_something (words_in l.1)) (enumerate_from n lines)) (ap lines_of e ∙ lines_of-nil)

one_line : (n : ℕ) (text line after : List ℕ) → lines_of text ≡ line ∷ lines_of after
    → spelled_from n text ≡ cond (spell_something (words_in line)) ((n, line) ∷ spelled_from (n + 1) after) (spelled_from (n + 1) after)
unfolding spelled_from
one_line n text line after e = ap (λ (lines : List (List ℕ)). filter {X = Numbered (List ℕ)} (λ l. spell_something (words_in l.1)) (enumerate_from n lines)) e

pub spelled_first : (n : ℕ) (text line after : List ℕ) → lines_of text ≡ line ∷ lines_of after → spell_something (words_in line) ≡ true → spelled_from n text ≡ (n, line) ∷ spelled_from (n + 1) after
spelled_first n text line after e is =
    one_line n text line after e ∙ ap (λ (t : Bool). cond t ((n, line) ∷ spelled_from (n + 1) after) (spelled_from (n + 1) after)) is

pub spelled_later : (n : ℕ) (text line after : List ℕ) → lines_of text ≡ line ∷ lines_of after → spell_something (words_in line) ≡ false → spelled_from n text ≡ spelled_from (n + 1) after
spelled_later n text line after e is =
    one_line n text line after e ∙ ap (λ (t : Bool). cond t ((n, line) ∷ spelled_from (n + 1) after) (spelled_from (n + 1) after)) is
