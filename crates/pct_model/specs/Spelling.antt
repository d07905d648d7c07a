-- The first check of a script's text: spelling. Each line that spells something has to parse.
use Rattle.std.specs.Prelude.{ℕ, Bool, false, if◌then◌else◌, List, [], ◌∷◌, length, map, Option, Some, None, is_some, nat_eq, option_map}
use Rattle.std.specs.List.{list_all}
use Rattle.std.specs.Option.{option_or, option_map_or}
use Rattle.pct_model.specs.declared.line_kind.ArgumentKind.{ArgumentKind}
use Rattle.pct_model.specs.declared.line_kind.ArgumentKind.TheVariants as argument_kind
use Rattle.pct_model.specs.declared.refusal.ParseWhy.{ParseWhy}
use Rattle.pct_model.specs.declared.refusal.ParseWhy.TheVariants.{NotAscii, UnknownWord, WordCount, BadNumber, BadName}
use Rattle.pct_model.specs.Names.{is_digit}
use Rattle.pct_model.specs.LineKinds.{syntax_of, line_kind_of}
use Rattle.pct_model.specs.LineParsing.{Numbered, is_allowed, words_in, token_at}

-- a fault: the number of the line that is refused, and the reason
abbrev pub Fault : Type 0
Fault = Numbered ParseWhy

-- the first value that is present
abbrev pub first_of : {A : Type 0} → List (Option A) → Option A
first_of [] = None
first_of (o ∷ others) = option_or o (first_of others)

-- ---- a word

-- the word begins with a digit
abbrev pub begins_with_digit : List ℕ → Bool
begins_with_digit [] = false
begins_with_digit (b ∷ bytes) = is_digit b

-- the reason to refuse a word that is not a number where a number is allowed
abbrev pub not_a_number : List ℕ → ParseWhy
not_a_number w = if begins_with_digit w then BadNumber else BadName

-- the reason to refuse a word as an argument of a given kind
unfoldable pub why_not : ArgumentKind → List ℕ → ParseWhy
why_not argument_kind.Declared w = BadName
why_not argument_kind.Local w = BadName
why_not argument_kind.Count w = not_a_number w
why_not argument_kind.Operand w = not_a_number w
why_not argument_kind.Variable w = BadName
why_not argument_kind.Dest w = BadName
why_not (argument_kind.Item k) w = BadName
why_not argument_kind.OptionalFunction w = BadName
why_not argument_kind.PlainFunction w = BadName
why_not argument_kind.OptionalPlainFunction w = BadName
why_not argument_kind.State w = UnknownWord
why_not argument_kind.Mode w = UnknownWord
why_not argument_kind.Detached w = UnknownWord

-- the reason to refuse the first word, from the left, that is no argument of its kind
unfoldable pub faulty_word : List ArgumentKind → List (List ℕ) → Option ParseWhy
faulty_word [] words = None
faulty_word (p ∷ argument_kinds) [] = None
faulty_word (p ∷ argument_kinds) (w ∷ words) = if is_some (token_at p w) then faulty_word argument_kinds words else Some (why_not p w)

-- ---- a line

-- the reason to refuse a line's arguments: their number is wrong, or else one of them is
unfoldable pub fault_at : List ArgumentKind → List (List ℕ) → Option ParseWhy
fault_at argument_kinds words = if nat_eq (length words) (length argument_kinds) then faulty_word argument_kinds words else Some WordCount

-- the reason to refuse a line's words: the keyword is unknown, or else the arguments are wrong
unfoldable pub fault_of_words : List (List ℕ) → Option ParseWhy
fault_of_words [] = None
fault_of_words (w ∷ words) = option_map_or (λ f. fault_at ((syntax_of f).argument_kinds (length words)) words) (line_kind_of w) (Some UnknownWord)

-- the reason to refuse a line that spells something, if there is one: a byte that is not allowed comes first
unfoldable pub misspelled : List ℕ → Option ParseWhy
misspelled bytes = if list_all is_allowed bytes then fault_of_words (words_in bytes) else Some NotAscii

-- the check: the first line that is refused, and the reason
unfoldable pub spelling : List (Numbered (List ℕ)) → Option Fault
spelling lines = first_of (map (λ l. option_map (λ why. (l.0, why)) (misspelled l.1)) lines)
