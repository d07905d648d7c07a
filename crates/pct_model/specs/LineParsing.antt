-- Parsing one line of a script: its words, their tokens, and the line that they make.
use Rattle.std.specs.Prelude.{ℕ, Bool, true, false, not, ◌&&◌, ◌||◌, if◌then◌else◌, List, [], ◌∷◌, length, filter, Option, Some, None, nat_eq, nat_le, codes, bytes_eq, option_map}
use Rattle.std.specs.List.{list_all, slice_split, enumerate_from}
use Rattle.std.specs.Option.{option_or}
use Rattle.std.specs.Str.Parse.{digits_value}
use Rattle.pct_model.specs.declared.line_kind.LineKind.{LineKind}
use Rattle.pct_model.specs.declared.line_kind.ArgumentKind.{ArgumentKind}
use Rattle.pct_model.specs.declared.line_kind.ArgumentKind.TheVariants as argument_kind
use Rattle.pct_model.specs.declared.parsed_line.ParsedLine.{ParsedLine}
use Rattle.pct_model.specs.declared.parsed_line.Token.{Token}
use Rattle.pct_model.specs.declared.parsed_line.Token.TheVariants as token
use Rattle.pct_model.specs.declared.limits.TheConstants.{MAX_COUNT}
use Rattle.pct_model.specs.Names.{is_digit, is_name}
use Rattle.pct_model.specs.Lines.{◌>>=◌, lines_of}
use Rattle.pct_model.specs.LineKinds.{syntax_of, line_kind_of}

-- ---- words

-- HT (byte 9), CR (byte 13) or a space
abbrev pub is_blank : ℕ → Bool
is_blank b = nat_eq b 9 || nat_eq b 13 || nat_eq b 32

-- the list has no items
abbrev pub is_empty : {A : Type 0} → List A → Bool
is_empty [] = true
is_empty (x ∷ xs) = false

-- the words of a line: the longest runs of bytes that are not blanks
unfoldable pub words_in : List ℕ → List (List ℕ)
words_in bytes = filter (λ w. not (is_empty w)) (slice_split is_blank bytes)

-- ---- lines

-- the word begins with `#`
abbrev pub begins_comment : List ℕ → Bool
begins_comment [] = false
begins_comment (b ∷ bytes) = nat_eq b 35

-- the words spell something: there is a first word, and it does not begin with `#`
abbrev pub spell_something : List (List ℕ) → Bool
spell_something [] = false
spell_something (w ∷ words) = not (begins_comment w)

-- an item, and the number of its line
abbrev pub Numbered : Type 0 → Type 0
Numbered A = ℕ × A

-- the lines of a text that spell something, with their numbers; a text's lines are numbered from 1
unfoldable pub spelled_lines : List ℕ → List (Numbered (List ℕ))
spelled_lines text = filter (λ l. spell_something (words_in l.1)) (enumerate_from 1 (lines_of text))

-- ---- tokens

-- 1 to 10 digits, with a value of at most 4294967295; leading zeros are allowed
abbrev pub is_numeral : List ℕ → Bool
is_numeral w = not (is_empty w) && list_all is_digit w && nat_le (length w) 10 && nat_le (digits_value 10 w) 4294967295

-- the value of a word that is a number
unfoldable pub numeral : List ℕ → Option ℕ
numeral w = if is_numeral w then Some (digits_value 10 w) else None

-- the token of a number
abbrev pub number : List ℕ → Option Token
number w = option_map (λ n. token.Number n) (numeral w)

-- the token of a name
abbrev pub name : List ℕ → Option Token
name w = if is_name w then Some (token.Name w) else None

-- the token of `-`
abbrev pub hyphen : List ℕ → Option Token
hyphen w = if bytes_eq w (codes "-") then Some token.Nothing else None

-- the token of a fixed word, with the flag that the word sets or clears
abbrev pub flag : List ℕ → Bool → List ℕ → Option Token
flag this is_set w = if bytes_eq w this then Some (token.Flag is_set) else None

-- the token of a semaphore's initial count, which is at most 32767
abbrev pub initial_count : List ℕ → Option Token
initial_count w = numeral w >>= λ n. if nat_le n MAX_COUNT then Some (token.Number n) else None

-- the token of a word as an argument of a given kind
unfoldable pub token_at : ArgumentKind → List ℕ → Option Token
token_at argument_kind.Declared w = name w
token_at argument_kind.Local w = name w
token_at argument_kind.Count w = initial_count w
token_at argument_kind.Operand w = option_or (number w) (name w)
token_at argument_kind.Variable w = name w
token_at argument_kind.Dest w = option_or (hyphen w) (name w)
token_at (argument_kind.Item k) w = name w
token_at argument_kind.OptionalFunction w = option_or (hyphen w) (name w)
token_at argument_kind.PlainFunction w = name w
token_at argument_kind.OptionalPlainFunction w = option_or (hyphen w) (name w)
token_at argument_kind.State w = option_or (flag (codes "enable") true w) (flag (codes "disable") false w)
token_at argument_kind.Mode w = option_or (flag (codes "asynchronous") true w) (flag (codes "deferred") false w)
token_at argument_kind.Detached w = flag (codes "detached") true w

-- the tokens of words as arguments of the given kinds, one word for each kind
unfoldable pub tokens_at : List ArgumentKind → List (List ℕ) → Option (List Token)
tokens_at [] [] = Some []
tokens_at [] (w ∷ words) = None
tokens_at (p ∷ argument_kinds) [] = None
tokens_at (p ∷ argument_kinds) (w ∷ words) = do
  parsed ← token_at p w
  option_map (λ others. parsed ∷ others) (tokens_at argument_kinds words)

-- ---- the parse of a line

-- a blank, or a byte from 33 to 126
abbrev pub is_allowed : ℕ → Bool
is_allowed b = is_blank b || nat_le 33 b && nat_le b 126

-- the line of a given kind with these words as its arguments
abbrev pub parsed_as : LineKind → List (List ℕ) → Option ParsedLine
parsed_as f words = option_map (λ parsed. record { line_kind = f; tokens = parsed }) (tokens_at ((syntax_of f).argument_kinds (length words)) words)

-- the line with these words: the first is its keyword, the others are its arguments
unfoldable pub parsed_words : List (List ℕ) → Option ParsedLine
parsed_words [] = None
parsed_words (w ∷ words) = line_kind_of w >>= λ f. parsed_as f words

-- the parse of a line's bytes
unfoldable pub parsed : List ℕ → Option ParsedLine
parsed bytes = if list_all is_allowed bytes then parsed_words (words_in bytes) else None
