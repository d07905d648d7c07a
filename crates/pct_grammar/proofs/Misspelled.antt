-- A line that spells something is misspelled, or it parses.
use Rattle.pct_names.proofs.Names.{◌&&◌, ◌>>=◌, [], and_parts, ap, ArgumentKind, arith, Bool, cond, enumerate_from, eqb-false, false, Fault}
use Rattle.pct_names.proofs.Names.{fault_at, fault_of_words, faulty_word, filter_passes, is_allowed, is_none, is_some, length, line_kind_of}
use Rattle.pct_names.proofs.Names.{LineKind, lines_of, List, list_all, list_all-from_AllPass, misspelled, nat_eq, None, NotAscii, Numbered}
use Rattle.pct_names.proofs.Names.{Option, option_map, option_map_or, parsed, parsed_as, parsed_words, ParsedLine, ParseWhy, refl, Some}
use Rattle.pct_names.proofs.Names.{spell_something, spelled_lines, spelling, sym, syntax_of, Token, token_at, tokens_at, true, UnknownWord}
use Rattle.pct_names.proofs.Names.{why_not, WordCount, words_in, ℕ, ◌∙◌, ◌∷◌, ◌≡◌}
use Rattle.std.proofs.Common.{eqb-true}
use Rattle.pct_grammar.proofs.TokensResolve.{words_at_lengths}
use Rattle.pct_grammar.proofs.FirstFaults.{first_of_none}
use Rattle.pct_grammar.proofs.OptionFacts.{mapped_some, mapped_none, none_is}

-- ---- words and argument kinds

one_word : (o : Option Token) (why : ParseWhy) (fault : Option ParseWhy) (others : Option (List Token)) → is_none fault ≡ is_some others
    → is_none (cond (is_some o) fault (Some why)) ≡ is_some (o >>= λ first. option_map (λ rest. first ∷ rest) others)
one_word None why fault others e = refl
one_word (Some parsed) why fault others e = e ∙ sym (mapped_some (λ (rest : List Token). parsed ∷ rest) others)

as_many : (argument_kinds : List ArgumentKind) (words : List (List ℕ)) → length words ≡ length argument_kinds → is_none (faulty_word argument_kinds words) ≡ is_some (tokens_at argument_kinds words)
unfolding faulty_word tokens_at
as_many [] [] e = refl
as_many (p ∷ argument_kinds) (w ∷ words) e =
    let fewer : length words ≡ length argument_kinds = omega arith in
    one_word (token_at p w) (why_not p w) (faulty_word argument_kinds words) (tokens_at argument_kinds words) (as_many argument_kinds words fewer)
as_many _ _ e = absurd (omega arith)

not_as_many : (argument_kinds : List ArgumentKind) (words : List (List ℕ)) (o : Option (List Token)) → tokens_at argument_kinds words ≡ o
    → nat_eq (length words) (length argument_kinds) ≡ false → false ≡ is_some o
not_as_many argument_kinds words (Some tokens) e other =
    absurd (eqb-false (length words) (length argument_kinds) other (words_at_lengths argument_kinds words tokens e).0)
not_as_many argument_kinds words None e other = refl

by_count : (argument_kinds : List ArgumentKind) (words : List (List ℕ)) (t : Bool) → nat_eq (length words) (length argument_kinds) ≡ t → is_none (cond t (faulty_word argument_kinds words) (Some WordCount)) ≡ is_some (tokens_at argument_kinds words)
by_count argument_kinds words true e = as_many argument_kinds words (eqb-true (length words) (length argument_kinds) e)
by_count argument_kinds words false e = not_as_many argument_kinds words (tokens_at argument_kinds words) refl e

fault_or_words : (argument_kinds : List ArgumentKind) (words : List (List ℕ)) → is_none (fault_at argument_kinds words) ≡ is_some (tokens_at argument_kinds words)
unfolding fault_at
fault_or_words argument_kinds words = by_count argument_kinds words (nat_eq (length words) (length argument_kinds)) refl

-- ---- a line

abbrev kinds_for : LineKind → List (List ℕ) → List ArgumentKind
kinds_for f words = (syntax_of f).argument_kinds (length words)

by_line_kind : (words : List (List ℕ)) (o : Option LineKind) → is_none (option_map_or (λ f. fault_at (kinds_for f words) words) o (Some UnknownWord)) ≡ is_some (o >>= λ f. parsed_as f words)
by_line_kind words None = refl
by_line_kind words (Some f) =
    fault_or_words (kinds_for f words) words ∙ sym (mapped_some {B = ParsedLine} (λ (parsed : List Token). record { line_kind = f; tokens = parsed }) (tokens_at (kinds_for f words) words))

by_words : (words : List (List ℕ)) → spell_something words ≡ true → is_none (fault_of_words words) ≡ is_some (parsed_words words)
unfolding fault_of_words parsed_words
by_words [] e = absurd cc
by_words (w ∷ words) e = by_line_kind words (line_kind_of w)

by_bytes : (words : List (List ℕ)) (t : Bool) → spell_something words ≡ true → is_none (cond t (fault_of_words words) (Some NotAscii)) ≡ is_some (cond t (parsed_words words) None)
by_bytes words true e = by_words words e
by_bytes words false e = refl

-- a line that spells something is not misspelled if and only if it parses
pub misspelled_or_parsed : (bytes : List ℕ) → spell_something (words_in bytes) ≡ true → is_none (misspelled bytes) ≡ is_some (parsed bytes)
unfolding misspelled parsed
misspelled_or_parsed bytes e = by_bytes (words_in bytes) (list_all is_allowed bytes) e

parses_words : (words : List (List ℕ)) → is_some (parsed_words words) ≡ true → is_none (fault_of_words words) ≡ true
unfolding fault_of_words parsed_words
parses_words [] is = absurd cc
parses_words (w ∷ words) is = by_line_kind words (line_kind_of w) ∙ is

parses_bytes : (words : List (List ℕ)) (t : Bool) → is_some (cond t (parsed_words words) None) ≡ true → is_none (cond t (fault_of_words words) (Some NotAscii)) ≡ true
parses_bytes words true is = parses_words words is
parses_bytes words false is = absurd cc

-- a line that parses is not misspelled
pub not_misspelled : (bytes : List ℕ) (s : ParsedLine) → parsed bytes ≡ Some s → misspelled bytes ≡ None
unfolding misspelled parsed
not_misspelled bytes s e = none_is _ (parses_bytes (words_in bytes) (list_all is_allowed bytes) (ap is_some e))

-- ---- the lines of a text

abbrev spells : Numbered (List ℕ) → Bool
spells l = spell_something (words_in l.1)

lines_spell : (text : List ℕ) → list_all spells (spelled_lines text) ≡ true
unfolding spelled_lines
lines_spell text = list_all-from_AllPass spells (spelled_lines text) (filter_passes spells (enumerate_from 1 (lines_of text)))

abbrev fault_of : Numbered (List ℕ) → Option Fault
fault_of l = option_map (λ why. (l.0, why)) (misspelled l.1)

each_line : (lines : List (Numbered (List ℕ))) → list_all spells lines ≡ true → list_all (λ (l : Numbered (List ℕ)). is_none (fault_of l)) lines ≡ list_all (λ (l : Numbered (List ℕ)). is_some (parsed l.1)) lines
each_line [] are = refl
each_line (l ∷ lines) are =
    let sections = and_parts (spells l) (list_all spells lines) are in
    let this : is_none (fault_of l) ≡ is_some (parsed l.1) = mapped_none {B = Fault} (λ (why : ParseWhy). (l.0, why)) (misspelled l.1) ∙ misspelled_or_parsed l.1 sections.0 in
    ap (λ (t : Bool). t && list_all (λ (m : Numbered (List ℕ)). is_none (fault_of m)) lines) this ∙ ap (λ (t : Bool). is_some (parsed l.1) && t) (each_line lines sections.1)

-- no line of a text is misspelled if and only if each line that spells something parses
pub spelling_or_parsed : (text : List ℕ) → is_none (spelling (spelled_lines text)) ≡ list_all (λ l. is_some (parsed l.1)) (spelled_lines text)
unfolding spelling
spelling_or_parsed text = first_of_none fault_of (spelled_lines text) ∙ each_line (spelled_lines text) (lines_spell text)
