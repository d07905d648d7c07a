-- The lines of a canonical text: their words are plain, and none is `%%`.
use Rattle.pct_names.proofs.Names.{[], and_from, and_parts, ap, arith, codes, contents_of, declaration_syntax, false, false_from_ne_true}
use Rattle.pct_names.proofs.Names.{is_none, join_with_byte, line_kind_of, line_kinds, List, list_all, nat_le, None, parsed_words}
use Rattle.pct_names.proofs.Names.{ParsedLine, point_of, point_statement, points, refl, Script, script_lines, Some, sym, syntax_of, true}
use Rattle.pct_names.proofs.Names.{words_in, ℕ, ◌∙◌, ◌∷◌, ◌≡◌}
use Rattle.std.proofs.Common.{leb-true, lt-ltb, true≢false}
use Rattle.pct_model.proofs.Bytes.{same_bytes}
use Rattle.pct_model.proofs.StaticFacts.{passes_all}
use Rattle.pct_grammar.proofs.SharedWords.{is_printable, is_word}
use Rattle.pct_grammar.proofs.TokensResolve.{all_more}
use Rattle.pct_grammar.proofs.CanonLines.{is_line, LineParses, printable_of, words_again, words_of_line}
use Rattle.pct_grammar.proofs.CanonSpells.{ParseAll, script_lines_parse}
use Rattle.pct_schedule_laws.proofs.PlainWords.{is_plain_byte, are_plain, more}
use Rattle.pct_schedule_laws.proofs.FirstMarker.{is_percents, is_script_line, script_line}

printable_is_plain : (b : ℕ) → is_printable b ≡ true → is_plain_byte b ≡ true
printable_is_plain b is = lt-ltb 32 b (omega (arith, leb-true 33 b (and_parts (nat_le 33 b) (nat_le b 126) is).0))

words_are_plain : (words : List (List ℕ)) → list_all is_word words ≡ true → are_plain words ≡ true
words_are_plain [] all = refl
words_are_plain (w ∷ words) all =
    let parts = and_parts (is_word w) (list_all is_word words) all in
    more w words (all_more is_printable is_plain_byte printable_is_plain w (printable_of w parts.0)) (words_are_plain words parts.1)

marker_words : words_in (codes "%%") ≡ codes "%%" ∷ []
unfolding words_in
marker_words = refl

marker_unparsed : parsed_words (codes "%%" ∷ []) ≡ None
unfolding parsed_words line_kind_of line_kinds syntax_of declaration_syntax point_statement point_of points
marker_unparsed = refl

-- a line that parses is not `%%`
no_percents : (words : List (List ℕ)) (line : ParsedLine) → list_all is_word words ≡ true → parsed_words words ≡ Some line → is_percents (join_with_byte 32 words) ≡ false
no_percents words line are parses =
    let text = join_with_byte 32 words in
    false_from_ne_true (is_percents text) (λ (e : is_percents text ≡ true).
    let same : words ≡ codes "%%" ∷ [] = sym (words_again words are) ∙ ap words_in (same_bytes text (codes "%%") e) ∙ marker_words in
    true≢false (sym (ap is_none (sym parses ∙ ap parsed_words same ∙ marker_unparsed))))

each_line : (lines : List (List (List ℕ))) (all : List ParsedLine) → list_all is_line lines ≡ true → LineParses lines all → list_all is_script_line lines ≡ true
each_line [] all are parses = refl
each_line (words ∷ lines) [] are parses = absurd cc
each_line (words ∷ lines) (s ∷ all) are parses =
    let parts = and_parts (is_line words) (list_all is_line lines) are in
    let these = words_of_line words parts.0 in
    let first : parsed_words words ≡ Some s = cc in
    let others : LineParses lines all = cc in
    and_from (is_script_line words) (list_all is_script_line lines) (script_line words (words_are_plain words these) (no_percents words s these first)) (each_line lines all parts.1 others)

-- the lines of a script parse
pub lines_of_script : (script : Script) → (all : List ParsedLine) × ParseAll (script_lines (contents_of script)) all
lines_of_script script = script_lines_parse (contents_of script) (passes_all (contents_of script) script.passes_checks).text

-- the lines of a script
pub script_is_lines : (script : Script) → list_all is_script_line (script_lines (contents_of script)) ≡ true
script_is_lines script =
    let found = lines_of_script script in
    each_line (script_lines (contents_of script)) found.0 found.1.are found.1.parse_all
