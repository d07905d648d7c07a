-- The lines and words of a text that is built from words.
use Rattle.pct_names.proofs.Names.{◌&&◌, ◌+◌, [], All-weaker, AllPass-from_list_all, and_from, and_parts, ap, arith, Bool, cond}
use Rattle.pct_names.proofs.Names.{cons_option, enumerate_from, false, filter, filter_map, flat_map-cons, is_allowed, is_blank, is_empty}
use Rattle.pct_names.proofs.Names.{is_some, join_with_byte, length, line_text, lines_of, List, list_all, list_all-append, map, nat_le, None}
use Rattle.pct_names.proofs.Names.{not, Numbered, Option, option_map, or_right, parsed, parsed_lines, parsed_numbered, parsed_words}
use Rattle.pct_names.proofs.Names.{ParsedLine, refl, slice_split, slice_split_at, slice_split_none, Some, spell_something, spelled_lines}
use Rattle.pct_names.proofs.Names.{split_once, text_of, true, words_in, ℕ, ◌∙◌, ◌∷◌, ◌≡◌, ◌≤◌}
use Rattle.std.proofs.Common.{append_assoc, leb-true, ne_eqb}
use Rattle.std.specs.List.{All}
use Rattle.pct_text.proofs.SplitOnce.{lacks_other, lacks-append, lacks-cons}
use Rattle.pct_text.proofs.Lines.{lines_of-nil, lines_of-line}
use Rattle.pct_grammar.proofs.SharedWords.{is_printable, is_word}
use Rattle.pct_grammar.proofs.TokensResolve.{all_more}

-- a line: words, the first of which begins no comment
abbrev pub is_line : List (List ℕ) → Bool
is_line words = list_all is_word words && spell_something words

abbrev joined : List (List ℕ) → List ℕ
joined words = join_with_byte 32 words

-- ---- bytes

printable : (b : ℕ) → is_printable b ≡ true → 33 ≤ b
printable b h = leb-true 33 b (and_parts (nat_le 33 b) (nat_le b 126) h).0

no_blank : (b : ℕ) → is_printable b ≡ true → is_blank b ≡ false
no_blank b h =
    let least : 33 ≤ b = printable b h in
    rw (ne_eqb b 9 (omega arith), ne_eqb b 13 (omega arith), ne_eqb b 32 (omega arith)) refl

allowed : (b : ℕ) → is_printable b ≡ true → is_allowed b ≡ true
allowed b h = or_right (is_blank b) (is_printable b) h

pub printable_of : (w : List ℕ) → is_word w ≡ true → list_all is_printable w ≡ true
printable_of w h = (and_parts (not (is_empty w)) (list_all is_printable w) (and_parts _ (nat_le (length w) 31) h).0).1

none_blank : (w : List ℕ) → list_all is_printable w ≡ true → All (λ b. is_blank b ≡ false) w
none_blank w all = All-weaker (λ b. is_printable b ≡ true) (λ b. is_blank b ≡ false) no_blank w (AllPass-from_list_all is_printable w all)

-- ---- the words of a line

abbrev filled : List (List ℕ) → List (List ℕ)
filled pieces = filter (λ w. not (is_empty w)) pieces

keeps_word : (w : List ℕ) (others : List (List ℕ)) → is_word w ≡ true → filled (w ∷ others) ≡ w ∷ filled others
keeps_word [] others is = absurd cc
keeps_word (b ∷ bs) others is = refl

-- a line of words has those words
pub words_again : (words : List (List ℕ)) → list_all is_word words ≡ true → words_in (joined words) ≡ words
unfolding words_in
words_again [] all = refl
words_again (w ∷ []) all =
    let is = (and_parts (is_word w) true all).0 in
    ap filled (slice_split_none is_blank w (none_blank w (printable_of w is))) ∙ keeps_word w [] is
words_again (w ∷ next ∷ words) all =
    let sections = and_parts (is_word w) (list_all is_word (next ∷ words)) all in
    let others = slice_split is_blank (joined (next ∷ words)) in
    ap filled (slice_split_at is_blank w 32 (joined (next ∷ words)) (none_blank w (printable_of w sections.0)) refl)
    ∙ keeps_word w others sections.0 ∙ ap (λ ws. w ∷ ws) (words_again (next ∷ words) sections.1)

-- the bytes of a line are allowed
line_allowed : (words : List (List ℕ)) → list_all is_word words ≡ true → list_all is_allowed (joined words) ≡ true
line_allowed [] all = refl
line_allowed (w ∷ []) all = all_more is_printable is_allowed allowed w (printable_of w (and_parts (is_word w) true all).0)
line_allowed (w ∷ next ∷ words) all =
    let sections = and_parts (is_word w) (list_all is_word (next ∷ words)) all in
    list_all-append is_allowed w (32 ∷ joined (next ∷ words))
    ∙ and_from (list_all is_allowed w) (list_all is_allowed (joined (next ∷ words))) (all_more is_printable is_allowed allowed w (printable_of w sections.0)) (line_allowed (next ∷ words) sections.1)

-- a line parses as its words do
pub parsed_again : (words : List (List ℕ)) → list_all is_word words ≡ true → parsed (joined words) ≡ parsed_words words
unfolding parsed
parsed_again words all =
    ap (λ t. cond t (parsed_words (words_in (joined words))) None) (line_allowed words all) ∙ ap parsed_words (words_again words all)

-- ---- the lines of a text

line_lacks : (words : List (List ℕ)) → list_all is_word words ≡ true → split_once 10 (joined words) ≡ None
unfolding split_once
line_lacks [] all = refl
line_lacks (w ∷ []) all = lacks_other is_printable 10 w refl (printable_of w (and_parts (is_word w) true all).0)
line_lacks (w ∷ next ∷ words) all =
    let sections = and_parts (is_word w) (list_all is_word (next ∷ words)) all in
    lacks-append 10 w (32 ∷ joined (next ∷ words)) (lacks_other is_printable 10 w refl (printable_of w sections.0))
    (lacks-cons 10 32 (joined (next ∷ words)) refl (line_lacks (next ∷ words) sections.1))

pub words_of_line : (words : List (List ℕ)) → is_line words ≡ true → list_all is_word words ≡ true
words_of_line words is = (and_parts (list_all is_word words) (spell_something words) is).0

-- a text of lines has those lines
pub lines_again : (lines : List (List (List ℕ))) → list_all is_line lines ≡ true → lines_of (text_of lines) ≡ map joined lines
lines_again [] all = lines_of-nil
lines_again (words ∷ lines) all =
    let sections = and_parts (is_line words) (list_all is_line lines) all in
    ap lines_of (flat_map-cons line_text words lines ∙ append_assoc (joined words) (10 ∷ []) (text_of lines))
    ∙ lines_of-line (joined words) (text_of lines) (line_lacks words (words_of_line words sections.0))
    ∙ ap (λ ls. joined words ∷ ls) (lines_again lines sections.1)

-- ---- the lines that spell something

abbrev spelled : List (Numbered (List ℕ)) → List (Numbered (List ℕ))
spelled lines = filter (λ l. spell_something (words_in l.1)) lines

spells : (words : List (List ℕ)) → is_line words ≡ true → spell_something (words_in (joined words)) ≡ true
spells words is = ap spell_something (words_again words (words_of_line words is)) ∙ (and_parts (list_all is_word words) (spell_something words) is).1

all_spelled : (n : ℕ) (lines : List (List (List ℕ))) → list_all is_line lines ≡ true → spelled (enumerate_from n (map joined lines)) ≡ enumerate_from n (map joined lines)
all_spelled n [] all = refl
all_spelled n (words ∷ lines) all =
    let sections = and_parts (is_line words) (list_all is_line lines) all in
    let more = spelled (enumerate_from (n + 1) (map joined lines)) in
    ap (λ t. cond t ((n, joined words) ∷ more) more) (spells words sections.0) ∙ ap (λ ls. (n, joined words) ∷ ls) (all_spelled (n + 1) lines sections.1)

-- each line of the text spells something
pub spelled_again : (lines : List (List (List ℕ))) → list_all is_line lines ≡ true → spelled_lines (text_of lines) ≡ enumerate_from 1 (map joined lines)
unfolding spelled_lines
spelled_again lines all = ap (λ ls. spelled (enumerate_from 1 ls)) (lines_again lines all) ∙ all_spelled 1 lines all

-- ---- parsed lines

-- these are the parsed lines of these words
abbrev pub LineParses : List (List (List ℕ)) → List ParsedLine → Type 0
LineParses lines parsed = map parsed_words lines ≡ map (λ line. Some line) parsed

line_step : (n : ℕ) (bytes : List ℕ) (line : ParsedLine) (lines : List (Numbered (List ℕ))) → parsed bytes ≡ Some line → filter_map parsed_numbered ((n, bytes) ∷ lines) ≡ (n, line) ∷ filter_map parsed_numbered lines
line_step n bytes line lines e = ap (λ (o : Option ParsedLine). cons_option (option_map (λ s. (n, s)) o) (filter_map parsed_numbered lines)) e

parses_from : (n : ℕ) (lines : List (List (List ℕ))) (all : List ParsedLine) → list_all is_line lines ≡ true → LineParses lines all → filter_map parsed_numbered (enumerate_from n (map joined lines)) ≡ enumerate_from n all
parses_from n [] [] lines parse_all = refl
parses_from n (words ∷ lines) (s ∷ all) are parse_all =
    let sections = and_parts (is_line words) (list_all is_line lines) are in
    let first : parsed_words words ≡ Some s = cc in
    let others : LineParses lines all = cc in
    line_step n (joined words) s (enumerate_from (n + 1) (map joined lines)) (parsed_again words (words_of_line words sections.0) ∙ first)
    ∙ ap (λ ls. (n, s) ∷ ls) (parses_from (n + 1) lines all sections.1 others)
parses_from n _ _ are parse_all = absurd cc

-- the parsed lines of the text
pub parsed_lines_again : (lines : List (List (List ℕ))) (all : List ParsedLine) → list_all is_line lines ≡ true → LineParses lines all → parsed_lines (text_of lines) ≡ enumerate_from 1 all
unfolding parsed_lines
parsed_lines_again lines all are parse_all = ap (filter_map parsed_numbered) (spelled_again lines are) ∙ parses_from 1 lines all are parse_all

each_from : (n : ℕ) (lines : List (List (List ℕ))) (all : List ParsedLine) → list_all is_line lines ≡ true → LineParses lines all → list_all (λ l. is_some (parsed l.1)) (enumerate_from n (map joined lines)) ≡ true
each_from n [] all are parse_all = refl
each_from n (words ∷ lines) [] are parse_all = absurd cc
each_from n (words ∷ lines) (s ∷ all) are parse_all =
    let sections = and_parts (is_line words) (list_all is_line lines) are in
    let first : parsed_words words ≡ Some s = cc in
    let others : LineParses lines all = cc in
    and_from (is_some (parsed (joined words))) (list_all (λ (l : Numbered (List ℕ)). is_some (parsed l.1)) (enumerate_from (n + 1) (map joined lines)))
    (ap is_some (parsed_again words (words_of_line words sections.0) ∙ first)) (each_from (n + 1) lines all sections.1 others)

-- each line of the text parses
pub each_parses_again : (lines : List (List (List ℕ))) (all : List ParsedLine) → list_all is_line lines ≡ true → LineParses lines all → list_all (λ l. is_some (parsed l.1)) (spelled_lines (text_of lines)) ≡ true
each_parses_again lines all are parse_all = ap (list_all (λ (l : Numbered (List ℕ)). is_some (parsed l.1))) (spelled_again lines are) ∙ each_from 1 lines all are parse_all
