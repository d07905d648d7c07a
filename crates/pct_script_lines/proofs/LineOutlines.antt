-- The outlines of lines, line by line, and of lines that are not misspelled.
use Rattle.pct_names.proofs.Names.{◌++◌, [], and_parts, ap, Block, Blocks, Change, change_at, cons_option, Err, Fault, faulty_or}
use Rattle.pct_names.proofs.Names.{filter_map, is_allowed, is_some, kinds_of, length, Line, line_kind_of, List, list_all, nesting}
use Rattle.pct_names.proofs.Names.{nesting_in, None, Numbered, Ok, open_after_line, Option, option_map, parsed, parsed_as, parsed_numbered}
use Rattle.pct_names.proofs.Names.{parsed_words, ParsedLine, ParseWhy, refl, Result, role_in, roles, slice_get, Some, sym, syntax_of, Token}
use Rattle.pct_names.proofs.Names.{tokens_at, true, Unclosed, words_in, ℕ, ◌∙◌, ◌∷◌, ◌≡◌}
use Rattle.pct_script_lines.specs.declared.stored_lines.LineOutline.{LineOutline}
use Rattle.pct_script_lines.specs.Outlines.{outline_of_words, outline_numbered, outlines_in, outline_roles, outline_of, outlines_of}
use Rattle.pct_grammar.proofs.TokensResolve.{words_at_lengths}
use Rattle.pct_grammar.proofs.OptionFacts.{bind_some, map_some, cond_cases}

-- ---- line by line

pub no_outlines : outlines_in [] ≡ []
unfolding outlines_in
no_outlines = refl

pub outline_first : (n : ℕ) (line : List ℕ) (lines : List (Numbered (List ℕ))) (h : LineOutline) → outline_of_words (words_in line) ≡ Some h → outlines_in ((n, line) ∷ lines) ≡ (n, h) ∷ outlines_in lines
unfolding outlines_in
outline_first n line lines h e = ap (λ (o : Option LineOutline). cons_option (option_map {U = Numbered LineOutline} (λ x. (n, x)) o) (filter_map outline_numbered lines)) e

pub outline_later : (n : ℕ) (line : List ℕ) (lines : List (Numbered (List ℕ))) → outline_of_words (words_in line) ≡ None → outlines_in ((n, line) ∷ lines) ≡ outlines_in lines
unfolding outlines_in
outline_later n line lines e = ap (λ (o : Option LineOutline). cons_option (option_map {U = Numbered LineOutline} (λ x. (n, x)) o) (filter_map outline_numbered lines)) e

-- ---- lines that are not misspelled

abbrev kept : LineOutline → Option LineOutline
kept h = Some h

by_words : (ws : List (List ℕ)) (s : ParsedLine) → parsed_words ws ≡ Some s → outline_of_words ws ≡ Some (outline_of s)
unfolding parsed_words
by_words [] s e = absurd cc
by_words (w ∷ words) s e =
    let b = bind_some (line_kind_of w) (λ f. parsed_as f words) s e in
    let m = map_some (λ (parsed : List Token). record { line_kind = b.0; tokens = parsed }) (tokens_at ((syntax_of b.0).argument_kinds (length words)) words) s b.2 in
    let lengths = words_at_lengths ((syntax_of b.0).argument_kinds (length words)) words m.0 m.1 in
    ap (option_map {U = LineOutline} (λ f. record { line_kind = f; token_count = length words })) b.1 ∙ ap (λ n. kept (record { line_kind = b.0; token_count = n })) (lengths.0 ∙ sym lengths.1) ∙ ap (λ (line : ParsedLine). Some (outline_of line)) m.2

outline_parsed : (bytes : List ℕ) (s : ParsedLine) → parsed bytes ≡ Some s → outline_of_words (words_in bytes) ≡ Some (outline_of s)
unfolding parsed
outline_parsed bytes s e = cond_cases _ (list_all is_allowed bytes) (parsed_words (words_in bytes)) None (Some s) e (λ t h. by_words (words_in bytes) s h) (λ t h. absurd cc)

one_parsed : (l : Numbered (List ℕ)) (rest : List (Numbered (List ℕ))) (o : Option ParsedLine) → parsed l.1 ≡ o → is_some o ≡ true → outlines_in rest ≡ outlines_of (filter_map parsed_numbered rest)
    → outlines_in (l ∷ rest) ≡ outlines_of (filter_map parsed_numbered (l ∷ rest))
one_parsed l rest None e is ih = absurd cc
one_parsed l rest (Some s) e is ih =
    outline_first l.0 l.1 rest (outline_of s) (outline_parsed l.1 s e) ∙ ap (λ outlines. (l.0, outline_of s) ∷ outlines) ih
    ∙ sym (ap (λ (o : Option ParsedLine). outlines_of (cons_option (option_map {U = Line} (λ line. (l.0, line)) o) (filter_map parsed_numbered rest))) e)

-- the outlines of lines that all parse are the outlines of the parsed lines
outlines_parsed : (lines : List (Numbered (List ℕ))) → list_all (λ l. is_some (parsed l.1)) lines ≡ true → outlines_in lines ≡ outlines_of (filter_map parsed_numbered lines)
outlines_parsed [] all = no_outlines
outlines_parsed (l ∷ lines) all =
    let sections = and_parts (is_some (parsed l.1)) (list_all (λ (m : Numbered (List ℕ)). is_some (parsed m.1)) lines) all in
    one_parsed l lines (parsed l.1) refl sections.0 (outlines_parsed lines sections.1)

-- the outlines of parsed lines, and then of lines that all parse
pub outlines_together : (prefix : List Line) (lines : List (Numbered (List ℕ))) → list_all (λ l. is_some (parsed l.1)) lines ≡ true → outlines_of prefix ++ outlines_in lines ≡ outlines_of (prefix ++ filter_map parsed_numbered lines)
outlines_together [] lines all = outlines_parsed lines all
outlines_together (l ∷ prefix) lines all = ap (λ outlines. (l.0, outline_of l.1) ∷ outlines) (outlines_together prefix lines all)

-- ---- nesting

roles_of_outlines : (lines : List Line) → outline_roles (outlines_of lines) ≡ roles lines
roles_of_outlines [] = refl
roles_of_outlines (l ∷ lines) = ap (λ others. (l.0, role_in l.1) ∷ others) (roles_of_outlines lines)

pub nesting_of_outlines : (lines : List Line) → nesting (outline_roles (outlines_of lines)) ≡ nesting (roles lines)
nesting_of_outlines lines = ap nesting (roles_of_outlines lines)

-- a line that is not allowed
pub nesting_stops : (blocks : Blocks) (n : ℕ) (h : LineOutline) (outlines : List (Numbered LineOutline)) (why : ParseWhy) → change_at (kinds_of blocks) (syntax_of h.line_kind).role ≡ Err why
    → nesting_in blocks (outline_roles ((n, h) ∷ outlines)) ≡ Some (n, why)
unfolding nesting_in
nesting_stops [] n h outlines why e = ap (λ (r : Result Change ParseWhy). faulty_or n r (λ change. nesting_in (open_after_line [] n change) (outline_roles outlines))) e
nesting_stops (b ∷ blocks) n h outlines why e = ap (λ (r : Result Change ParseWhy). faulty_or n r (λ change. nesting_in (open_after_line (b ∷ blocks) n change) (outline_roles outlines))) e

-- a line that is allowed
pub nesting_goes_on : (blocks : Blocks) (n : ℕ) (h : LineOutline) (outlines : List (Numbered LineOutline)) (change : Change) → change_at (kinds_of blocks) (syntax_of h.line_kind).role ≡ Ok change
    → nesting_in blocks (outline_roles ((n, h) ∷ outlines)) ≡ nesting_in (open_after_line blocks n change) (outline_roles outlines)
unfolding nesting_in
nesting_goes_on [] n h outlines change e = ap (λ (r : Result Change ParseWhy). faulty_or n r (λ change. nesting_in (open_after_line [] n change) (outline_roles outlines))) e
nesting_goes_on (b ∷ blocks) n h outlines change e = ap (λ (r : Result Change ParseWhy). faulty_or n r (λ change. nesting_in (open_after_line (b ∷ blocks) n change) (outline_roles outlines))) e

-- after the last line
pub nesting_unclosed : (blocks : Blocks) (n : ℕ) (b : Block) → slice_get blocks 0 ≡ Some (n, b) → nesting_in blocks [] ≡ Some (n, Unclosed)
unfolding nesting_in
nesting_unclosed [] n b e = absurd cc
nesting_unclosed (c ∷ blocks) n b e = ap (λ (o : Option (Numbered Block)). option_map {U = Fault} (λ (d : Numbered Block). (d.0, Unclosed)) o) e

pub nesting_closed : (blocks : Blocks) → slice_get blocks 0 ≡ None → nesting_in blocks [] ≡ None
unfolding nesting_in
nesting_closed [] e = refl
nesting_closed (c ∷ blocks) e = absurd cc
