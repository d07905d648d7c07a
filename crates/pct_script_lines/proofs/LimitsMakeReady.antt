-- The `fn` lines of a text that exceeds no limit have a name and at most 8 locals.
use Rattle.pct_names.proofs.Names.{◌&&◌, [], and_from, ap, arith, Bool, cond, cons_option, declares, enumerate_from, exceeds_limit, false}
use Rattle.pct_names.proofs.Names.{fault_at_line, filter_map, first_wrong, has_many_locals, length, length-enumerate_from, Line, lines_of}
use Rattle.pct_names.proofs.Names.{List, list_all, locals_of, nat_le, nat_lt, None, not, Numbered, onto_first, Option, or_parts}
use Rattle.pct_names.proofs.Names.{parsed_lines, parsed_numbered, ParsedLine, refl, slice_split, Some, spell_something, spelled_lines, suc}
use Rattle.pct_names.proofs.Names.{too_many, TooMany, true, without_empty_last, words_in, ◌||◌, ℕ, ◌∷◌, ◌≡◌, ◌≤◌}
use Rattle.std.proofs.Common.{le-leb}
use Rattle.std.proofs.lemmas.Bool.{ltb-false}
use Rattle.std.proofs.lemmas.List.Sums.{count_by-le-length, length-filter}
use Rattle.pct_model.specs.declared.line_kind.SymbolKind.TheVariants as kind
use Rattle.pct_script_lines.specs.SectionSteps.{begins_with_name, is_ready}
use Rattle.pct_grammar.proofs.SharedWords.{IsParsed, EachParsed}
use Rattle.pct_grammar.proofs.ParsedFromWords.{DeclaresFunction, line_declares}

not_wrong : (t : Bool) (n : ℕ) (others : Option ℕ) → cond t (Some n) others ≡ None → (t ≡ false) × (others ≡ None)
not_wrong true n others e = absurd cc
not_wrong false n others e = (refl, e)

few_enough : (n : ℕ) → nat_lt 8 n ≡ false → nat_le n 8 ≡ true
few_enough n e = le-leb n 8 (ltb-false 8 n e)

ready_or : (l : Line) (d : Bool) → declares kind.Function l.1 ≡ d → IsParsed l.1 → (d && nat_lt 8 (length (locals_of l.1))) ≡ false
    → (not d || begins_with_name l.1.tokens && nat_le (length (locals_of l.1)) 8) ≡ true
ready_or l false e from few = refl
ready_or l true e from few =
    let parsed : DeclaresFunction l.1.tokens = line_declares kind.Function l.1 from e in
    and_from (begins_with_name l.1.tokens) (nat_le (length (locals_of l.1)) 8) (ap begins_with_name parsed.same) (few_enough (length (locals_of l.1)) few)

not_many : (before : List ParsedLine) (line : ParsedLine) → exceeds_limit before line ≡ false → has_many_locals line ≡ false
unfolding exceeds_limit
not_many before line e = (or_parts _ (has_many_locals line) e).1

each_ready : (before : List ParsedLine) (lines : List Line) → EachParsed lines → first_wrong exceeds_limit before lines ≡ None → list_all is_ready lines ≡ true
unfolding first_wrong
each_ready before [] from none = refl
each_ready before (l ∷ lines) from none =
    let sections = not_wrong (exceeds_limit before l.1) l.0 (first_wrong exceeds_limit (l.1 ∷ before) lines) none in
    and_from (is_ready l) (list_all is_ready lines) (ready_or l (declares kind.Function l.1) refl from.0 (not_many before l.1 sections.0)) (each_ready (l.1 ∷ before) lines from.1 sections.1)

no_fault : (o : Option ℕ) → fault_at_line TooMany o ≡ None → o ≡ None
no_fault None e = refl
no_fault (Some n) e = absurd cc

-- parsed lines that exceed no limit are ready
pub are_ready : (lines : List Line) → EachParsed lines → too_many lines ≡ None → list_all is_ready lines ≡ true
unfolding too_many
are_ready lines from few = each_ready [] lines from (no_fault (first_wrong exceeds_limit [] lines) few)

-- ---- how many there are

few_given : {B : Type 0} (o : Option B) (kept : List B) (n : ℕ) → length kept ≤ n → length (cons_option o kept) ≤ suc n
few_given None kept n le = omega arith
few_given (Some b) kept n le = omega arith

fewer_given : {A B : Type 0} (f : A → Option B) (xs : List A) → length (filter_map f xs) ≤ length xs
fewer_given f [] = omega arith
fewer_given f (x ∷ xs) = few_given (f x) (filter_map f xs) (length xs) (fewer_given f xs)

few_after : (t : Bool) (b n : ℕ) (pieces : List (List ℕ)) → length (without_empty_last pieces) ≤ n → length (without_empty_last (cond t ([] ∷ pieces) (onto_first b pieces))) ≤ suc n
few_after true b n [] le = omega arith
few_after true b n (w ∷ ws) le = omega (arith, le)
few_after false b n [] le = omega arith
few_after false b n ([] ∷ []) le = omega arith
few_after false b n ([] ∷ x ∷ xs) le = omega (arith, le)
few_after false b n ((c ∷ w) ∷ []) le = omega arith
few_after false b n ((c ∷ w) ∷ x ∷ xs) le = omega (arith, le)

few_pieces : (p : ℕ → Bool) (bytes : List ℕ) → length (without_empty_last (slice_split p bytes)) ≤ length bytes
few_pieces p [] = omega arith
few_pieces p (b ∷ bytes) = few_after (p b) b (length bytes) (slice_split p bytes) (few_pieces p bytes)

few_of_text : (text : List ℕ) → length (lines_of text) ≤ length text
unfolding lines_of
few_of_text text = few_pieces _ text

few_spelled : (text : List ℕ) → length (spelled_lines text) ≤ length text
unfolding spelled_lines
few_spelled text =
    let lines = enumerate_from 1 (lines_of text) in
    let spells : Numbered (List ℕ) → Bool = λ l. spell_something (words_in l.1) in
    omega (arith, length-filter spells lines, count_by-le-length spells lines, length-enumerate_from 1 (lines_of text), few_of_text text)

-- a text has at most as many parsed lines as bytes
pub few_lines : (text : List ℕ) → length (parsed_lines text) ≤ length text
unfolding parsed_lines
few_lines text = omega (arith, fewer_given parsed_numbered (spelled_lines text), few_spelled text)
