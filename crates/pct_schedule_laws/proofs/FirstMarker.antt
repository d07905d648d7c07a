-- The line `%%` after lines of plain words, none of which is `%%`, is the first line `%%`.
use Rattle.pct_names.proofs.Names.{◌&&◌, ◌+◌, ◌++◌, [], and_from, and_parts, ap, arith, Bool, bytes_eq, codes, cond, false, flat_map-cons}
use Rattle.pct_names.proofs.Names.{is_marker, join_with_byte, length, line_text, lines_of, List, list_all, marker_in, not, not-true, Option}
use Rattle.pct_names.proofs.Names.{refl, Some, split_once, strip_cr, text_of, true, ℕ, ◌∙◌, ◌∷◌, ◌≡◌}
use Rattle.std.proofs.Common.{append_assoc, length-append}
use Rattle.pct_text.proofs.Lines.{lines_of-line}
use Rattle.pct_schedule_laws.proofs.PlainWords.{are_plain}
use Rattle.pct_schedule_laws.proofs.ReadBack.{line_lacks, line_unchanged}

-- ---- lines of plain words that are not `%%`

abbrev pub is_percents : List ℕ → Bool
is_percents line = bytes_eq line (codes "%%")

abbrev pub is_script_line : List (List ℕ) → Bool
is_script_line words = are_plain words && not (is_percents (join_with_byte 32 words))

-- the text of a line and of the lines after it
pub text_of-size : (words : List (List ℕ)) (lines : List (List (List ℕ))) → length (text_of (words ∷ lines)) ≡ length (line_text words) + length (text_of lines)
text_of-size words lines = ap length (flat_map-cons line_text words lines) ∙ length-append (line_text words) (text_of lines)

pub script_line : (words : List (List ℕ)) → are_plain words ≡ true → is_percents (join_with_byte 32 words) ≡ false → is_script_line words ≡ true
script_line words plain other = and_from (are_plain words) (not (is_percents (join_with_byte 32 words))) plain (ap not other)

no_marker : (words : List (List ℕ)) → is_script_line words ≡ true → is_marker (join_with_byte 32 words) ≡ false
no_marker words is =
    let parts = and_parts (are_plain words) (not (is_percents (join_with_byte 32 words))) is in
    ap is_percents (line_unchanged words parts.0) ∙ not-true (is_percents (join_with_byte 32 words)) parts.1

line_prepended : (words : List (List ℕ)) (lines : List (List (List ℕ))) (rest : List ℕ) → are_plain words ≡ true → lines_of (text_of (words ∷ lines) ++ rest) ≡ join_with_byte 32 words ∷ lines_of (text_of lines ++ rest)
line_prepended words lines rest plain =
    ap (λ (text : List ℕ). lines_of (text ++ rest)) (flat_map-cons line_text words lines ∙ append_assoc (join_with_byte 32 words) (10 ∷ []) (text_of lines))
    ∙ ap lines_of (append_assoc (join_with_byte 32 words) (10 ∷ text_of lines) rest)
    ∙ lines_of-line (join_with_byte 32 words) (text_of lines ++ rest) (line_lacks 10 words refl refl plain)

-- ---- the offset of the marker

abbrev found : ℕ → ℕ → Option (ℕ × ℕ)
found begin after = Some (begin, after)

same_offsets : (begin begin' after after' : ℕ) → begin ≡ begin' → after ≡ after' → found begin after ≡ found begin' after'
same_offsets begin begin' after after' e f = ap (λ (n : ℕ). found n after) e ∙ ap (found begin') f

marker_first : (text : List ℕ) (offset : ℕ) → marker_in offset (lines_of (codes "%%\n" ++ text)) ≡ Some (offset, offset + 2 + 1)
unfolding marker_in strip_cr split_once
marker_first text offset = ap (marker_in offset) (lines_of-line (codes "%%") text refl)

marker_later : (words : List (List ℕ)) (lines : List (List (List ℕ))) (rest : List ℕ) (offset : ℕ) → is_script_line words ≡ true
    → marker_in offset (lines_of (text_of (words ∷ lines) ++ rest)) ≡ marker_in (offset + length (join_with_byte 32 words) + 1) (lines_of (text_of lines ++ rest))
unfolding marker_in
marker_later words lines rest offset is =
    let line = join_with_byte 32 words in
    let plain = (and_parts (are_plain words) (not (is_percents line)) is).0 in
    ap (marker_in offset) (line_prepended words lines rest plain)
    ∙ ap (λ (b : Bool). cond b (Some (offset, offset + length line + 1)) (marker_in (offset + length line + 1) (lines_of (text_of lines ++ rest)))) (no_marker words is)

-- the line `%%` after such lines begins where they end
pub marker_after : (lines : List (List (List ℕ))) (text : List ℕ) (offset end : ℕ) → list_all is_script_line lines ≡ true → offset + length (text_of lines) ≡ end
    → marker_in offset (lines_of (text_of lines ++ (codes "%%\n" ++ text))) ≡ Some (end, end + 3)
marker_after [] text offset end all e = marker_first text offset ∙ same_offsets offset end (offset + 2 + 1) (end + 3) (omega (arith, e)) (omega (arith, e))
marker_after (words ∷ lines) text offset end all e =
    let parts = and_parts (is_script_line words) (list_all is_script_line lines) all in
    let line = join_with_byte 32 words in
    let same : offset + length line + 1 + length (text_of lines) ≡ end = omega (arith, e, text_of-size words lines, length-append line (10 ∷ [])) in
    marker_later words lines (codes "%%\n" ++ text) offset parts.0 ∙ marker_after lines text (offset + length line + 1) end parts.1 same
