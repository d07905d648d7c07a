-- The line `%%` between the script and the schedule of an input.
use Rattle.pct_names.proofs.Names.{◌+◌, ◌++◌, ◌-◌, [], ap, arith, Bool, bytes_eq, codes, cond, false, inl, inr, length, lines_of, List}
use Rattle.pct_names.proofs.Names.{lt-leb, marker_in, nat_le, Option, Some, split_at_marker, sym, true, ℕ, ◌∙◌, ◌∷◌, ◌≡◌, ◌≤◌, ◌⊎◌}
use Rattle.std.proofs.Common.{le-leb, length-append}
use Rattle.pct_text.proofs.Lines.{lines_of-nil}
use Rattle.pct_schedule.proofs.LineLoops.{ReadsLine}

-- the rest begins after a line and its LF, or the line has no LF and the rest is empty
abbrev IsOffset : ℕ → List ℕ → List ℕ → Type 0
IsOffset text raw after = (length raw + 1 + length after ≡ text) ⊎ ((after ≡ []) × (length raw ≡ text))

offset_by : (text raw after : List ℕ) → (text ≡ raw ++ 10 ∷ after) ⊎ ((text ≡ raw) × (after ≡ [])) → IsOffset (length text) raw after
offset_by text raw after (inl e) =
    let size : length text ≡ length raw + length {A = ℕ} (10 ∷ after) = ap length e ∙ length-append raw (10 ∷ after) in
    inl (omega (arith, size))
offset_by text raw after (inr e) = inr (e.1, ap length (sym e.0))

offset_of : (text line after : List ℕ) (reads : ReadsLine text line after) → IsOffset (length text) reads.raw after
offset_of text line after reads = offset_by text reads.raw after reads.first.split

abbrev marked : ℕ → List ℕ → List (List ℕ) → Bool → Option (ℕ × ℕ)
marked offset raw lines found = cond found (Some (offset, offset + length raw + 1)) (marker_in (offset + length raw + 1) lines)

by_marker : (offset : ℕ) (text line after : List ℕ) (found : Bool) (reads : ReadsLine text line after) → bytes_eq line (codes "%%") ≡ found
    → marker_in offset (lines_of text) ≡ marked offset reads.raw (lines_of after) found
unfolding marker_in
by_marker offset text line after found reads is =
    ap (marker_in offset) reads.first.lines
    ∙ ap (λ (l : List ℕ). marked offset reads.raw (lines_of after) (bytes_eq l (codes "%%"))) reads.read
    ∙ ap (marked offset reads.raw (lines_of after)) is

start_after : (size text : ℕ) (raw after : List ℕ) → text ≤ size → IsOffset text raw after
    → cond (nat_le (size - text + length raw + 1) size) (size - text + length raw + 1) size ≡ size - length after
start_after size text raw after fits (inl e) =
    let is : size - text + length raw + 1 ≡ size - length after = omega arith in
    rw (le-leb (size - text + length raw + 1) size (omega arith)) is
start_after size text raw after fits (inr e) =
    let none : length after ≡ 0 = ap length e.0 in
    rw (lt-leb (size - text + length raw + 1) size (omega (arith, e.1))) (omega (arith, none))

pub split_here : (size : ℕ) (rest line after : List ℕ) (all : ℕ × ℕ) → ReadsLine rest line after → bytes_eq line (codes "%%") ≡ true → length rest ≤ size
    → all ≡ split_at_marker size (marker_in (size - length rest) (lines_of rest)) → (size - length rest, size - length after) ≡ all
split_here size rest line after all reads is fits so_far =
    ap (λ (k : ℕ). (size - length rest, k)) (sym (start_after size (length rest) reads.raw after fits (offset_of rest line after reads)))
    ∙ sym (so_far ∙ ap (split_at_marker size) (by_marker (size - length rest) rest line after true reads is))

later_offset : (size text : ℕ) (raw after : List ℕ) → text ≤ size → IsOffset text raw after
    → marker_in (size - text + length raw + 1) (lines_of after) ≡ marker_in (size - length after) (lines_of after)
unfolding marker_in
later_offset size text raw after fits (inl e) =
    let is : size - text + length raw + 1 ≡ size - length after = omega arith in
    ap (λ (k : ℕ). marker_in k (lines_of after)) is
later_offset size text raw after fits (inr e) =
    let none : lines_of after ≡ [] = ap lines_of e.0 ∙ lines_of-nil in
    ap (marker_in (size - text + length raw + 1)) none ∙ sym (ap (marker_in (size - length after)) none)

pub split_later : (size : ℕ) (rest line after : List ℕ) (all : ℕ × ℕ) → ReadsLine rest line after → bytes_eq line (codes "%%") ≡ false → length rest ≤ size
    → all ≡ split_at_marker size (marker_in (size - length rest) (lines_of rest)) → all ≡ split_at_marker size (marker_in (size - length after) (lines_of after))
split_later size rest line after all reads is fits so_far =
    so_far
    ∙ ap (split_at_marker size) (by_marker (size - length rest) rest line after false reads is ∙ later_offset size (length rest) reads.raw after fits (offset_of rest line after reads))

pub not_split : (size : ℕ) (rest : List ℕ) (all : ℕ × ℕ) → rest ≡ [] → all ≡ split_at_marker size (marker_in (size - length rest) (lines_of rest)) → (size, size) ≡ all
unfolding marker_in
not_split size rest all e so_far = sym (so_far ∙ ap (λ (lines : List (List ℕ)). split_at_marker size (marker_in (size - length rest) lines)) (ap lines_of e ∙ lines_of-nil))
