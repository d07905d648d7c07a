-- The first line of a text ends at its first LF, or it is the whole text.
use Rattle.pct_names.proofs.Names.{◌+◌, ◌++◌, ◌<◌, [], ap, arith, Bool, cond, drop, false, inl, inr, length, List, nat_eq, None, Option}
use Rattle.pct_names.proofs.Names.{option_map, refl, slice_index, Some, split_once, subst, suc, sym, take, true, zero, ℕ, ◌∙◌, ◌∷◌, ◌≡◌}
use Rattle.std.proofs.Common.{length-append}
use Rattle.memchr.specs.Find.{IsFirstByte, is_byte}
use Rattle.pct_text.specs.FirstLine.{IsFirstLine}
use Rattle.pct_text.proofs.SplitOnce.{split_joins}
use Rattle.pct_text.proofs.Lines.{lines_of-split_once, lines_of-last, lines_of-nil}

-- ---- by the split at the first LF

by_split : (text line rest : List ℕ) → split_once 10 text ≡ Some (line, rest) → IsFirstLine text line rest
by_split text line rest e =
    let whole : text ≡ line ++ 10 ∷ rest = split_joins 10 text (line, rest) e in
    let size : length text ≡ length line + length {A = ℕ} (10 ∷ rest) = ap length whole ∙ length-append line (10 ∷ rest) in
    record { lines = lines_of-split_once text (line, rest) e; split = inl whole; shorter = omega (arith, size) }

without_end : (b : ℕ) (bytes : List ℕ) → split_once 10 (b ∷ bytes) ≡ None → IsFirstLine (b ∷ bytes) (b ∷ bytes) []
without_end b bytes e =
    record { lines = lines_of-last b bytes e ∙ ap (λ (lines : List (List ℕ)). (b ∷ bytes) ∷ lines) (sym lines_of-nil); split = inr (refl, refl); shorter = omega arith }

first_of : (b : ℕ) (bytes : List ℕ) (o : Option (List ℕ × List ℕ)) → split_once 10 (b ∷ bytes) ≡ o → (line : List ℕ) × (rest : List ℕ) × IsFirstLine (b ∷ bytes) line rest
first_of b bytes None e = (b ∷ bytes, [], without_end b bytes e)
first_of b bytes (Some parts) e = (parts.0, parts.1, by_split (b ∷ bytes) parts.0 parts.1 e)

-- a text that is not empty has a line
pub has_a_line : (b : ℕ) (bytes : List ℕ) → (line : List ℕ) × (rest : List ℕ) × IsFirstLine (b ∷ bytes) line rest
has_a_line b bytes = first_of b bytes (split_once 10 (b ∷ bytes)) refl

-- ---- by the search for an LF

not_true : (t : Bool) → ¬ (t ≡ true) → t ≡ false
not_true true is_not = absurd (is_not refl)
not_true false is_not = refl

abbrev split_by : Bool → ℕ → List ℕ → Option (List ℕ × List ℕ) → Option (List ℕ × List ℕ)
split_by t b bytes later = cond t (Some ([], bytes)) (option_map (λ (parts : List ℕ × List ℕ). (b ∷ parts.0, parts.1)) later)

no_end : (bytes : List ℕ) → ((j : ℕ) → j < length bytes → ¬ (nat_eq (slice_index bytes j) 10 ≡ true)) → split_once 10 bytes ≡ None
unfolding split_once
no_end [] none = refl
no_end (b ∷ bytes) none =
    ap (λ t. split_by t b bytes (split_once 10 bytes)) (not_true (nat_eq b 10) (none 0 (omega arith)))
    ∙ ap (λ later. split_by false b bytes later) (no_end bytes (λ j less. none (suc j) (omega (arith, less))))

first_end : (bytes : List ℕ) (k e : ℕ) (rest : List ℕ) → drop k bytes ≡ e ∷ rest → ((j : ℕ) → j < k → ¬ (nat_eq (slice_index bytes j) 10 ≡ true)) → nat_eq (slice_index bytes k) 10 ≡ true
    → split_once 10 bytes ≡ Some (take k bytes, rest)
unfolding split_once
first_end [] zero e rest back none is = absurd cc
first_end [] (suc k) e rest back none is = absurd cc
first_end (b ∷ bytes) zero e rest back none is =
    let same : bytes ≡ rest = cc in
    ap (λ t. split_by t b bytes (split_once 10 bytes)) is ∙ ap (λ (bs : List ℕ). Some ([], bs)) same
first_end (b ∷ bytes) (suc k) e rest back none is =
    ap (λ t. split_by t b bytes (split_once 10 bytes)) (not_true (nat_eq b 10) (none 0 (omega arith)))
    ∙ ap (λ later. split_by false b bytes later) (first_end bytes k e rest back (λ j less. none (suc j) (omega (arith, less))) is)

-- an LF at the start of a text ends an empty line
pub empty_first : (text bytes : List ℕ) (b : ℕ) → text ≡ b ∷ bytes → b ≡ 10 → IsFirstLine text [] bytes
unfolding split_once
empty_first text bytes b e is = by_split text [] bytes (ap (split_once 10) (e ∙ ap (λ c. c ∷ bytes) is))

-- the line before the first LF
pub end_found : (text line rest : List ℕ) (k e : ℕ) → IsFirstByte (is_byte 10) text (Some k) → line ≡ take k text → drop k text ≡ e ∷ rest → IsFirstLine text line rest
end_found text line rest k e found prefix back =
    subst (λ (l : List ℕ). IsFirstLine text l rest) (sym prefix) (by_split text (take k text) rest (first_end text k e rest back (λ j less. found.0.before j (omega arith) less) found.1))

-- a last line without an LF
pub no_end_found : (text bytes : List ℕ) (b : ℕ) → text ≡ b ∷ bytes → IsFirstByte (is_byte 10) text None → IsFirstLine text text []
no_end_found text bytes b e none =
    subst (λ (t : List ℕ). IsFirstLine t t []) (sym e) (without_end b bytes (ap (split_once 10) (sym e) ∙ no_end text (λ j less. none j (omega arith) less)))
