-- Lines and words, one split after the other.
use Rattle.pct_names.proofs.Names.{◌++◌, ◌<◌, [], ap, arith, Bool, cond, false, length, length-slice_split, lines_of, List, nat_eq, None}
use Rattle.pct_names.proofs.Names.{onto_first, Option, option_map, option_map_or, refl, slice_split, Some, split_once, strip_cr, true}
use Rattle.pct_names.proofs.Names.{without_empty_last, words_of, ℕ, ◌∙◌, ◌∷◌, ◌≡◌, ◌≢◌}
use Rattle.std.proofs.Common.{ne_eqb, length-append}
use Rattle.pct_text.proofs.SplitOnce.{split_again, lacks-uncons}

-- ---- the CR at the end of a line

strip_cr-cons : (b : ℕ) (bytes : List ℕ) → 0 < length bytes → strip_cr (b ∷ bytes) ≡ b ∷ strip_cr bytes
unfolding strip_cr
strip_cr-cons b [] some = absurd (omega arith)
strip_cr-cons b (next ∷ bytes) some = refl

pub strip_cr-drops : (prefix : List ℕ) → strip_cr (prefix ++ 13 ∷ []) ≡ prefix
unfolding strip_cr
strip_cr-drops [] = refl
strip_cr-drops (b ∷ bytes) =
    strip_cr-cons b (bytes ++ 13 ∷ []) (omega (arith, length-append bytes (13 ∷ []))) ∙ ap (λ (line : List ℕ). b ∷ line) (strip_cr-drops bytes)

pub strip_cr-keeps : (prefix : List ℕ) (last : ℕ) → last ≢ 13 → strip_cr (prefix ++ last ∷ []) ≡ prefix ++ last ∷ []
unfolding strip_cr
strip_cr-keeps [] last other = rw (ne_eqb last 13 other) refl
strip_cr-keeps (b ∷ bytes) last other =
    strip_cr-cons b (bytes ++ last ∷ []) (omega (arith, length-append bytes (last ∷ []))) ∙ ap (λ (line : List ℕ). b ∷ line) (strip_cr-keeps bytes last other)

-- a line without a CR is unchanged
pub strip_cr-lacks : (line : List ℕ) → split_once 13 line ≡ None → strip_cr line ≡ line
unfolding strip_cr
strip_cr-lacks [] e = refl
strip_cr-lacks (b ∷ []) e = rw (lacks-uncons 13 b [] e).0 refl
strip_cr-lacks (b ∷ next ∷ bytes) e = ap (λ (line : List ℕ). b ∷ line) (strip_cr-lacks (next ∷ bytes) (lacks-uncons 13 b (next ∷ bytes) e).1)

-- ---- splitting

abbrev pieces : ℕ → List ℕ → Option (List ℕ × List ℕ) → List (List ℕ)
pieces c xs o = option_map_or (λ parts. parts.0 ∷ slice_split (λ b. nat_eq b c) parts.1) o (xs ∷ [])

split_step : (t : Bool) (b c : ℕ) (bs : List ℕ) (later : Option (List ℕ × List ℕ)) → slice_split (λ x. nat_eq x c) bs ≡ pieces c bs later
    → cond t ([] ∷ slice_split (λ x. nat_eq x c) bs) (onto_first b (slice_split (λ x. nat_eq x c) bs)) ≡ pieces c (b ∷ bs) (cond t (Some ([], bs)) (option_map (λ p. (b ∷ p.0, p.1)) later))
split_step true b c bs later e = refl
split_step false b c bs None e = ap (onto_first b) e
split_step false b c bs (Some parts) e = ap (onto_first b) e

-- the first piece ends at the first delimiter
pieces_by_split : (c : ℕ) (xs : List ℕ) → slice_split (λ x. nat_eq x c) xs ≡ pieces c xs (split_once c xs)
unfolding split_once
pieces_by_split c [] = refl
pieces_by_split c (b ∷ bs) = split_step (nat_eq b c) b c bs (split_once c bs) (pieces_by_split c bs)

pieces_at_split : (c : ℕ) (xs : List ℕ) (parts : List ℕ × List ℕ) → split_once c xs ≡ Some parts → slice_split (λ x. nat_eq x c) xs ≡ parts.0 ∷ slice_split (λ x. nat_eq x c) parts.1
pieces_at_split c xs parts e = pieces_by_split c xs ∙ ap (pieces c xs) e

pieces_without : (c : ℕ) (xs : List ℕ) → split_once c xs ≡ None → slice_split (λ x. nat_eq x c) xs ≡ xs ∷ []
pieces_without c xs e = pieces_by_split c xs ∙ ap (pieces c xs) e

-- ---- lines

line_unchanged : (line : List ℕ) (rest : List (List ℕ)) → 0 < length rest → without_empty_last (line ∷ rest) ≡ line ∷ without_empty_last rest
line_unchanged line [] some = absurd (omega arith)
line_unchanged [] (next ∷ rest) some = refl
line_unchanged (b ∷ bytes) (next ∷ rest) some = refl

-- the first line ends at the first LF
pub lines_of-split_once : (text : List ℕ) (parts : List ℕ × List ℕ) → split_once 10 text ≡ Some parts → lines_of text ≡ parts.0 ∷ lines_of parts.1
unfolding lines_of
lines_of-split_once text parts e =
    ap without_empty_last (pieces_at_split 10 text parts e)
    ∙ line_unchanged parts.0 (slice_split (λ x. nat_eq x 10) parts.1) (omega (arith, length-slice_split (λ x. nat_eq x 10) parts.1))

-- without an LF, bytes are a line too
pub lines_of-last : (b : ℕ) (bytes : List ℕ) → split_once 10 (b ∷ bytes) ≡ None → lines_of (b ∷ bytes) ≡ (b ∷ bytes) ∷ []
unfolding lines_of
lines_of-last b bytes e = ap without_empty_last (pieces_without 10 (b ∷ bytes) e)

pub lines_of-nil : lines_of [] ≡ []
unfolding lines_of
lines_of-nil = refl

-- a line before a text
pub lines_of-line : (line rest : List ℕ) → split_once 10 line ≡ None → lines_of (line ++ 10 ∷ rest) ≡ line ∷ lines_of rest
lines_of-line line rest e = lines_of-split_once (line ++ 10 ∷ rest) (line, rest) (split_again 10 line rest e)

-- ---- words

pub words_of-split_once : (line : List ℕ) (parts : List ℕ × List ℕ) → split_once 32 line ≡ Some parts → words_of line ≡ parts.0 ∷ words_of parts.1
words_of-split_once line parts e = pieces_at_split 32 line parts e

pub words_of-last : (line : List ℕ) → split_once 32 line ≡ None → words_of line ≡ line ∷ []
words_of-last line e = pieces_without 32 line e

-- a line has at least one word
pub words_of-some : (line : List ℕ) → 0 < length (words_of line)
words_of-some line = omega (arith, length-slice_split (λ x. nat_eq x 32) line)
