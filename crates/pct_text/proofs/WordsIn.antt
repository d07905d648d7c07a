-- The words of a line, one after the other.
use Rattle.pct_names.proofs.Names.{◌+◌, ◌<◌, [], ap, arith, Bool, cond, drop, drop-cons, drop-length, false, filter, get_or, is_blank}
use Rattle.pct_names.proofs.Names.{is_empty, length, length-drop, length-prefix_len, List, nat_lt, None, not, onto_first, position}
use Rattle.pct_names.proofs.Names.{position-Some, position_or_len, prefix_len-le-length, refl, slice_split, Some, subst, suc, sym, take}
use Rattle.pct_names.proofs.Names.{true, unwrap_or, words_in, ℕ, ◌∙◌, ◌∷◌, ◌≡◌, ◌≤◌}
use Rattle.std.proofs.lemmas.Bool.{ltb-false}

-- the pieces that are not empty
abbrev filled : List (List ℕ) → List (List ℕ)
filled pieces = filter (λ w. not (is_empty w)) pieces

-- the pieces between blanks
abbrev pieces_of : List ℕ → List (List ℕ)
pieces_of bytes = slice_split is_blank bytes

-- the index of the first byte that is not a blank, and of the first blank
abbrev start_of : List ℕ → ℕ
start_of bytes = position_or_len (λ b. not (is_blank b)) bytes

abbrev end_of : List ℕ → ℕ
end_of bytes = position_or_len (λ b. is_blank b) bytes

-- ---- blanks before a word

abbrev first_piece : Bool → ℕ → List ℕ → List (List ℕ)
first_piece t b bs = cond t ([] ∷ pieces_of bs) (onto_first b (pieces_of bs))

start_step : (t : Bool) (b : ℕ) (bs : List ℕ) → filled (pieces_of (drop (start_of bs) bs)) ≡ filled (pieces_of bs) → is_blank b ≡ t
    → filled (pieces_of (drop (cond (not (not t)) (1 + start_of bs) 0) (b ∷ bs))) ≡ filled (first_piece t b bs)
start_step true b bs more e =
    let next : 1 + start_of bs ≡ suc (start_of bs) = omega arith in
    ap (λ n. filled (pieces_of (drop n (b ∷ bs)))) next ∙ more
start_step false b bs more e = ap (λ t. filled (first_piece t b bs)) e

start_unchanged : (bs : List ℕ) → filled (pieces_of (drop (start_of bs) bs)) ≡ filled (pieces_of bs)
start_unchanged [] = refl
start_unchanged (b ∷ bs) = start_step (is_blank b) b bs (start_unchanged bs) refl

-- ---- the first piece

-- the first piece is the first n bytes, and the others are the pieces of the bytes after it
abbrev IsPrefix : ℕ → List ℕ → List (List ℕ) → Type 0
IsPrefix n bs pieces = (others : List (List ℕ)) × (pieces ≡ take n bs ∷ others) × (filled others ≡ filled (pieces_of (drop n bs)))

prefix_step : (t : Bool) (b : ℕ) (bs : List ℕ) → IsPrefix (end_of bs) bs (pieces_of bs) → is_blank b ≡ t → IsPrefix (cond (not t) (1 + end_of bs) 0) (b ∷ bs) (first_piece t b bs)
prefix_step true b bs more e = (pieces_of bs, refl, sym (ap (λ t. filled (first_piece t b bs)) e))
prefix_step false b bs (others, first, same) e =
    let next : suc (end_of bs) ≡ 1 + end_of bs = omega arith in
    subst (λ n. IsPrefix n (b ∷ bs) (onto_first b (pieces_of bs))) next (others, ap (onto_first b) first, same)

prefix_of : (bs : List ℕ) → IsPrefix (end_of bs) bs (pieces_of bs)
prefix_of [] = ([], refl, refl)
prefix_of (b ∷ bs) = prefix_step (is_blank b) b bs (prefix_of bs) refl

first_is_filled : (w : List ℕ) (others : List (List ℕ)) → 0 < length w → filled (w ∷ others) ≡ w ∷ filled others
first_is_filled [] others some = absurd (omega arith)
first_is_filled (b ∷ w) others some = refl

-- bytes that do not begin with a blank begin with a word
word_at_start : (bs : List ℕ) → 0 < end_of bs → words_in bs ≡ take (end_of bs) bs ∷ words_in (drop (end_of bs) bs)
unfolding words_in
word_at_start bs some =
    let prefix = prefix_of bs in
    let w = take (end_of bs) bs in
    let filled_word : 0 < length w = omega (arith, length-prefix_len (λ b. not (is_blank b)) bs) in
    ap filled prefix.1 ∙ first_is_filled w prefix.0 filled_word ∙ ap (λ pieces. w ∷ pieces) prefix.2

-- ---- the indexes that are searched

index_is : (n i : ℕ) (t : Bool) → cond t (Some n) None ≡ Some i → n ≡ i
index_is n i true e = cc
index_is n i false e = absurd cc

index_from : (p : ℕ → Bool) (bs : List ℕ) (i : ℕ) → position p bs ≡ Some i → position_or_len p bs ≡ i
index_from p bs i e = index_is (position_or_len p bs) i (nat_lt (position_or_len p bs) (length bs)) e

index_past : (n len : ℕ) (t : Bool) → nat_lt n len ≡ t → n ≤ len → cond t (Some n) None ≡ None → n ≡ len
index_past n len true e le none = absurd cc
index_past n len false e le none = omega (arith, ltb-false n len e)

index_or : (n len : ℕ) (t : Bool) → nat_lt n len ≡ t → n ≤ len → unwrap_or (cond t (Some n) None) len ≡ n
index_or n len true e le = refl
index_or n len false e le = omega (arith, ltb-false n len e)

pub end_is : (bs : List ℕ) → unwrap_or (position (λ b. is_blank b) bs) (length bs) ≡ end_of bs
end_is bs = index_or (end_of bs) (length bs) (nat_lt (end_of bs) (length bs)) refl (prefix_len-le-length (λ b. not (is_blank b)) bs)

begins_word : (c : ℕ) (bs : List ℕ) → not (is_blank c) ≡ true → 0 < end_of (c ∷ bs)
begins_word c bs h = rw h (omega arith)

-- ---- the first word

-- bytes that are all blanks have no word
pub no_word : (bytes : List ℕ) → position (λ b. not (is_blank b)) bytes ≡ None → words_in bytes ≡ []
unfolding words_in
no_word bytes none =
    let all : start_of bytes ≡ length bytes = index_past (start_of bytes) (length bytes) (nat_lt (start_of bytes) (length bytes)) refl (prefix_len-le-length (λ b. not (not (is_blank b))) bytes) none in
    sym (start_unchanged bytes) ∙ ap (λ n. filled (pieces_of (drop n bytes))) all ∙ ap (λ bs. filled (pieces_of bs)) (drop-length bytes)

rest_begins : (bytes : List ℕ) (start : ℕ) → position (λ b. not (is_blank b)) bytes ≡ Some start → 0 < end_of (drop start bytes)
rest_begins bytes start here =
    let first = position-Some (λ b. not (is_blank b)) bytes start 0 here in
    let rest : drop start bytes ≡ get_or bytes start 0 ∷ drop (suc start) bytes = drop-cons bytes start 0 first.0 in
    subst (λ bs. 0 < end_of bs) (sym rest) (begins_word (get_or bytes start 0) (drop (suc start) bytes) first.1)

from_start : (bytes : List ℕ) (start : ℕ) → start_of bytes ≡ start → words_in bytes ≡ words_in (drop start bytes)
unfolding words_in
from_start bytes start e = sym (start_unchanged bytes) ∙ ap (λ n. filled (pieces_of (drop n bytes))) e

-- the bytes after the word that begins at the first byte of rest
after_word : (bytes rest after : List ℕ) (start n : ℕ) → rest ≡ drop start bytes → n ≡ unwrap_or (position (λ b. is_blank b) rest) (length rest) → after ≡ drop n rest
    → after ≡ drop (end_of (drop start bytes)) (drop start bytes)
after_word bytes rest after start n from end back = back ∙ ap (λ k. drop k rest) (end ∙ end_is rest) ∙ ap (λ r. drop (end_of r) r) from

-- the first word begins at the first byte that is not a blank, and n is its length
pub found_word : (bytes rest word after : List ℕ) (start n : ℕ) → position (λ b. not (is_blank b)) bytes ≡ Some start → rest ≡ drop start bytes
    → n ≡ unwrap_or (position (λ b. is_blank b) rest) (length rest) → word ≡ take n rest → after ≡ drop n rest → words_in bytes ≡ word ∷ words_in after
found_word bytes rest word after start n here from end prefix back =
    let others = drop (end_of (drop start bytes)) (drop start bytes) in
    let word_is : word ≡ take (end_of (drop start bytes)) (drop start bytes) = prefix ∙ ap (λ k. take k rest) (end ∙ end_is rest) ∙ ap (λ r. take (end_of r) r) from in
    from_start bytes start (index_from (λ b. not (is_blank b)) bytes start here) ∙ word_at_start (drop start bytes) (rest_begins bytes start here)
    ∙ ap (λ w. w ∷ words_in others) (sym word_is) ∙ ap (λ bs. word ∷ words_in bs) (sym (after_word bytes rest after start n from end back))

-- fewer bytes are after it
pub fewer_after : (bytes rest after : List ℕ) (start n : ℕ) → position (λ b. not (is_blank b)) bytes ≡ Some start → rest ≡ drop start bytes
    → n ≡ unwrap_or (position (λ b. is_blank b) rest) (length rest) → after ≡ drop n rest → length after < length bytes
fewer_after bytes rest after start n here from end back =
    let first = position-Some (λ b. not (is_blank b)) bytes start 0 here in
    let shorter : length (drop (end_of (drop start bytes)) (drop start bytes)) < length bytes =
    omega (arith, first.0, rest_begins bytes start here, length-drop start bytes, length-drop (end_of (drop start bytes)) (drop start bytes))
    in subst (λ bs. length bs < length bytes) (sym (after_word bytes rest after start n from end back)) shorter
