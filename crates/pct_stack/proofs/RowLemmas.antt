-- Rows of words in one list: where a word is, and what a write changes.
use Rattle.std.proofs.Common.{◌≡◌, ℕ, zero, suc, ◌+◌, ◌-◌, ◌*◌, ◌<◌, ◌≤◌, List, [], ◌∷◌, ◌++◌, length, get_or, take, drop, set, replicate, refl, sym, ap, ◌∙◌, arith}
use Rattle.std.proofs.Common.{zero-mul, suc-mul}
use Rattle.std.proofs.Math.Nat.{mul-le-mul_right}
use Rattle.std.proofs.Math.Seq.{take-set-lt}
use Rattle.std.proofs.lemmas.List.{get_or-take, get_or-drop, drop-drop, drop-set-lt, drop-set-add, take-set-le, take-replicate, drop-replicate, get_or-set_same, length-take, length-drop, set-set, set-get_or, set_at, drop_more, take_more, append_assoc, append-nil, take_all, drop_all, get_or-replicate, length-replicate, length-set}
use Rattle.pct_stack.specs.Rows.{Rows, row_at, with_row, with_word, rows_of, set_from}

pub length-rows_of : (n width : ℕ) (words : List ℕ) → length (rows_of n width words) ≡ n
length-rows_of zero width words = refl
length-rows_of (suc n) width words = ap suc (length-rows_of n width (drop width words))

-- the words of a row
pub rows_of-row : (n width : ℕ) (words : List ℕ) (row : ℕ) → row < n → get_or (rows_of n width words) row [] ≡ take width (drop (row * width) words)
rows_of-row zero width words row inside = absurd (omega arith)
rows_of-row (suc n) width words zero inside = ap (λ k. take width (drop k words)) (sym (zero-mul width))
rows_of-row (suc n) width words (suc row) inside =
    let there : width + row * width ≡ suc row * width = omega (arith, suc-mul row width) in
    rows_of-row n width (drop width words) row (omega arith)
    ∙ ap (take width) (drop-drop (row * width) width words ∙ ap (λ k. drop k words) there)

-- a word of a row
pub rows_of-word : (n width : ℕ) (words : List ℕ) (row i : ℕ) → row < n → i < width → get_or (get_or (rows_of n width words) row []) i 0 ≡ get_or words (row * width + i) 0
rows_of-word n width words row i inside small =
    ap (λ (r : List ℕ). get_or r i 0) (rows_of-row n width words row inside)
    ∙ get_or-take width (drop (row * width) words) i 0 small
    ∙ get_or-drop (row * width) words i 0

-- a word of a row is among the words
pub within : (n width row i : ℕ) → row < n → i < width → row * width + i < n * width
within n width row i inside small =
    let rows : suc row * width ≤ n * width = mul-le-mul_right width (omega arith) in
    omega (arith, rows, suc-mul row width)

-- a write to a word of a row
pub rows_of-set : (n width : ℕ) (words : List ℕ) (row i value : ℕ) → row < n → i < width
    → rows_of n width (set words (row * width + i) value) ≡ set (rows_of n width words) row (set (get_or (rows_of n width words) row []) i value)
rows_of-set zero width words row i value inside small = absurd (omega arith)
rows_of-set (suc n) width words zero i value inside small =
    let here : zero * width + i ≡ i = omega (arith, zero-mul width) in
    rw here (λ j. take-set-lt width words i value small j ∷ rows_of n width (drop-set-lt width words i value small j))
rows_of-set (suc n) width words (suc row) i value inside small =
    let there : suc row * width + i ≡ width + (row * width + i) = omega (arith, suc-mul row width) in
    let past : width ≤ width + (row * width + i) = omega arith in
    rw there (λ j. take-set-le width words (width + (row * width + i)) value past j ∷ (ap (rows_of n width) (drop-set-add width words (row * width + i) value) ∙ rows_of-set n width (drop width words) row i value (omega arith) small) j)

-- rows of words that are all 0
pub rows_of-zeros : (n width : ℕ) → rows_of n width (replicate (n * width) 0) ≡ replicate n (replicate width 0)
rows_of-zeros zero width = refl
rows_of-zeros (suc n) width =
    let all : suc n * width ≡ width + n * width = omega (arith, suc-mul n width) in
    let rest : suc n * width - width ≡ n * width = omega (arith, suc-mul n width) in
    let first : take width (replicate (suc n * width) 0) ≡ replicate width 0 = take-replicate width (suc n * width) 0 (omega (arith, all)) in
    let others : drop width (replicate (suc n * width) 0) ≡ replicate (n * width) 0 = drop-replicate width (suc n * width) 0 ∙ ap (λ k. replicate k 0) rest in
    (λ j. first j ∷ (ap (rows_of n width) others ∙ rows_of-zeros n width) j)

-- each row of a grid is as long as the width says
pub rows_of-even : (n width : ℕ) (words : List ℕ) (row : ℕ) → length words ≡ n * width → row < n → length (get_or (rows_of n width words) row []) ≡ width
rows_of-even n width words row all inside =
    let rows : suc row * width ≤ n * width = mul-le-mul_right width (omega arith) in
    ap length (rows_of-row n width words row inside) ∙ omega (arith, rows, all, suc-mul row width, length-take width (drop (row * width) words), length-drop (row * width) words)

-- ---- a row that is written from its first word on

module _ {X : Type 0} where
  pub length-set_from : (x : X) (first n : ℕ) (items : List X) → length (set_from x first n items) ≡ length items
  length-set_from x first zero items = refl
  length-set_from x first (suc n) items = length-set (set_from x first n items) (first + n) x ∙ length-set_from x first n items

  -- the first items of one list, and then the rest of the other
  abbrev pub written : ℕ → List X → List X → List X
  written i new old = take i new ++ drop i old

  pub written-more : (i : ℕ) (new old : List X) (d : X) → i < length new → i < length old → set (written i new old) i (get_or new i d) ≡ written (i + 1) new old
  written-more i new old d inside there =
      let front : length (take i new) ≡ i = omega (arith, length-take i new) in
      ap (λ l. set (take i new ++ l) i (get_or new i d)) (drop_more old i d there)
      ∙ set_at (take i new) (get_or old i d) (drop (i + 1) old) (get_or new i d) i front
      ∙ sym (append_assoc (take i new) (get_or new i d ∷ []) (drop (i + 1) old))
      ∙ ap (λ l. l ++ drop (i + 1) old) (sym (take_more new i d inside))

  pub written-all : (i : ℕ) (new old : List X) → length new ≤ i → length old ≤ i → written i new old ≡ new
  written-all i new old all over = (λ j. take_all i new all j ++ drop_all i old over j) ∙ append-nil new

module _ (grid : Rows) (row : ℕ) (inside : row < length grid.rows) where
  abbrev here : List ℕ
  here = row_at grid row

  -- no word is written
  pub written-first : (new : List ℕ) → with_row row (written 0 new here) grid ≡ grid
  written-first new = ap (λ (rows : List (List ℕ)). record { room = grid.room; width = grid.width; rows = rows }) (set-get_or grid.rows row [])

  -- one more word is written
  pub written-next : (i : ℕ) (new : List ℕ) (value : ℕ) → i < length new → i < length here → value ≡ get_or new i 0
      → with_word row i value (with_row row (written i new here) grid) ≡ with_row row (written (i + 1) new here) grid
  written-next i new value short there is =
      ap (λ (rows : List (List ℕ)). record { room = grid.room; width = grid.width; rows = rows })
      (ap (λ (r : List ℕ). set (set grid.rows row (written i new here)) row (set r i value)) (get_or-set_same grid.rows row (written i new here) [] inside)
      ∙ set-set grid.rows row (written i new here) (set (written i new here) i value)
      ∙ ap (set grid.rows row) (ap (set (written i new here) i) is ∙ written-more i new here 0 short there))

  -- all words are written
  pub written-last : (i : ℕ) (new : List ℕ) → length new ≤ i → length here ≤ i → with_row row (written i new here) grid ≡ with_row row new grid
  written-last i new all over = ap (λ (r : List ℕ). with_row row r grid) (written-all i new here all over)

-- what is seen of a grid of so many rows
pub count_of : (room n width : ℕ) (words : List ℕ) (seen : Rows) → record { room = room; width = width; rows = rows_of n width words } ≡ seen → length seen.rows ≡ n
count_of room n width words seen is = ap (λ (g : Rows). length g.rows) (sym is) ∙ length-rows_of n width words

-- and each of its rows is as long as its width says
pub even_of : (room n width : ℕ) (words : List ℕ) (seen : Rows) → record { room = room; width = width; rows = rows_of n width words } ≡ seen → length words ≡ n * width
    → (row : ℕ) → row < length seen.rows → length (row_at seen row) ≡ seen.width
even_of room n width words seen is all row inside =
    ap (λ (g : Rows). length (row_at g row)) (sym is)
    ∙ rows_of-even n width words row all (omega (arith, inside, count_of room n width words seen is))
    ∙ ap (λ (g : Rows). g.width) is

-- the first words of a row are 0
module _ (room n width : ℕ) (words : List ℕ) (all : length words ≡ n * width) (row : ℕ) (inside : row < n) where
  abbrev rows_seen : Rows
  rows_seen = record { room = room; width = width; rows = rows_of n width words }

  in_rows : row < length rows_seen.rows
  in_rows = omega (arith, inside, length-rows_of n width words)

  pub cleared-first : (k : ℕ) → k ≤ width → record { room = room; width = width; rows = rows_of n width (set_from 0 (row * width) k words) } ≡ with_row row (written k (replicate width 0) (row_at rows_seen row)) rows_seen
  cleared-first zero small = sym (written-first rows_seen row in_rows (replicate width 0))
  cleared-first (suc k) small =
      ap (λ (rows : List (List ℕ)). record { room = room; width = width; rows = rows }) (rows_of-set n width (set_from 0 (row * width) k words) row k 0 inside (omega (arith, small)))
      ∙ ap (with_word row k 0) (cleared-first k (omega (arith, small)))
      ∙ written-next rows_seen row in_rows k (replicate width 0) 0 (omega (arith, small, length-replicate {A = ℕ} width 0)) (omega (arith, small, rows_of-even n width words row all inside)) (sym (get_or-replicate width k 0 0 (omega (arith, small))))
      ∙ ap (λ j. with_row row (written j (replicate width 0) (row_at rows_seen row)) rows_seen) {x = k + 1} {y = suc k} (omega arith)

  -- all words of a row are 0
  pub cleared-row : record { room = room; width = width; rows = rows_of n width (set_from 0 (row * width) width words) } ≡ with_row row (replicate width 0) rows_seen
  cleared-row =
      cleared-first width (omega arith)
      ∙ written-last rows_seen row in_rows width (replicate width 0) (omega (arith, length-replicate {A = ℕ} width 0)) (omega (arith, rows_of-even n width words row all inside))

-- ---- many items that are written

set_from-written : {X : Type 0} (x d : X) (n k : ℕ) (items : List X) → k ≤ n → k ≤ length items → set_from x 0 k items ≡ written k (replicate n x) items
set_from-written x d n zero items few short = refl
set_from-written {X = X} x d n (suc k) items few short =
    ap (λ l. set l (0 + k) x) (set_from-written x d n k items (omega (arith, few)) (omega (arith, short)))
    ∙ ap (λ p. set (written k (replicate n x) items) p x) {x = 0 + k} {y = k} (omega arith)
    ∙ ap (set (written k (replicate n x) items) k) (sym (get_or-replicate n k x d (omega (arith, few))))
    ∙ written-more k (replicate n x) items d (omega (arith, few, length-replicate {A = X} n x)) (omega (arith, short))
    ∙ ap (λ p. written p (replicate n x) items) {x = k + 1} {y = suc k} (omega arith)

-- all items are written
pub set_from-all : {X : Type 0} (x d : X) (n : ℕ) (items : List X) → length items ≡ n → set_from x 0 n items ≡ replicate n x
set_from-all {X = X} x d n items all =
    set_from-written x d n n items (omega arith) (omega (arith, all))
    ∙ written-all n (replicate n x) items (omega (arith, length-replicate {A = X} n x)) (omega (arith, all))
