-- The table in the code is equal to the table in the definitions.
use Rattle.pct_names.proofs.Names.{◌+◌, ◌<◌, [], ap, arith, Bool, bytes_eq, cond, flat_map-map, get_or, length, length-map, line_text, List}
use Rattle.pct_names.proofs.Names.{map, nat_lt, None, not, NoWait, Option, option_and_then, option_map, option_map_or, Optional, point_at}
use Rattle.pct_names.proofs.Names.{point_name, point_of, PointKind, points, points_text, PointWait, position, position-Some}
use Rattle.pct_names.proofs.Names.{position_or_len, refl, Row, row_words, slice_get, slice_get-get_or, slice_get-map, slice_get_past, Some}
use Rattle.pct_names.proofs.Names.{sym, ℕ, ◌∙◌, ◌∷◌, ◌≡◌, ◌≤◌}
use Rattle.std.specs.Borrow.{Bor}
use Rattle.std.specs.List.{flat_map}
use Rattle.pct_cancel.specs.Rows.{as_row}

-- ---- positions in a list that was mapped

same_turn : (t : Bool) (m n : ℕ) → m ≡ n → cond (not t) (1 + m) 0 ≡ cond (not t) (1 + n) 0
same_turn t m n e = ap (λ k. cond (not t) (1 + k) 0) e

position_or_len-map : {X Y : Type 0} (p : Y → Bool) (f : X → Y) (xs : List X) → position_or_len p (map f xs) ≡ position_or_len (λ x. p (f x)) xs
position_or_len-map p f [] = refl
position_or_len-map p f (x ∷ xs) = same_turn (p (f x)) _ _ (position_or_len-map p f xs)

abbrev index_in : ℕ → ℕ → Option ℕ
index_in index len = cond (nat_lt index len) (Some index) None

position-map : {X Y : Type 0} (p : Y → Bool) (f : X → Y) (xs : List X) → position p (map f xs) ≡ position (λ x. p (f x)) xs
position-map p f xs = ap (λ n. index_in n (length (map f xs))) (position_or_len-map p f xs) ∙ ap (λ n. index_in (position_or_len (λ x. p (f x)) xs) n) (length-map xs f)

-- ---- the table

pub count_is : length points ≡ 58
unfolding points
count_is = refl

abbrev CodeRow : Type 0
CodeRow = Bor (List ℕ) × PointKind × PointWait

-- the rows of the code
module _ (rows : List CodeRow) (same : map as_row rows ≡ points) where
  pub rows_count : length rows ≡ 58
  rows_count = sym (length-map rows as_row) ∙ ap length same ∙ count_is

  pub row_in : (index : ℕ) (d : CodeRow) → index < 58 → slice_get points index ≡ Some (as_row (get_or rows index d))
  row_in index d within =
      ap (λ rs. slice_get rs index) (sym same) ∙ slice_get-map as_row rows index
      ∙ ap (option_map as_row) (slice_get-get_or rows index d (omega (arith, rows_count)))

  index_is : (name : List ℕ) → position (λ row. bytes_eq row.name name) points ≡ position (λ r. bytes_eq r.0.now name) rows
  index_is name = ap (λ rs. position (λ row. bytes_eq row.name name) rs) (sym same) ∙ position-map (λ row. bytes_eq row.name name) as_row rows

  -- a name in the code's table
  pub found : (name : List ℕ) (index : ℕ) (row : Row) → Some index ≡ position (λ r. bytes_eq r.0.now name) rows → slice_get points index ≡ Some row
      → Some (record { index = index; kind = row.kind; wait = row.wait }) ≡ point_of name
  unfolding point_of
  found name index row here at = sym (ap (option_and_then point_at) (index_is name ∙ sym here) ∙ ap (option_map (λ r. record { index = index; kind = r.kind; wait = r.wait })) at)

  pub found_within : (name : List ℕ) (index : ℕ) → Some index ≡ position (λ r. bytes_eq r.0.now name) rows → index < 58
  found_within name index here =
      let blank : Row = record { name = []; kind = Optional; wait = NoWait } in
      omega (arith, count_is, (position-Some (λ row. bytes_eq row.name name) points index blank (index_is name ∙ sym here)).0)

  -- a name that is not in it
  pub not_found : (name : List ℕ) → None ≡ position (λ r. bytes_eq r.0.now name) rows → None ≡ point_of name
  unfolding point_of
  not_found name nowhere = sym (ap (option_and_then point_at) (index_is name ∙ sym nowhere))

  -- the text of the code's table
  pub text_is : flat_map (λ row. line_text (row_words (as_row row))) rows ≡ points_text
  unfolding points_text
  text_is = sym (ap (flat_map (λ (row : Row). line_text (row_words row))) (sym same) ∙ flat_map-map (λ (row : Row). line_text (row_words row)) as_row rows)

-- the name in a row
pub name_in_row : (index : ℕ) (row : Row) → slice_get points index ≡ Some row → row.name ≡ point_name index
unfolding point_name
name_in_row index row at = sym (ap (λ o. option_map_or (λ r. r.name) o []) at)

-- the point in a row
pub point_in_row : (index : ℕ) (row : Row) → slice_get points index ≡ Some row → Some (record { index = index; kind = row.kind; wait = row.wait }) ≡ point_at index
point_in_row index row at = sym (ap (option_map (λ r. record { index = index; kind = r.kind; wait = r.wait })) at)

-- an index that is not in the table has no point
pub no_point_past : (index : ℕ) → 58 ≤ index → None ≡ point_at index
unfolding points
no_point_past index past = sym (ap (option_map (λ r. record { index = index; kind = r.kind; wait = r.wait })) (slice_get_past points index past))

-- an index that is not in the table
pub past_the_table : (index : ℕ) → 58 ≤ index → [] ≡ point_name index
unfolding points point_name
past_the_table index past = sym (ap (λ o. option_map_or (λ r. r.name) o []) (slice_get_past points index past))
