-- The slots of a process with the rows of their thread-specific data.
use Rattle.pct_names.proofs.Names.{◌<◌, [], ap, arith, get_or, KeyValues, length, List, refl, slice_get, slice_get-get_or, slice_set, Some}
use Rattle.pct_names.proofs.Names.{suc, zero, ℕ, ◌∙◌, ◌∷◌, ◌≡◌}
use Rattle.pct_engine_laws.specs.Seen.{SeenSlot}
use Rattle.pct_process.specs.ProcessViews.{with_row, with_rows}

-- ---- by index

pub length-with_rows : (rows : List KeyValues) (slots : List SeenSlot) → length (with_rows rows slots) ≡ length slots
length-with_rows rows [] = refl
length-with_rows [] (s ∷ slots) = refl
length-with_rows (row ∷ rows) (s ∷ slots) = ap suc (length-with_rows rows slots)

-- a slot with its row
pub get_or-with_rows : (rows : List KeyValues) (slots : List SeenSlot) (j : ℕ) (r : KeyValues) (d e : SeenSlot) → length rows ≡ length slots → j < length slots → get_or (with_rows rows slots) j d ≡ with_row (get_or rows j r) (get_or slots j e)
get_or-with_rows rows [] j r d e same inside = absurd (omega (arith, inside))
get_or-with_rows [] (s ∷ slots) j r d e same inside = absurd (omega (arith, same))
get_or-with_rows (row ∷ rows) (s ∷ slots) zero r d e same inside = refl
get_or-with_rows (row ∷ rows) (s ∷ slots) (suc j) r d e same inside = get_or-with_rows rows slots j r d e (omega (arith, same)) (omega (arith, inside))

pub slice_get-with_rows : (rows : List KeyValues) (slots : List SeenSlot) (j : ℕ) (r : KeyValues) (e : SeenSlot) → length rows ≡ length slots → j < length slots → slice_get (with_rows rows slots) j ≡ Some (with_row (get_or rows j r) (get_or slots j e))
slice_get-with_rows rows slots j r e same inside =
    let low : j < length (with_rows rows slots) = rw (length-with_rows rows slots) inside in
    slice_get-get_or (with_rows rows slots) j e low ∙ ap (λ (s : SeenSlot). Some s) (get_or-with_rows rows slots j r e e same inside)

-- the slots with a change of one
pub set-with_rows : (rows : List KeyValues) (slots : List SeenSlot) (j : ℕ) (r : KeyValues) (s : SeenSlot) → length rows ≡ length slots → with_rows (slice_set rows j r) (slice_set slots j s) ≡ slice_set (with_rows rows slots) j (with_row r s)
set-with_rows [] [] j r s same = refl
set-with_rows (row ∷ rows) [] j r s same = absurd (omega (arith, same))
set-with_rows [] (x ∷ slots) j r s same = absurd (omega (arith, same))
set-with_rows (row ∷ rows) (x ∷ slots) zero r s same = refl
set-with_rows (row ∷ rows) (x ∷ slots) (suc j) r s same = ap (λ (rest : List SeenSlot). with_row row x ∷ rest) (set-with_rows rows slots j r s (omega (arith, same)))
