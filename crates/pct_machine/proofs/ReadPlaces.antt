-- The processes on the places of a machine.
use Rattle.pct_names.proofs.Names.{◌<◌, ap, get_or, length, List, refl, slice_get, slice_get_read, Some, sym, ℕ, ◌∙◌, ◌≡◌}
use Rattle.pct_engine_laws.specs.Seen.{Seen, SeenProcess}

-- the process at an index of the list of places
pub process_read : (v : Seen) (places kept : List SeenProcess) (i : ℕ) (p : SeenProcess) → places ≡ kept → kept ≡ v.processes → i < length places → p ≡ get_or places i p → slice_get v.processes i ≡ Some p
process_read v places kept i p value view within read = ap (λ (ps : List SeenProcess). slice_get ps i) (sym (value ∙ view)) ∙ slice_get_read places (length places) i p refl within read
