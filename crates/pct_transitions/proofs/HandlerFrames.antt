-- The frames of a thread, from an index on: whether one of them is that of a cleanup handler or of a destructor.
use Rattle.pct_names.proofs.Names.{◌+◌, ◌||◌, [], add-one, ap, Bool, drop, false, Frame, is_handler_kind, is_in_handler, List}
use Rattle.pct_names.proofs.Names.{option_map_or, refl, slice_get, suc, sym, true, zero, ℕ, ◌∙◌, ◌∷◌, ◌≡◌}

-- the frame at an index, if there is one, is that of a handler
abbrev pub is_handler_at : List Frame → ℕ → Bool
is_handler_at frames i = option_map_or (λ frame. is_handler_kind frame.kind) (slice_get frames i) false

-- the frame there, and those after it
from_index : (frames : List Frame) (i : ℕ) → is_in_handler (drop i frames) ≡ (is_handler_at frames i || is_in_handler (drop (suc i) frames))
from_index [] zero = refl
from_index [] (suc i) = refl
from_index (frame ∷ below) zero = refl
from_index (frame ∷ below) (suc i) = from_index below i

module _ (frames : List Frame) (i : ℕ) (test : Bool) (is : test ≡ is_handler_at frames i) where
  -- it is that of a handler
  pub found : test ≡ true → is_in_handler (drop i frames) ≡ true
  found hit = from_index frames i ∙ ap (λ (b : Bool). b || is_in_handler (drop (suc i) frames)) (sym is ∙ hit)

  -- it is not
  pub passed : test ≡ false → is_in_handler (drop (i + 1) frames) ≡ is_in_handler (drop i frames)
  passed miss =
      ap (λ (n : ℕ). is_in_handler (drop n frames)) (add-one i)
      ∙ sym (from_index frames i ∙ ap (λ (b : Bool). b || is_in_handler (drop (suc i) frames)) (sym is ∙ miss))
