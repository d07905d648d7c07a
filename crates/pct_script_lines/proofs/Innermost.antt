-- The innermost open block decides about a line.
use Rattle.pct_names.proofs.Names.{[], Block, Blocks, change_at, inside, kinds_of, None, outside, refl, Role, slice_get, Some, ℕ, ◌∷◌, ◌≡◌}

-- a line inside the innermost block
pub inside_first : (blocks : Blocks) (n : ℕ) (b : Block) (r : Role) → slice_get blocks 0 ≡ Some (n, b) → inside b r ≡ change_at (kinds_of blocks) r
unfolding change_at
inside_first [] n b r e = absurd cc
inside_first (c ∷ blocks) n b r e = cc

-- a line where no block is open
pub outside_all : (blocks : Blocks) (r : Role) → slice_get blocks 0 ≡ None → outside r ≡ change_at (kinds_of blocks) r
unfolding change_at
outside_all [] r e = refl
outside_all (c ∷ blocks) r e = absurd cc
