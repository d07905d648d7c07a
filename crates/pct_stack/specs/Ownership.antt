-- What the parts of a block own and lend, where the type of a value is R.
use Rattle.std.specs.Prelude.{ℕ, ◌+◌, ◌*◌, ◌^◌, List, [], ◌∷◌, length, Option, Some, None}
use Rattle.std.specs.Mem.{type_size}
use base.Fraction.{full_share}
use base.Fml.{Lft, Fml, ftrue, ffalse, fsep, flt, froom}
use mir.Syntax.{Ty, ty_array}
use mir.Raw.{raw}
use denote.RattleType.{RattleType}
use denote.Memory.{lone, part_at, shared_of}
use denote.Sharing.{nothing, said, beside}
use denote.RawPtr.{Ptr, block_ptr, null_ptr}

module _ (R : RattleType) where
  -- a cell, o bytes into the block b
  abbrev pub cell : ℕ → ℕ → Option R.Denot → Fml
  cell b o (Some x) = part_at R full_share x b o
  cell b o None = froom (raw (lone R.mir)) b o

  -- cells side by side
  abbrev pub cells : ℕ → ℕ → List (Option R.Denot) → Fml
  cells b o [] = ftrue
  cells b o (c ∷ cs) = fsep (cell b o c) (cells b (o + type_size R) cs)

  -- what a `&` to the owner has of a cell
  abbrev pub cell_lent : ℕ → ℕ → Option R.Denot → Lft → Fml
  cell_lent b o (Some x) = shared_of R x b o
  cell_lent b o None = nothing

  -- and of the cells
  abbrev pub cells_lent : ℕ → ℕ → List (Option R.Denot) → Lft → Fml
  cells_lent b o [] = nothing
  cells_lent b o (c ∷ cs) = beside (cell_lent b o c) (cells_lent b (o + type_size R) cs)

  -- the cells take fewer than 2 ^ 63 bytes
  abbrev pub fit : List (Option R.Denot) → Fml
  fit cs = flt (length cs * type_size R) (2 ^ 63)

  -- what the owner of the cells from an address on owns
  abbrev pub block_owns : Ptr → List (Option R.Denot) → Fml
  block_owns (block_ptr b o) cs = fsep (fit cs) (cells b o cs)
  block_owns null_ptr cs = ffalse

  -- and what a `&` to it has
  abbrev pub block_lent : Ptr → List (Option R.Denot) → Lft → Fml
  block_lent (block_ptr b o) cs = beside (said (fit cs)) (cells_lent b o cs)
  block_lent null_ptr cs = said ffalse

  -- the allocator's token for a block of n cells
  abbrev pub right_owns : (Ty → Ptr → Fml) → Ptr → ℕ → Fml
  right_owns token p n = token (raw (ty_array (lone R.mir) n)) p
