-- A `&` to the owner of cells is made where one to a value is. Assumes `Logic`.
use Prim.Native.Nat.{ℕ, ◌+◌}
use Rattle.std.specs.Prelude.{List, [], ◌∷◌, Option, Some, None}
use Rattle.std.specs.Mem.{type_size}
use seplogic.Ra.Ura.{Ura}
use base.Fml.{Lft, Incl, ftrue, ffalse}
use types.Logic.{Logic}
use denote.RattleType.{RattleType, RowLaws}
use denote.Param.Laws.{Laws}
use denote.RawPtr.{Ptr, block_ptr, null_ptr}
use denote.Sharing.{ShrLaws, said}
use denote.SharingLaws.{beside_shr_laws, nothing_shr_laws, said_shr_laws}
use denote.Shares.{Shares-less}
use denote.Struct.Lending.{Lends, Lends-both, Lends-nothing, Lends-said, Lends-false}
use Rattle.pct_stack.specs.Ownership.{cell, cells, cell_lent, cells_lent, fit, block_owns, block_lent}

module _ (R : RattleType) (L : RowLaws R) where
  cell_lent_laws : (b o : ℕ) (c : Option R.Denot) → ShrLaws (cell_lent R b o c)
  cell_lent_laws b o (Some x) = L x b o
  cell_lent_laws b o None = nothing_shr_laws

  cells_lent_laws : (b o : ℕ) (cs : List (Option R.Denot)) → ShrLaws (cells_lent R b o cs)
  cells_lent_laws b o [] = nothing_shr_laws
  cells_lent_laws b o (c ∷ cs) = beside_shr_laws _ _ (cell_lent_laws b o c) (cells_lent_laws b (o + type_size R) cs)

  pub block_lent_laws : (p : Ptr) (cs : List (Option R.Denot)) → ShrLaws (block_lent R p cs)
  block_lent_laws (block_ptr b o) cs = beside_shr_laws _ _ (said_shr_laws (fit R cs) tt) (cells_lent_laws b o cs)
  block_lent_laws null_ptr cs = said_shr_laws ffalse tt

module _ {M : Type 1} {𝓤 : Ura M} (𝓛 : Logic 𝓤) (l : Lft) (R : RattleType) (L : Laws R) (inc : Incl l R.lives) where
  Lends-cell : (b o : ℕ) (c : Option R.Denot) → Lends 𝓛 (cell R b o c) (cell_lent R b o c) l
  Lends-cell b o (Some x) = λ κ ts. Shares-less 𝓛 R R.lives l inc (L.shares 𝓛) x κ ts b o
  Lends-cell b o None = Lends-nothing 𝓛 (cell R b o None) l

  Lends-cells : (b o : ℕ) (cs : List (Option R.Denot)) → Lends 𝓛 (cells R b o cs) (cells_lent R b o cs) l
  Lends-cells b o [] = Lends-nothing 𝓛 ftrue l
  Lends-cells b o (c ∷ cs) =
      Lends-both 𝓛 (cell R b o c) (cells R b (o + type_size R) cs) (cell_lent R b o c) (cells_lent R b (o + type_size R) cs) l (Lends-cell b o c) (Lends-cells b (o + type_size R) cs)

  pub Lends-block : (p : Ptr) (cs : List (Option R.Denot)) → Lends 𝓛 (block_owns R p cs) (block_lent R p cs) l
  Lends-block (block_ptr b o) cs = Lends-both 𝓛 (fit R cs) (cells R b o cs) (said (fit R cs)) (cells_lent R b o cs) l (Lends-said 𝓛 (fit R cs) tt l) (Lends-cells b o cs)
  Lends-block null_ptr cs = Lends-false 𝓛 (said ffalse) l
