-- The parts of a block may cross threads as its values and its allocator may.
use Rattle.std.specs.Prelude.{ℕ, ◌+◌, List, [], ◌∷◌, Option, Some, None}
use Rattle.std.specs.Mem.{type_size}
use base.Fraction.{full_share}
use base.Shift.{Keyless}
use denote.RattleType.{RattleType}
use denote.RawPtr.{Ptr, block_ptr, null_ptr}
use denote.Struct.Struct.{exits_of}
use denote.Struct.Owning.{shape, fields, to}
use denote.Exit.{Exit, unchanged, leaves, hidden, under}
use denote.Param.Send.{Quiet, IsSend, IsSync, Common, AllSend, part_keyless, owning_send, struct_send, struct_sync, sendable, Frees}
use Rattle.std.specs.declared.alloc.Allocator.{Ghosts}
use Rattle.pct_stack.specs.Ownership.{cells, cells_lent, block_owns, block_lent}
use Rattle.pct_stack.specs.contracts.cells.Cells as Cells
use Rattle.pct_stack.specs.contracts.cells.FreeRight as FreeRight

quiet : {D X : Type 0} (to : D → X) (e : Exit X) → Quiet e → Quiet (hidden (under to e))
quiet to unchanged q = λ x w. tt
quiet to (leaves L l S s r₀) q = λ d. q (to d)

module _ (R : RattleType) where
  cells-Keyless : IsSend R → (b o : ℕ) (cs : List (Option R.Denot)) → Keyless (cells R b o cs)
  cells-Keyless s b o [] = tt
  cells-Keyless s b o (Some x ∷ cs) = (part_keyless R s full_share x b o, cells-Keyless s b (o + type_size R) cs)
  cells-Keyless s b o (None ∷ cs) = (tt, cells-Keyless s b (o + type_size R) cs)

  cells_lent-Common : IsSync R → (b o : ℕ) (cs : List (Option R.Denot)) → Common (cells_lent R b o cs)
  cells_lent-Common y b o [] κ = tt
  cells_lent-Common y b o (Some x ∷ cs) κ = (y.shared x b o κ, cells_lent-Common y b (o + type_size R) cs κ)
  cells_lent-Common y b o (None ∷ cs) κ = (tt, cells_lent-Common y b (o + type_size R) cs κ)

  block-Keyless : IsSend R → (p : Ptr) (cs : List (Option R.Denot)) → Keyless (block_owns R p cs)
  block-Keyless s (block_ptr b o) cs = (tt, cells-Keyless s b o cs)
  block-Keyless s null_ptr cs = tt

  block_lent-Common : IsSync R → (p : Ptr) (cs : List (Option R.Denot)) → Common (block_lent R p cs)
  block_lent-Common y (block_ptr b o) cs κ = (tt, cells_lent-Common y b o cs κ)
  block_lent-Common y null_ptr cs κ = tt

  pub Cells-send : IsSend R → IsSend (Cells.the_row R)
  Cells-send s =
      let O = Cells.the_type R in let all : AllSend (fields O) = (search sendable, tt) in
      owning_send O all (λ d. block-Keyless s d.at d.values) (λ k. quiet (to O) (exits_of k (fields O)) ((struct_send (shape O) all).leaving k))

  pub Cells-sync : IsSync R → IsSync (Cells.the_row R)
  Cells-sync y = let O = Cells.the_type R in record { shared = λ d b o κ. ((struct_sync (shape O) (search sendable, tt)).shared (to O d) b o κ, block_lent-Common y d.at d.values κ) }

  module _ (A : RattleType) (g : Ghosts A.Denot) where
    pub FreeRight-send : Frees g g.dealloc_token → IsSend (FreeRight.the_row R A g)
    FreeRight-send f =
        let O = FreeRight.the_type R A g in let all : AllSend (fields O) = (search sendable, tt) in
        owning_send O all (λ d. f.frees d.alloc _ d.at) (λ k. quiet (to O) (exits_of k (fields O)) ((struct_send (shape O) all).leaving k))

    pub FreeRight-sync : IsSync (FreeRight.the_row R A g)
    FreeRight-sync = let O = FreeRight.the_type R A g in record { shared = λ d b o κ. ((struct_sync (shape O) (search sendable, tt)).shared (to O d) b o κ, tt) }
