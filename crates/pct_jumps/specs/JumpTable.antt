-- The jump table of a script: where the block that a statement opens closes, and where the block that it closes opens.
use Rattle.std.specs.Prelude.{◌≡◌, ℕ, Bool, true, ◌||◌, List, length, map, Option, slice_get, option_and_then}
use Rattle.std.specs.List.{range_with_len}
use Rattle.std.specs.Option.{option_flatten}
use Rattle.pct_model.specs.declared.script.Func.{Func}
use Rattle.pct_model.specs.declared.script.Script.{Script}
use Rattle.pct_model.specs.declared.statement.Stmt.{Stmt}
use Rattle.pct_model.specs.Jumps.{is_if, is_else, is_while, holds, close_of, open_of}
use Rattle.pct_model.specs.World.{body_of}
use Rattle.pct_jumps.specs.declared.jump_table.Blocks.{Blocks}

-- the jump table of a body
abbrev pub blocks_of : List Stmt → Blocks
blocks_of body = record { closes = map (close_of body) (range_with_len 0 (length body)); opens = map (open_of body) (range_with_len 0 (length body)) }

-- the jump tables of functions
abbrev pub jumps_of : List Func → List Blocks
jumps_of funcs = map (λ f. blocks_of f.body) funcs

-- an `if`, an `else` or a `while`
abbrev pub opens_block : Stmt → Bool
opens_block s = is_if s || is_else s || is_while s

-- the statement at a program counter opens a block, in a script whose jump table this is
pub record IsOpening (jumps : List Blocks) (func pc : ℕ) : Type 0 where
  pub script : Script
  pub made : jumps ≡ jumps_of script.funcs
  -- the statement at the program counter is an `if`, an `else` or a `while`
  pub opening : holds (body_of script func) opens_block pc ≡ true

-- where the block that a statement opens closes, by the table
unfoldable pub closing : List Blocks → ℕ → ℕ → Option ℕ
closing jumps func pc = option_and_then (λ b. option_flatten (slice_get b.closes pc)) (slice_get jumps func)

-- and where the block that an `end` closes opens
unfoldable pub opening : List Blocks → ℕ → ℕ → Option ℕ
opening jumps func pc = option_and_then (λ b. option_flatten (slice_get b.opens pc)) (slice_get jumps func)
