-- The script language's own statements. `next` is the pc of the next statement.
use Rattle.std.specs.Prelude.{ℕ, suc, ◌+◌, ◌%◌, if◌then◌else◌, List, [], ◌∷◌, unwrap_or, nat_eq, slice_index, Some}
use Rattle.pct_model.specs.declared.statement.Dest.{Dest}
use Rattle.pct_model.specs.declared.statement.Dest.TheVariants as destination
use Rattle.pct_model.specs.declared.statement.Stmt.{Stmt}
use Rattle.pct_model.specs.declared.event.What.TheVariants.{Emit}
use Rattle.pct_model.specs.declared.frame.Frame.{Frame}
use Rattle.pct_model.specs.declared.state.FrameKind.TheVariants as kind
use Rattle.pct_model.specs.declared.transition.OwnAction.TheVariants as own_action
use Rattle.pct_model.specs.declared.transition.Transition.{Transition}
use Rattle.pct_model.specs.Jumps.{holds, is_while, close_of}
use Rattle.pct_model.specs.Transitions.{goes_on}

-- `nop`, and each statement that only goes to a pc
unfoldable pub jumps : ℕ → Transition
jumps next = goes_on next []

-- `emit`: the event has the value
unfoldable pub emits : ℕ → ℕ → Transition
emits next v = goes_on next (Emit v ∷ [])

-- `set`: a variable gets a value
unfoldable pub sets : ℕ → Dest → ℕ → Transition
sets next d v = record (goes_on next []) { writes = (d, v) ∷ [] }

-- the value of a variable; `-`, which the grammar does not allow here, has the value 0
unfoldable pub variable_value : List ℕ → Frame → Dest → ℕ
variable_value globals frame destination.Drop = 0
variable_value globals frame (destination.Local i) = slice_index frame.locals i
variable_value globals frame (destination.Global i) = slice_index globals i

-- `add`: a variable is increased by a value, modulo 2^32
unfoldable pub adds : ℕ → Dest → ℕ → ℕ → Transition
adds next d old v = sets next d ((old + v) % 4294967296)

-- `do`: a call of a function
unfoldable pub calls : (next f v : ℕ) → Transition
calls next f v = record (goes_on next []) { own = Some (own_action.Call f v kind.Call) }

-- ---- jumps

-- the pc after the end of a block: after the `else` of an `if` that has one, else after its `end`
abbrev pub after_block : List Stmt → ℕ → ℕ
after_block body pc = suc (unwrap_or (close_of body pc) pc)

-- the pc after an `if` or `while` with this value
abbrev pub after_test : List Stmt → ℕ → ℕ → ℕ
after_test body pc v = if nat_eq v 0 then after_block body pc else suc pc

-- the pc after an `end` that closes the block opened at a pc: of a `while`, that `while`
abbrev pub after_end : List Stmt → ℕ → ℕ → ℕ
after_end body pc opened = if holds body is_while opened then opened else suc pc
