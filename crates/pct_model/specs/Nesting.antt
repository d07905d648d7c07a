-- The nesting of blocks: which blocks are open at a line, and which lines are allowed there. pthread_cleanup_push and
-- pthread_cleanup_pop pair in the same lexical scope (XSH pthread_cleanup_push). A line is given by its number and its
-- role.
use Rattle.std.specs.Prelude.{ℕ, Bool, true, false, List, [], ◌∷◌, map, Option, Some, None, Result, Ok, Err}
use Rattle.pct_model.specs.declared.role.Block.{Block}
use Rattle.pct_model.specs.declared.role.Block.TheVariants as block
use Rattle.pct_model.specs.declared.role.Change.{Change}
use Rattle.pct_model.specs.declared.role.Change.TheVariants.{Stays, Opens, Closes, Turns}
use Rattle.pct_model.specs.declared.line_kind.SymbolKind.{SymbolKind}
use Rattle.pct_model.specs.declared.line_kind.SymbolKind.TheVariants as kind
use Rattle.pct_model.specs.declared.role.Role.{Role}
use Rattle.pct_model.specs.declared.role.Role.TheVariants as role
use Rattle.pct_model.specs.declared.refusal.ParseWhy.{ParseWhy}
use Rattle.pct_model.specs.declared.refusal.ParseWhy.TheVariants.{Misplaced, StrayEnd, PopUnmatched, Unclosed}
use Rattle.pct_model.specs.LineParsing.{Numbered}
use Rattle.pct_model.specs.Spelling.{Fault}

-- ---- lines that are allowed

-- the change that a declaration makes outside functions: `fn` opens a block
abbrev pub opened_by : SymbolKind → Change
opened_by kind.Function = Opens block.Function
opened_by _ = Stays

-- the change that a line makes outside functions, or the reason to refuse it
unfoldable pub outside : Role → Result Change ParseWhy
outside (role.Declares k) = Ok (opened_by k)
outside role.Else = Err StrayEnd
outside role.End = Err StrayEnd
outside role.Pop = Err PopUnmatched
outside _ = Err Misplaced

-- `else` is allowed only in an `if` that has no `else` yet
abbrev pub else_in : Block → Result Change ParseWhy
else_in block.If = Ok Turns
else_in block.Push = Err Unclosed
else_in _ = Err StrayEnd

-- `end` closes any block but a push
abbrev pub end_in : Block → Result Change ParseWhy
end_in block.Push = Err Unclosed
end_in _ = Ok Closes

-- a pop closes a push, and no other block
abbrev pub pop_in : Block → Result Change ParseWhy
pop_in block.Push = Ok Closes
pop_in _ = Err PopUnmatched

-- the change that a line makes inside a block, or the reason to refuse it
unfoldable pub inside : Block → Role → Result Change ParseWhy
inside b (role.Declares k) = Err Misplaced
inside b (role.Opens inner) = Ok (Opens inner)
inside b role.Else = else_in b
inside b role.End = end_in b
inside b role.Pop = pop_in b
inside b _ = Ok Stays

-- ---- open blocks

-- the open blocks, the innermost first, each with the number of the line that opened it
abbrev pub Blocks : Type 0
Blocks = List (Numbered Block)

-- the change that a line makes where these blocks are open, or the reason to refuse it
unfoldable pub change_at : List Block → Role → Result Change ParseWhy
change_at [] r = outside r
change_at (b ∷ blocks) r = inside b r

-- the open blocks without their line numbers
abbrev pub kinds_of : Blocks → List Block
kinds_of blocks = map (λ b. b.1) blocks

-- the open blocks after line n; an `if` with its `else` is one block, opened at the `if`
unfoldable pub open_after_line : Blocks → ℕ → Change → Blocks
open_after_line blocks n Stays = blocks
open_after_line blocks n (Opens b) = (n, b) ∷ blocks
open_after_line [] n Closes = []
open_after_line (b ∷ blocks) n Closes = blocks
open_after_line [] n Turns = []
open_after_line (b ∷ blocks) n Turns = (b.0, block.Else) ∷ blocks

-- the fault of a line that is refused, or else the result of the lines after it
abbrev pub faulty_or : ℕ → Result Change ParseWhy → (Change → Option Fault) → Option Fault
faulty_or n (Ok change) after = after change
faulty_or n (Err why) after = Some (n, why)

-- the first fault of lines where these blocks are open before the first; after the last line no block may be open
unfoldable pub nesting_in : Blocks → List (Numbered Role) → Option Fault
nesting_in [] [] = None
nesting_in (b ∷ blocks) [] = Some (b.0, Unclosed)
nesting_in blocks (l ∷ lines) = faulty_or l.0 (change_at (kinds_of blocks) l.1) (λ change. nesting_in (open_after_line blocks l.0 change) lines)

-- the check of nesting: the first line that is refused, and the reason
abbrev pub nesting : List (Numbered Role) → Option Fault
nesting lines = nesting_in [] lines

-- ---- the check without line numbers

-- the open blocks after a line
unfoldable pub open_after : List Block → Change → List Block
open_after blocks Stays = blocks
open_after blocks (Opens b) = b ∷ blocks
open_after [] Closes = []
open_after (b ∷ blocks) Closes = blocks
open_after [] Turns = []
open_after (b ∷ blocks) Turns = block.Else ∷ blocks

-- the line is allowed, and the lines after it are
abbrev pub nests_or : Result Change ParseWhy → (Change → Bool) → Bool
nests_or (Ok change) after = after change
nests_or (Err why) after = false

-- where these blocks are open, each line is allowed, and after the last no block is open
unfoldable pub are_nested : List Block → List Role → Bool
are_nested [] [] = true
are_nested (b ∷ blocks) [] = false
are_nested blocks (r ∷ roles) = nests_or (change_at blocks r) (λ change. are_nested (open_after blocks change) roles)
