-- What a step reads of a thread.
use Rattle.std.specs.Prelude.{◌≡◌, ◌<◌, length, Option, Some, None, IfSome}
use Rattle.pct_model.specs.declared.script.Script.{Script}
use Rattle.pct_model.specs.World.{Thread, statement_at}
use Rattle.pct_model.specs.NextStatement.{NextStatement, NoStatement, StatementIn, next_of}
use Rattle.pct_keys.specs.Tables.{row_at}
use Rattle.pct_step_context.specs.declared.current.At.{At}
use Rattle.pct_step_context.specs.declared.position.Position.{Position}

-- the next statement of a thread
abbrev pub next_at : Option At → NextStatement
next_at None = NoStatement
next_at (Some at) = StatementIn at.frame at.statement.now

-- the statement is the one at the frame's pc
abbrev pub IsAt : Script → At → Type 0
IsAt script at = statement_at script at.frame ≡ Some at.statement.now

-- the next statement is decoded
abbrev pub IsDecoded : Script → Option At → Type 0
IsDecoded script next = IfSome next (IsAt script)

-- this is the position of the thread
pub record IsPosition (script : Script) (position : Position) (t : Thread) : Type 0 where
  pub id_is : position.id ≡ t.id
  pub next_is : next_at position.next ≡ next_of script t.frames
  pub depth_is : position.depth ≡ length t.frames
  pub handlers_are : position.thread.now.handlers ≡ t.handlers
  pub status_is : position.thread.now.status ≡ t.status
  pub reason_is : position.thread.now.reason ≡ t.reason
  pub pass_is : position.thread.now.pass ≡ t.pass
  pub state_is : position.thread.now.cancel.state ≡ t.state
  pub mode_is : position.thread.now.cancel.mode ≡ t.mode
  pub pending_is : position.thread.now.cancel.pending ≡ t.pending
  pub kept_is : position.thread.now.kept ≡ t.kept
  pub row_is : row_at position.keys.now position.slot ≡ t.specific

-- the slot of the position has a row
abbrev pub HasRow : Position → Type 0
HasRow position = position.slot < length position.keys.now.rows
