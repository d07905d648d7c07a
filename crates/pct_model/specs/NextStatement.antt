-- The statement that a thread executes next.
use Rattle.std.specs.Prelude.{List, [], ◌∷◌, Option, Some, None}
use Rattle.pct_model.specs.declared.script.Script.{Script}
use Rattle.pct_model.specs.declared.statement.Stmt.{Stmt}
use Rattle.pct_model.specs.declared.frame.Frame.{Frame}
use Rattle.pct_model.specs.World.{body_of, statement_at}

-- the statement that a thread executes next, and the frame in which it does, if there is one
pub data NextStatement : Type 0 where
  NoStatement : NextStatement
  StatementIn : Frame → Stmt → NextStatement

-- the next statement of a frame
abbrev pub next_in : Frame → Option Stmt → NextStatement
next_in frame None = NoStatement
next_in frame (Some s) = StatementIn frame s

-- the next statement of a thread with these frames: that of its top frame
abbrev pub next_of : Script → List Frame → NextStatement
next_of script [] = NoStatement
next_of script (frame ∷ below) = next_in frame (statement_at script frame)

-- the body of the function in the top frame
abbrev pub body_at : Script → List Frame → List Stmt
body_at script [] = []
body_at script (frame ∷ below) = body_of script frame.func
