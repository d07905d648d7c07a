-- The next statement of a thread is that at the pc of its top frame.
use Rattle.pct_names.proofs.Names.{[], ap, body_at, body_of, false≢true, Frame, is_timed_wait, List, next_in, next_of, NextStatement, None}
use Rattle.pct_names.proofs.Names.{NoStatement, Option, refl, Script, Some, statement_at, StatementIn, Stmt, true, ◌∙◌, ◌∷◌, ◌≡◌}

-- the next statement of a thread with these frames, and the body of which it is
pub data IsPlaced (script : Script) : List Frame → List Stmt → NextStatement → Type 0 where
  nowhere : (frames : List Frame) (body : List Stmt) → IsPlaced script frames body NoStatement
  on_top : (frame : Frame) (below : List Frame) (s : Stmt) → statement_at script frame ≡ Some s → IsPlaced script (frame ∷ below) (body_of script frame.func) (StatementIn frame s)

pub is_placed : (script : Script) (frames : List Frame) → IsPlaced script frames (body_at script frames) (next_of script frames)
is_placed script [] = nowhere [] []
is_placed script (frame ∷ below) = by_statement (statement_at script frame) refl
  where
    by_statement : (found : Option Stmt) → statement_at script frame ≡ found → IsPlaced script (frame ∷ below) (body_of script frame.func) (next_in frame found)
    by_statement None is = nowhere (frame ∷ below) (body_of script frame.func)
    by_statement (Some s) is = on_top frame below s is

module _ {script : Script} where
  pub statement_placed : {frames : List Frame} {body : List Stmt} {frame : Frame} {s : Stmt} → IsPlaced script frames body (StatementIn frame s) → statement_at script frame ≡ Some s
  statement_placed (on_top frame below s at) = at

  pub next_placed : {frames : List Frame} {body : List Stmt} {frame : Frame} {s : Stmt} → IsPlaced script frames body (StatementIn frame s) → next_of script frames ≡ StatementIn frame s
  next_placed (on_top frame below s at) = ap (next_in frame) at

  pub timed_placed : {frames : List Frame} {body : List Stmt} {next : NextStatement} → IsPlaced script frames body next → is_timed_wait next ≡ true → is_timed_wait (next_of script frames) ≡ true
  timed_placed (nowhere frames body) timed = absurd (false≢true timed)
  timed_placed (on_top frame below s at) timed = ap is_timed_wait (next_placed (on_top frame below s at)) ∙ timed

  pub body_placed : {frames : List Frame} {body : List Stmt} {frame : Frame} {s : Stmt} → IsPlaced script frames body (StatementIn frame s) → body ≡ body_of script frame.func
  body_placed (on_top frame below s at) = refl
