-- The encoding of statements as lines: the line kind and the arguments of each statement.
use Rattle.std.specs.Prelude.{ℕ, Bool, true, false, List, [], ◌∷◌, length, Option, Some, None}
use Rattle.pct_model.specs.declared.line_kind.LineKind.{LineKind}
use Rattle.pct_model.specs.declared.line_kind.LineKind.TheVariants as line_kind
use Rattle.pct_model.specs.declared.line_kind.ArgumentKind.{ArgumentKind}
use Rattle.pct_model.specs.declared.role.Role.{Role}
use Rattle.pct_model.specs.declared.parsed_line.Argument.{Argument}
use Rattle.pct_model.specs.declared.parsed_line.Argument.TheVariants as argument
use Rattle.pct_model.specs.declared.statement.Dest.{Dest}
use Rattle.pct_model.specs.declared.statement.Dest.TheVariants as destination
use Rattle.pct_model.specs.declared.statement.Operand.{Operand}
use Rattle.pct_model.specs.declared.statement.Operand.TheVariants as operand
use Rattle.pct_model.specs.declared.statement.Stmt.{Stmt}
use Rattle.pct_model.specs.declared.statement.Stmt.TheVariants as statement
use Rattle.pct_model.specs.LineKinds.{syntax_of}

-- ---- arguments

-- the argument that is a value
abbrev pub value : Operand → Argument
value (operand.Num n) = argument.Number n
value (operand.Local i) = argument.Local i
value (operand.Global i) = argument.Global i

-- the argument that is the destination of a value; `-` drops the value
abbrev pub dest : Dest → Argument
dest destination.Drop = argument.Nothing
dest (destination.Local i) = argument.Local i
dest (destination.Global i) = argument.Global i

-- the argument that is a function, or `-` for none
abbrev pub optional : Option ℕ → Argument
optional None = argument.Nothing
optional (Some f) = argument.Item f

-- the optional argument `detached`
abbrev pub detached_or_not : Bool → List Argument
detached_or_not true = argument.Flag true ∷ []
detached_or_not false = []

-- ---- the table

-- a line kind, and the arguments of a line of this kind
abbrev pub EncodedStmt : Type 0
EncodedStmt = LineKind × List Argument

-- the encoding of each statement
unfoldable pub encode : Stmt → EncodedStmt
encode (statement.Emit v) = (line_kind.Emit, value v ∷ [])
encode (statement.Set d v) = (line_kind.Set, dest d ∷ value v ∷ [])
encode (statement.Add d v) = (line_kind.Add, dest d ∷ value v ∷ [])
encode statement.Nop = (line_kind.Nop, [])
encode (statement.If v) = (line_kind.If, value v ∷ [])
encode statement.Else = (line_kind.Else, [])
encode (statement.While v) = (line_kind.While, value v ∷ [])
encode statement.End = (line_kind.End, [])
encode (statement.Do f v) = (line_kind.Do, argument.Item f ∷ value v ∷ [])
encode (statement.Return v) = (line_kind.Return, value v ∷ [])
encode (statement.Create result id f v detached) = (line_kind.Create, dest result ∷ dest id ∷ argument.Item f ∷ value v ∷ detached_or_not detached)
encode (statement.Join id d) = (line_kind.Join, value id ∷ dest d ∷ [])
encode (statement.Detach id) = (line_kind.Detach, value id ∷ [])
encode (statement.CancelThread id) = (line_kind.CancelThread, value id ∷ [])
encode (statement.SelfId d) = (line_kind.SelfId, dest d ∷ [])
encode (statement.ThreadExit v) = (line_kind.ThreadExit, value v ∷ [])
encode statement.TestCancel = (line_kind.TestCancel, [])
encode (statement.SetState enable old) = (line_kind.SetState, argument.Flag enable ∷ dest old ∷ [])
encode (statement.SetMode asynchronous old) = (line_kind.SetMode, argument.Flag asynchronous ∷ dest old ∷ [])
encode (statement.Push f v) = (line_kind.Push, argument.Item f ∷ value v ∷ [])
encode (statement.Pop v) = (line_kind.Pop, value v ∷ [])
encode (statement.KeyCreate result key f) = (line_kind.KeyCreate, dest result ∷ dest key ∷ optional f ∷ [])
encode (statement.KeyDelete key) = (line_kind.KeyDelete, value key ∷ [])
encode (statement.SetSpecific key v) = (line_kind.SetSpecific, value key ∷ value v ∷ [])
encode (statement.GetSpecific d key) = (line_kind.GetSpecific, dest d ∷ value key ∷ [])
encode (statement.Lock m) = (line_kind.Lock, argument.Item m ∷ [])
encode (statement.Unlock m) = (line_kind.Unlock, argument.Item m ∷ [])
encode (statement.CondWait c m) = (line_kind.CondWait, argument.Item c ∷ argument.Item m ∷ [])
encode (statement.CondTimedWait result c m) = (line_kind.CondTimedWait, dest result ∷ argument.Item c ∷ argument.Item m ∷ [])
encode (statement.Signal c) = (line_kind.Signal, argument.Item c ∷ [])
encode (statement.Broadcast c) = (line_kind.Broadcast, argument.Item c ∷ [])
encode (statement.SemWait s) = (line_kind.SemWait, argument.Item s ∷ [])
encode (statement.SemTimedWait result s) = (line_kind.SemTimedWait, dest result ∷ argument.Item s ∷ [])
encode (statement.SemPost s) = (line_kind.SemPost, argument.Item s ∷ [])
encode (statement.CallOnce o f) = (line_kind.CallOnce, argument.Item o ∷ argument.Item f ∷ [])
encode (statement.AtFork result prepare parent child) = (line_kind.AtFork, dest result ∷ optional prepare ∷ optional parent ∷ optional child ∷ [])
encode (statement.Fork result child) = (line_kind.Fork, dest result ∷ dest child ∷ [])
encode (statement.WaitPid result pid d) = (line_kind.WaitPid, dest result ∷ value pid ∷ dest d ∷ [])
encode (statement.AtExit result f) = (line_kind.AtExit, dest result ∷ argument.Item f ∷ [])
encode (statement.ProcExit v) = (line_kind.ProcExit, value v ∷ [])
encode (statement.ProcExitNow v) = (line_kind.ProcExitNow, value v ∷ [])
encode (statement.PointCall index) = (line_kind.Point index, [])

-- the line kind of a statement
abbrev pub line_kind_of_statement : Stmt → LineKind
line_kind_of_statement s = (encode s).0

-- the arguments of a statement
abbrev pub arguments_of : Stmt → List Argument
arguments_of s = (encode s).1

-- the kinds of a statement's arguments
abbrev pub argument_kinds_of : Stmt → List ArgumentKind
argument_kinds_of s = (syntax_of (line_kind_of_statement s)).argument_kinds (length (arguments_of s))

-- the role of a statement among the statements around it
abbrev pub role_of : Stmt → Role
role_of s = (syntax_of (line_kind_of_statement s)).role
