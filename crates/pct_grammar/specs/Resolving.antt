-- Name resolution and decoding: the contents of a script from the parsed lines of its text, if each name is declared.
use Rattle.std.specs.Prelude.{ℕ, Bool, false, List, [], ◌∷◌, filter_map, Option, Some, None, slice_index_or, option_map}
use Rattle.pct_model.specs.declared.line_kind.LineKind.{LineKind}
use Rattle.pct_model.specs.declared.line_kind.LineKind.TheVariants as line_kind
use Rattle.pct_model.specs.declared.line_kind.SymbolKind.{SymbolKind}
use Rattle.pct_model.specs.declared.line_kind.SymbolKind.TheVariants as kind
use Rattle.pct_model.specs.declared.parsed_line.Argument.{Argument}
use Rattle.pct_model.specs.declared.parsed_line.Argument.TheVariants as argument
use Rattle.pct_model.specs.declared.parsed_line.ParsedLine.{ParsedLine}
use Rattle.pct_model.specs.declared.parsed_line.Token.{Token}
use Rattle.pct_model.specs.declared.parsed_line.Token.TheVariants as token
use Rattle.pct_model.specs.declared.script.Func.{Func}
use Rattle.pct_model.specs.declared.script.SemDecl.{SemDecl}
use Rattle.pct_model.specs.declared.statement.Dest.{Dest}
use Rattle.pct_model.specs.declared.statement.Dest.TheVariants as destination
use Rattle.pct_model.specs.declared.statement.Operand.{Operand}
use Rattle.pct_model.specs.declared.statement.Operand.TheVariants as operand
use Rattle.pct_model.specs.declared.statement.Stmt.{Stmt}
use Rattle.pct_model.specs.declared.statement.Stmt.TheVariants as statement
use Rattle.pct_model.specs.Lines.{◌>>=◌}
use Rattle.pct_model.specs.Contents.{Contents, resolve_all}
use Rattle.pct_model.specs.Sections.{Line, Section, argument_kinds_in, declaring, locals_of, names_declared, functions_in}

-- ---- arguments

-- the operand of an argument
unfoldable pub value_in : Argument → Operand
value_in (argument.Number n) = operand.Num n
value_in (argument.Local i) = operand.Local i
value_in (argument.Global i) = operand.Global i
value_in (argument.Item i) = operand.Num 0
value_in argument.Nothing = operand.Num 0
value_in (argument.Flag is_set) = operand.Num 0

-- the destination of an argument
unfoldable pub dest_in : Argument → Dest
dest_in (argument.Number n) = destination.Drop
dest_in (argument.Local i) = destination.Local i
dest_in (argument.Global i) = destination.Global i
dest_in (argument.Item i) = destination.Drop
dest_in argument.Nothing = destination.Drop
dest_in (argument.Flag is_set) = destination.Drop

-- the index of an argument
unfoldable pub item_in : Argument → ℕ
item_in (argument.Item i) = i
item_in _ = 0

-- the index of an argument that may be `-`
unfoldable pub optional_in : Argument → Option ℕ
optional_in (argument.Item i) = Some i
optional_in _ = None

-- the flag of an argument
unfoldable pub flag_in : Argument → Bool
flag_in (argument.Flag is_set) = is_set
flag_in _ = false

-- the argument at an argument position, or nothing
abbrev pub at : List Argument → ℕ → Argument
at arguments i = slice_index_or arguments i argument.Nothing

-- ---- statements

-- the statement of a line kind with these arguments; a declaration has none, and gives a statement that is never used
unfoldable pub decode : LineKind → List Argument → Stmt
decode (line_kind.Declares k) arguments = statement.Nop
decode line_kind.Emit arguments = statement.Emit (value_in (at arguments 0))
decode line_kind.Set arguments = statement.Set (dest_in (at arguments 0)) (value_in (at arguments 1))
decode line_kind.Add arguments = statement.Add (dest_in (at arguments 0)) (value_in (at arguments 1))
decode line_kind.Nop arguments = statement.Nop
decode line_kind.If arguments = statement.If (value_in (at arguments 0))
decode line_kind.Else arguments = statement.Else
decode line_kind.While arguments = statement.While (value_in (at arguments 0))
decode line_kind.End arguments = statement.End
decode line_kind.Do arguments = statement.Do (item_in (at arguments 0)) (value_in (at arguments 1))
decode line_kind.Return arguments = statement.Return (value_in (at arguments 0))
decode line_kind.Create arguments = statement.Create (dest_in (at arguments 0)) (dest_in (at arguments 1)) (item_in (at arguments 2)) (value_in (at arguments 3)) (flag_in (at arguments 4))
decode line_kind.Join arguments = statement.Join (value_in (at arguments 0)) (dest_in (at arguments 1))
decode line_kind.Detach arguments = statement.Detach (value_in (at arguments 0))
decode line_kind.CancelThread arguments = statement.CancelThread (value_in (at arguments 0))
decode line_kind.SelfId arguments = statement.SelfId (dest_in (at arguments 0))
decode line_kind.ThreadExit arguments = statement.ThreadExit (value_in (at arguments 0))
decode line_kind.TestCancel arguments = statement.TestCancel
decode line_kind.SetState arguments = statement.SetState (flag_in (at arguments 0)) (dest_in (at arguments 1))
decode line_kind.SetMode arguments = statement.SetMode (flag_in (at arguments 0)) (dest_in (at arguments 1))
decode line_kind.Push arguments = statement.Push (item_in (at arguments 0)) (value_in (at arguments 1))
decode line_kind.Pop arguments = statement.Pop (value_in (at arguments 0))
decode line_kind.KeyCreate arguments = statement.KeyCreate (dest_in (at arguments 0)) (dest_in (at arguments 1)) (optional_in (at arguments 2))
decode line_kind.KeyDelete arguments = statement.KeyDelete (value_in (at arguments 0))
decode line_kind.SetSpecific arguments = statement.SetSpecific (value_in (at arguments 0)) (value_in (at arguments 1))
decode line_kind.GetSpecific arguments = statement.GetSpecific (dest_in (at arguments 0)) (value_in (at arguments 1))
decode line_kind.Lock arguments = statement.Lock (item_in (at arguments 0))
decode line_kind.Unlock arguments = statement.Unlock (item_in (at arguments 0))
decode line_kind.CondWait arguments = statement.CondWait (item_in (at arguments 0)) (item_in (at arguments 1))
decode line_kind.CondTimedWait arguments = statement.CondTimedWait (dest_in (at arguments 0)) (item_in (at arguments 1)) (item_in (at arguments 2))
decode line_kind.Signal arguments = statement.Signal (item_in (at arguments 0))
decode line_kind.Broadcast arguments = statement.Broadcast (item_in (at arguments 0))
decode line_kind.SemWait arguments = statement.SemWait (item_in (at arguments 0))
decode line_kind.SemTimedWait arguments = statement.SemTimedWait (dest_in (at arguments 0)) (item_in (at arguments 1))
decode line_kind.SemPost arguments = statement.SemPost (item_in (at arguments 0))
decode line_kind.CallOnce arguments = statement.CallOnce (item_in (at arguments 0)) (item_in (at arguments 1))
decode line_kind.AtFork arguments = statement.AtFork (dest_in (at arguments 0)) (optional_in (at arguments 1)) (optional_in (at arguments 2)) (optional_in (at arguments 3))
decode line_kind.Fork arguments = statement.Fork (dest_in (at arguments 0)) (dest_in (at arguments 1))
decode line_kind.WaitPid arguments = statement.WaitPid (dest_in (at arguments 0)) (value_in (at arguments 1)) (dest_in (at arguments 2))
decode line_kind.AtExit arguments = statement.AtExit (dest_in (at arguments 0)) (item_in (at arguments 1))
decode line_kind.ProcExit arguments = statement.ProcExit (value_in (at arguments 0))
decode line_kind.ProcExitNow arguments = statement.ProcExitNow (value_in (at arguments 0))
decode (line_kind.Point index) arguments = statement.PointCall index

-- ---- lines

-- the statement of a line in a function with these locals, where these names of each kind are declared
unfoldable pub resolve_statement : (SymbolKind → List (List ℕ)) → List (List ℕ) → ParsedLine → Option Stmt
resolve_statement names locals line = option_map (decode line.line_kind) (resolve_all names locals (argument_kinds_in line) line.tokens)

-- the statements of lines
unfoldable pub resolve_body : (SymbolKind → List (List ℕ)) → List (List ℕ) → List Line → Option (List Stmt)
resolve_body names locals [] = Some []
resolve_body names locals (l ∷ lines) = do
  first ← resolve_statement names locals l.1
  option_map (λ others. first ∷ others) (resolve_body names locals lines)

-- ---- declarations

-- the first token, if it is a name
abbrev pub first_name : List Token → List ℕ
first_name (token.Name name ∷ words) = name
first_name _ = []

-- the function of a section that begins with `fn`
unfoldable pub resolve_function : (SymbolKind → List (List ℕ)) → Section → Option Func
resolve_function names section =
    option_map (λ body. record { name = first_name section.header.1.tokens; locals = locals_of section.header.1; body = body }) (resolve_body names (locals_of section.header.1) section.body)

-- the functions of sections
unfoldable pub resolve_functions : (SymbolKind → List (List ℕ)) → List Section → Option (List Func)
resolve_functions names [] = Some []
resolve_functions names (section ∷ sections) = do
  first ← resolve_function names section
  option_map (λ others. first ∷ others) (resolve_functions names sections)

-- the semaphore that the tokens of a `sem` line declare
abbrev pub sem_in : List Token → Option SemDecl
sem_in (token.Name name ∷ token.Number n ∷ words) = Some (record { name = name; count = n })
sem_in _ = None

-- the semaphores that lines declare
unfoldable pub sems_in : List Line → List SemDecl
sems_in lines = filter_map (λ l. sem_in l.1.tokens) (declaring kind.Sem lines)

-- the contents of the script
unfoldable pub resolve_contents : List Line → Option Contents
resolve_contents lines =
    option_map (λ funcs. record { globals = names_declared lines kind.Global; mutexes = names_declared lines kind.Mutex; conds = names_declared lines kind.Cond; sems = sems_in lines; onces = names_declared lines kind.Once; funcs = funcs })
    (resolve_functions (names_declared lines) (functions_in lines))
