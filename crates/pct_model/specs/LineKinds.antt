-- The kinds of lines in a script, and the syntax of each: its keyword, the kinds of its arguments, and its role among
-- the lines around it. Parsing, the canonical text and all checks use this one table.
use Rattle.std.specs.Prelude.{ℕ, ◌-◌, min, Bool, true, false, if◌then◌else◌, List, [], ◌∷◌, replicate, Option, Some, None, codes, bytes_eq, find, option_map, option_and_then}
use Rattle.std.specs.Option.{option_or}
use Rattle.pct_model.specs.declared.role.Block.TheVariants as block
use Rattle.pct_model.specs.declared.line_kind.LineKind.{LineKind}
use Rattle.pct_model.specs.declared.line_kind.LineKind.TheVariants as line_kind
use Rattle.pct_model.specs.declared.line_kind.SymbolKind.{SymbolKind}
use Rattle.pct_model.specs.declared.line_kind.SymbolKind.TheVariants as kind
use Rattle.pct_model.specs.declared.line_kind.ArgumentKind.{ArgumentKind}
use Rattle.pct_model.specs.declared.line_kind.ArgumentKind.TheVariants.{Declared, Local, Count, Operand, Variable, Dest, Item, OptionalFunction, PlainFunction, OptionalPlainFunction, State, Mode, Detached}
use Rattle.pct_model.specs.declared.role.Role.{Role}
use Rattle.pct_model.specs.declared.role.Role.TheVariants as role
use Rattle.pct_model.specs.declared.point.PointKind.{PointKind}
use Rattle.pct_model.specs.declared.point.PointKind.TheVariants.{Required, Optional}
use Rattle.pct_model.specs.declared.point.PointWait.{PointWait}
use Rattle.pct_model.specs.declared.point.PointWait.TheVariants.{NoWait, Outside, Never, Inside}
use Rattle.pct_model.specs.Points.{point_of, point_name}

-- the syntax of a line: its keyword, the kinds of its arguments when it has n of them, and its role
pub record Syntax : Type 0 where
  pub keyword : List ℕ
  pub argument_kinds : ℕ → List ArgumentKind
  pub role : Role

-- the syntax of a line whose argument kinds do not depend on the number of its arguments
abbrev pub line : List ℕ → List ArgumentKind → Role → Syntax
line word argument_kinds role = record { keyword = word; argument_kinds = λ n. argument_kinds; role = role }

-- ---- argument kinds

-- the name of a function
abbrev pub function : ArgumentKind
function = Item kind.Function

-- the name of a mutex
abbrev pub mutex : ArgumentKind
mutex = Item kind.Mutex

-- the name of a condition variable
abbrev pub cond_variable : ArgumentKind
cond_variable = Item kind.Cond

-- the name of a semaphore
abbrev pub semaphore : ArgumentKind
semaphore = Item kind.Sem

-- the name of a once control
abbrev pub once_control : ArgumentKind
once_control = Item kind.Once

-- the arguments of `fn`: the function's name, its parameter, and its other locals
abbrev pub fn_argument_kinds : ℕ → List ArgumentKind
fn_argument_kinds n = Declared ∷ Local ∷ replicate (n - 2) Local

-- the arguments of `pthread_create`: four, and `detached` as an optional fifth
abbrev pub create_argument_kinds : ℕ → List ArgumentKind
create_argument_kinds n = Dest ∷ Dest ∷ function ∷ Operand ∷ replicate (min 1 (n - 4)) Detached

-- ---- the table

-- the syntax of a declaration of each kind
unfoldable pub declaration_syntax : SymbolKind → Syntax
declaration_syntax kind.Global = line (codes "global") (Declared ∷ []) (role.Declares kind.Global)
declaration_syntax kind.Mutex = line (codes "mutex") (Declared ∷ []) (role.Declares kind.Mutex)
declaration_syntax kind.Cond = line (codes "cond") (Declared ∷ []) (role.Declares kind.Cond)
declaration_syntax kind.Sem = line (codes "sem") (Declared ∷ Count ∷ []) (role.Declares kind.Sem)
declaration_syntax kind.Once = line (codes "once") (Declared ∷ []) (role.Declares kind.Once)
declaration_syntax kind.Function = record { keyword = codes "fn"; argument_kinds = fn_argument_kinds; role = role.Declares kind.Function }

-- the syntax of each kind of line; a cancellation point is called by its name, without arguments
unfoldable pub syntax_of : LineKind → Syntax
syntax_of (line_kind.Declares k) = declaration_syntax k
syntax_of line_kind.Emit = line (codes "emit") (Operand ∷ []) role.Plain
syntax_of line_kind.Set = line (codes "set") (Variable ∷ Operand ∷ []) role.Plain
syntax_of line_kind.Add = line (codes "add") (Variable ∷ Operand ∷ []) role.Plain
syntax_of line_kind.Nop = line (codes "nop") [] role.Other
syntax_of line_kind.If = line (codes "if") (Operand ∷ []) (role.Opens block.If)
syntax_of line_kind.Else = line (codes "else") [] role.Else
syntax_of line_kind.While = line (codes "while") (Operand ∷ []) (role.Opens block.While)
syntax_of line_kind.End = line (codes "end") [] role.End
syntax_of line_kind.Do = line (codes "do") (function ∷ Operand ∷ []) role.Other
syntax_of line_kind.Return = line (codes "return") (Operand ∷ []) role.Return
syntax_of line_kind.Create = record { keyword = codes "pthread_create"; argument_kinds = create_argument_kinds; role = role.Other }
syntax_of line_kind.Join = line (codes "pthread_join") (Operand ∷ Dest ∷ []) role.Other
syntax_of line_kind.Detach = line (codes "pthread_detach") (Operand ∷ []) role.Other
syntax_of line_kind.CancelThread = line (codes "pthread_cancel") (Operand ∷ []) role.Other
syntax_of line_kind.SelfId = line (codes "pthread_self") (Dest ∷ []) role.Other
syntax_of line_kind.ThreadExit = line (codes "pthread_exit") (Operand ∷ []) role.Other
syntax_of line_kind.TestCancel = line (codes "pthread_testcancel") [] role.Other
syntax_of line_kind.SetState = line (codes "pthread_setcancelstate") (State ∷ Dest ∷ []) role.Other
syntax_of line_kind.SetMode = line (codes "pthread_setcanceltype") (Mode ∷ Dest ∷ []) role.Other
syntax_of line_kind.Push = line (codes "pthread_cleanup_push") (function ∷ Operand ∷ []) (role.Opens block.Push)
syntax_of line_kind.Pop = line (codes "pthread_cleanup_pop") (Operand ∷ []) role.Pop
syntax_of line_kind.KeyCreate = line (codes "pthread_key_create") (Dest ∷ Dest ∷ OptionalFunction ∷ []) role.Other
syntax_of line_kind.KeyDelete = line (codes "pthread_key_delete") (Operand ∷ []) role.Other
syntax_of line_kind.SetSpecific = line (codes "pthread_setspecific") (Operand ∷ Operand ∷ []) role.Other
syntax_of line_kind.GetSpecific = line (codes "pthread_getspecific") (Dest ∷ Operand ∷ []) role.Other
syntax_of line_kind.Lock = line (codes "pthread_mutex_lock") (mutex ∷ []) role.Plain
syntax_of line_kind.Unlock = line (codes "pthread_mutex_unlock") (mutex ∷ []) role.Plain
syntax_of line_kind.CondWait = line (codes "pthread_cond_wait") (cond_variable ∷ mutex ∷ []) role.Other
syntax_of line_kind.CondTimedWait = line (codes "pthread_cond_timedwait") (Dest ∷ cond_variable ∷ mutex ∷ []) role.Other
syntax_of line_kind.Signal = line (codes "pthread_cond_signal") (cond_variable ∷ []) role.Other
syntax_of line_kind.Broadcast = line (codes "pthread_cond_broadcast") (cond_variable ∷ []) role.Other
syntax_of line_kind.SemWait = line (codes "sem_wait") (semaphore ∷ []) role.Other
syntax_of line_kind.SemTimedWait = line (codes "sem_timedwait") (Dest ∷ semaphore ∷ []) role.Other
syntax_of line_kind.SemPost = line (codes "sem_post") (semaphore ∷ []) role.Other
syntax_of line_kind.CallOnce = line (codes "pthread_once") (once_control ∷ function ∷ []) role.Other
syntax_of line_kind.AtFork = line (codes "pthread_atfork") (Dest ∷ OptionalPlainFunction ∷ OptionalPlainFunction ∷ OptionalPlainFunction ∷ []) role.Other
syntax_of line_kind.Fork = line (codes "fork") (Dest ∷ Dest ∷ []) role.Other
syntax_of line_kind.WaitPid = line (codes "waitpid") (Dest ∷ Operand ∷ Dest ∷ []) role.Other
syntax_of line_kind.AtExit = line (codes "atexit") (Dest ∷ PlainFunction ∷ []) role.Other
syntax_of line_kind.ProcExit = line (codes "exit") (Operand ∷ []) role.Other
syntax_of line_kind.ProcExitNow = line (codes "_exit") (Operand ∷ []) role.Other
syntax_of (line_kind.Point index) = line (point_name index) [] role.Other

-- the kind is that of functions
abbrev pub is_function : SymbolKind → Bool
is_function kind.Function = true
is_function _ = false

-- the kind of a line `fn`
abbrev pub is_fn : LineKind → Bool
is_fn (line_kind.Declares k) = is_function k
is_fn _ = false

-- the line kind has a keyword of its own: it is not a cancellation point
abbrev pub is_no_point : LineKind → Bool
is_no_point (line_kind.Point index) = false
is_no_point _ = true

-- ---- the line kind of a keyword

-- the line kinds with a keyword of their own: all but the cancellation points
unfoldable pub line_kinds : List LineKind
line_kinds =
    line_kind.Declares kind.Global ∷ line_kind.Declares kind.Mutex ∷ line_kind.Declares kind.Cond ∷ line_kind.Declares kind.Sem ∷
    line_kind.Declares kind.Once ∷ line_kind.Declares kind.Function ∷ line_kind.Emit ∷ line_kind.Set ∷ line_kind.Add ∷ line_kind.Nop ∷ line_kind.If ∷ line_kind.Else ∷ line_kind.While ∷
    line_kind.End ∷ line_kind.Do ∷ line_kind.Return ∷ line_kind.Create ∷ line_kind.Join ∷ line_kind.Detach ∷ line_kind.CancelThread ∷ line_kind.SelfId ∷
    line_kind.ThreadExit ∷ line_kind.TestCancel ∷ line_kind.SetState ∷ line_kind.SetMode ∷ line_kind.Push ∷ line_kind.Pop ∷ line_kind.KeyCreate ∷
    line_kind.KeyDelete ∷ line_kind.SetSpecific ∷ line_kind.GetSpecific ∷ line_kind.Lock ∷ line_kind.Unlock ∷ line_kind.CondWait ∷
    line_kind.CondTimedWait ∷ line_kind.Signal ∷ line_kind.Broadcast ∷ line_kind.SemWait ∷ line_kind.SemTimedWait ∷ line_kind.SemPost ∷
    line_kind.CallOnce ∷ line_kind.AtFork ∷ line_kind.Fork ∷ line_kind.WaitPid ∷ line_kind.AtExit ∷ line_kind.ProcExit ∷ line_kind.ProcExitNow ∷ []

-- a wait that no thread of a script ends: for an event outside the script, or for a signal
abbrev pub is_foreign : PointWait → Bool
is_foreign NoWait = false
is_foreign Outside = true
is_foreign Never = true
is_foreign Inside = false

-- a generic point is a statement without a row of its own in the table: an optional point, or a required one with such
-- a wait
abbrev pub is_generic : PointKind → PointWait → Bool
is_generic Required wait = is_foreign wait
is_generic Optional wait = true

-- the index of the generic point with a name
unfoldable pub point_statement : List ℕ → Option ℕ
point_statement w = option_and_then (λ p. if is_generic p.kind p.wait then Some p.index else None) (point_of w)

-- the kind of a line whose first word is w
unfoldable pub line_kind_of : List ℕ → Option LineKind
line_kind_of w = option_or (find (λ f. bytes_eq (syntax_of f).keyword w) line_kinds) (option_map (λ index. line_kind.Point index) (point_statement w))
