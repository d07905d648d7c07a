-- The canonical text of a script: globals, mutexes, condition variables, semaphores, once controls and functions, in this order and
-- each in the order of declaration; one line each, words separated by one space, numbers in decimal without leading
-- zeros.
use Rattle.std.specs.Prelude.{ℕ, Bool, true, false, List, [], ◌∷◌, ◌++◌, map, flat_map, codes, decimal}
use Rattle.pct_model.specs.declared.line_kind.SymbolKind.{SymbolKind}
use Rattle.pct_model.specs.declared.line_kind.SymbolKind.TheVariants as kind
use Rattle.pct_model.specs.declared.line_kind.ArgumentKind.{ArgumentKind}
use Rattle.pct_model.specs.declared.line_kind.ArgumentKind.TheVariants as argument_kind
use Rattle.pct_model.specs.declared.parsed_line.Argument.{Argument}
use Rattle.pct_model.specs.declared.parsed_line.Argument.TheVariants as argument
use Rattle.pct_model.specs.declared.script.Func.{Func}
use Rattle.pct_model.specs.declared.script.Script.{Script}
use Rattle.pct_model.specs.declared.statement.Stmt.{Stmt}
use Rattle.pct_model.specs.Keywords.{text_of}
use Rattle.pct_model.specs.LineKinds.{syntax_of, declaration_syntax}
use Rattle.pct_model.specs.Statements.{line_kind_of_statement, arguments_of, argument_kinds_of}
use Rattle.pct_model.specs.Names.{name_at}
use Rattle.pct_model.specs.Contents.{Contents, names_of_kind}
use Rattle.pct_model.specs.Spells.{contents_of}

-- ---- arguments

-- the kind of a name that is an argument of a given kind
abbrev pub symbol_kind_at : ArgumentKind → SymbolKind
symbol_kind_at (argument_kind.Item k) = k
symbol_kind_at _ = kind.Function

-- the fixed word of a flag, as an argument of a given kind
abbrev pub flag_text : ArgumentKind → Bool → List ℕ
flag_text argument_kind.State true = codes "enable"
flag_text argument_kind.State false = codes "disable"
flag_text argument_kind.Mode true = codes "asynchronous"
flag_text argument_kind.Mode false = codes "deferred"
flag_text _ is_set = codes "detached"

-- the text of an argument of a given kind, in a function with these locals
unfoldable pub argument_text : Contents → List (List ℕ) → ArgumentKind → Argument → List ℕ
argument_text c locals p (argument.Number n) = decimal n
argument_text c locals p (argument.Local i) = name_at locals i
argument_text c locals p (argument.Global i) = name_at c.globals i
argument_text c locals p (argument.Item i) = name_at (names_of_kind c (symbol_kind_at p)) i
argument_text c locals p argument.Nothing = codes "-"
argument_text c locals p (argument.Flag is_set) = flag_text p is_set

-- the texts of arguments of the given kinds
unfoldable pub argument_texts : Contents → List (List ℕ) → List ArgumentKind → List Argument → List (List ℕ)
argument_texts c locals [] arguments = []
argument_texts c locals (p ∷ argument_kinds) [] = []
argument_texts c locals (p ∷ argument_kinds) (a ∷ arguments) = argument_text c locals p a ∷ argument_texts c locals argument_kinds arguments

-- ---- lines

-- the words of a statement's line, in a function with these locals
unfoldable pub statement_words : Contents → List (List ℕ) → Stmt → List (List ℕ)
statement_words c locals s =
    (syntax_of (line_kind_of_statement s)).keyword ∷ argument_texts c locals (argument_kinds_of s) (arguments_of s)

-- the words of a declaration's line: its keyword, and its arguments
abbrev pub declaration_line : SymbolKind → List (List ℕ) → List (List ℕ)
declaration_line k words = (declaration_syntax k).keyword ∷ words

-- the lines of a function
unfoldable pub function_lines : Contents → Func → List (List (List ℕ))
function_lines c f = declaration_line kind.Function (f.name ∷ f.locals) ∷ map (statement_words c f.locals) f.body

-- the lines of a script
unfoldable pub script_lines : Contents → List (List (List ℕ))
script_lines c =
    map (λ name. declaration_line kind.Global (name ∷ [])) c.globals
    ++ map (λ name. declaration_line kind.Mutex (name ∷ [])) c.mutexes
    ++ map (λ name. declaration_line kind.Cond (name ∷ [])) c.conds
    ++ map (λ s. declaration_line kind.Sem (s.name ∷ decimal s.count ∷ [])) c.sems
    ++ map (λ name. declaration_line kind.Once (name ∷ [])) c.onces
    ++ flat_map (function_lines c) c.funcs

-- the canonical text of a script
abbrev pub canon : Script → List ℕ
canon script = text_of (script_lines (contents_of script))
