-- The pieces of a canonical text, in the order in which they are written. No public clause cites this file.
use Rattle.std.specs.Prelude.{ℕ, List, [], ◌∷◌, ◌++◌, flat_map, decimal}
use Rattle.pct_model.specs.declared.line_kind.SymbolKind.{SymbolKind}
use Rattle.pct_model.specs.declared.line_kind.SymbolKind.TheVariants as kind
use Rattle.pct_model.specs.declared.line_kind.ArgumentKind.{ArgumentKind}
use Rattle.pct_model.specs.declared.parsed_line.Argument.{Argument}
use Rattle.pct_model.specs.declared.script.Func.{Func}
use Rattle.pct_model.specs.declared.script.SemDecl.{SemDecl}
use Rattle.pct_model.specs.declared.statement.Stmt.{Stmt}
use Rattle.pct_model.specs.Keywords.{line_text, text_of}
use Rattle.pct_model.specs.LineKinds.{declaration_syntax}
use Rattle.pct_model.specs.Contents.{Contents}
use Rattle.pct_model.specs.Canon.{argument_texts, statement_words, declaration_line, function_lines}

-- words, each after a space
abbrev pub spaced : List (List ℕ) → List ℕ
spaced words = flat_map (λ word. 32 ∷ word) words

-- the lines that declare names of a kind
abbrev pub names_text : SymbolKind → List (List ℕ) → List ℕ
names_text k names = flat_map (λ name. line_text (declaration_line k (name ∷ []))) names

-- the lines that declare semaphores
abbrev pub sems_text : List SemDecl → List ℕ
sems_text sems = flat_map (λ s. line_text (declaration_line kind.Sem (s.name ∷ decimal s.count ∷ []))) sems

-- the lines that declare globals and mutexes
abbrev pub two_kinds_text : Contents → List ℕ
two_kinds_text c = names_text kind.Global c.globals ++ names_text kind.Mutex c.mutexes

-- the lines that declare globals, mutexes and condition variables
abbrev pub all_names_text : Contents → List ℕ
all_names_text c = two_kinds_text c ++ names_text kind.Cond c.conds

-- all declarations except those of functions
abbrev pub declarations_text : Contents → List ℕ
declarations_text c = all_names_text c ++ sems_text c.sems ++ names_text kind.Once c.onces

-- the first two words of a `fn` line
abbrev pub fn_text : List ℕ → List ℕ
fn_text name = (declaration_syntax kind.Function).keyword ++ 32 ∷ name

-- the words of arguments of these kinds, in a function with these locals, each after a space
abbrev pub arguments_text : Contents → List (List ℕ) → List ArgumentKind → List Argument → List ℕ
arguments_text c locals argument_kinds arguments = spaced (argument_texts c locals argument_kinds arguments)

-- the lines of the statements of a function with these locals
abbrev pub body_text : Contents → List (List ℕ) → List Stmt → List ℕ
body_text c locals body = flat_map (λ s. line_text (statement_words c locals s)) body

-- the lines of functions
abbrev pub functions_text : Contents → List Func → List ℕ
functions_text c funcs = flat_map (λ f. text_of (function_lines c f)) funcs
