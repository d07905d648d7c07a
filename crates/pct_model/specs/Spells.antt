-- The script that a text spells: the lines of the text that spell something are, in order, the declarations and
-- statements of the script. A name is replaced by its index among the declared names of its kind; a variable is a local
-- of its function or else a global. The relation includes that each name is declared and that each statement is in a
-- function; nesting, limits and the other checks are not part of it.
use Rattle.std.specs.Prelude.{◌≡◌, ℕ, List, [], ◌∷◌, map, Option, Some, IsTrue, is_some, option_map}
use Rattle.std.specs.List.{AllZip, list_all}
use Rattle.pct_model.specs.declared.line_kind.SymbolKind.{SymbolKind}
use Rattle.pct_model.specs.declared.line_kind.SymbolKind.TheVariants as kind
use Rattle.pct_model.specs.declared.parsed_line.ParsedLine.{ParsedLine}
use Rattle.pct_model.specs.declared.parsed_line.Token.{Token}
use Rattle.pct_model.specs.declared.parsed_line.Token.TheVariants as token
use Rattle.pct_model.specs.declared.script.Func.{Func}
use Rattle.pct_model.specs.declared.script.Script.{Script}
use Rattle.pct_model.specs.Statements.{EncodedStmt, encode}
use Rattle.pct_model.specs.LineParsing.{spelled_lines, parsed}
use Rattle.pct_model.specs.Contents.{Contents, names_of_kind, resolve_all}
use Rattle.pct_model.specs.Sections.{Line, Section, argument_kinds_in, declaring, functions_in, are_in_functions, parsed_lines}

-- the arguments of a script's declarations of a kind
unfoldable pub declarations : Contents → SymbolKind → List (List Token)
declarations c kind.Global = map (λ name. token.Name name ∷ []) c.globals
declarations c kind.Mutex = map (λ name. token.Name name ∷ []) c.mutexes
declarations c kind.Cond = map (λ name. token.Name name ∷ []) c.conds
declarations c kind.Sem = map (λ s. token.Name s.name ∷ token.Number s.count ∷ []) c.sems
declarations c kind.Once = map (λ name. token.Name name ∷ []) c.onces
declarations c kind.Function = map (λ f. token.Name f.name ∷ map (λ name. token.Name name) f.locals) c.funcs

-- the encoding of a line in a function with these locals: its line kind, and its arguments with each name resolved
abbrev pub encoded : Contents → List (List ℕ) → ParsedLine → Option EncodedStmt
encoded c locals line = option_map (λ arguments. (line.line_kind, arguments)) (resolve_all (names_of_kind c) locals (argument_kinds_in line) line.tokens)

-- the section's body is the encoding of the function's statements
abbrev pub SpellsBody : Contents → Section → Func → Type 0
SpellsBody c section f = map (λ l. encoded c f.locals l.1) section.body ≡ map (λ s. Some (encode s)) f.body

-- the lines are these declarations and statements
pub record AreContents (lines : List Line) (c : Contents) : Type 0 where
  pub declared : (k : SymbolKind) → map (λ l. l.1.tokens) (declaring k lines) ≡ declarations c k
  pub bodies : AllZip (SpellsBody c) (functions_in lines) c.funcs
  pub in_functions : IsTrue (are_in_functions lines)

-- the text spells these declarations: each line that spells something parses, and the parsed lines are the declarations
pub record SpellsContents (text : List ℕ) (c : Contents) : Type 0 where
  pub each_says : IsTrue (list_all (λ l. is_some (parsed l.1)) (spelled_lines text))
  pub are_contents : AreContents (parsed_lines text) c

-- the declarations of a well-formed script
abbrev pub contents_of : Script → Contents
contents_of script = record { globals = script.globals; mutexes = script.mutexes; conds = script.conds; sems = script.sems; onces = script.onces; funcs = script.funcs }

-- the text spells the script
abbrev pub Spells : List ℕ → Script → Type 0
Spells text script = SpellsContents text (contents_of script)
