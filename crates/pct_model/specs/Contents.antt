-- What a script declares, and name resolution: which declaration a name in a line refers to.
use Rattle.std.specs.Prelude.{ℕ, List, [], ◌∷◌, map, Option, Some, None, option_map}
use Rattle.std.specs.Option.{option_or}
use Rattle.pct_model.specs.declared.line_kind.SymbolKind.{SymbolKind}
use Rattle.pct_model.specs.declared.line_kind.SymbolKind.TheVariants as kind
use Rattle.pct_model.specs.declared.line_kind.ArgumentKind.{ArgumentKind}
use Rattle.pct_model.specs.declared.line_kind.ArgumentKind.TheVariants as argument_kind
use Rattle.pct_model.specs.declared.parsed_line.Argument.{Argument}
use Rattle.pct_model.specs.declared.parsed_line.Argument.TheVariants as argument
use Rattle.pct_model.specs.declared.parsed_line.Token.{Token}
use Rattle.pct_model.specs.declared.parsed_line.Token.TheVariants as token
use Rattle.pct_model.specs.declared.script.Func.{Func}
use Rattle.pct_model.specs.declared.script.SemDecl.{SemDecl}
use Rattle.pct_model.specs.Lines.{◌>>=◌}
use Rattle.pct_model.specs.Names.{names_of, index_among}

-- the declarations of a script, whether it is well-formed or not
pub record Contents : Type 0 where
  pub globals : List (List ℕ)
  pub mutexes : List (List ℕ)
  pub conds : List (List ℕ)
  pub sems : List SemDecl
  pub onces : List (List ℕ)
  pub funcs : List Func

-- the declared names of a kind, in order
abbrev pub names_of_kind : Contents → SymbolKind → List (List ℕ)
names_of_kind c kind.Global = c.globals
names_of_kind c kind.Mutex = c.mutexes
names_of_kind c kind.Cond = c.conds
names_of_kind c kind.Sem = map (λ s. s.name) c.sems
names_of_kind c kind.Once = c.onces
names_of_kind c kind.Function = names_of c.funcs

-- ---- name resolution, given the declared names of each kind and the locals of the function

module _ (names : SymbolKind → List (List ℕ)) (locals : List (List ℕ)) where
  -- a variable: a local of the function or, if no local has the name, a global
  abbrev pub variable : List ℕ → Option Argument
  variable w = option_or (option_map (λ i. argument.Local i) (index_among locals w)) (option_map (λ i. argument.Global i) (index_among (names kind.Global) w))

  -- a name of a kind: its index among the declared names of that kind
  abbrev pub item : SymbolKind → List ℕ → Option Argument
  item k w = option_map (λ i. argument.Item i) (index_among (names k) w)

  -- the argument that a name resolves to, as an argument of a given kind
  unfoldable pub resolve_name : ArgumentKind → List ℕ → Option Argument
  resolve_name argument_kind.Declared w = None
  resolve_name argument_kind.Local w = None
  resolve_name argument_kind.Count w = None
  resolve_name argument_kind.Operand w = variable w
  resolve_name argument_kind.Variable w = variable w
  resolve_name argument_kind.Dest w = variable w
  resolve_name (argument_kind.Item k) w = item k w
  resolve_name argument_kind.OptionalFunction w = item kind.Function w
  resolve_name argument_kind.PlainFunction w = item kind.Function w
  resolve_name argument_kind.OptionalPlainFunction w = item kind.Function w
  resolve_name argument_kind.State w = None
  resolve_name argument_kind.Mode w = None
  resolve_name argument_kind.Detached w = None

  -- the argument that a token resolves to
  unfoldable pub resolve : ArgumentKind → Token → Option Argument
  resolve p (token.Number n) = Some (argument.Number n)
  resolve p (token.Name w) = resolve_name p w
  resolve p token.Nothing = Some argument.Nothing
  resolve p (token.Flag is_set) = Some (argument.Flag is_set)

  -- the arguments that tokens resolve to
  unfoldable pub resolve_all : List ArgumentKind → List Token → Option (List Argument)
  resolve_all argument_kinds [] = Some []
  resolve_all [] (w ∷ words) = None
  resolve_all (p ∷ argument_kinds) (w ∷ words) = do
    first ← resolve p w
    option_map (λ others. first ∷ others) (resolve_all argument_kinds words)
