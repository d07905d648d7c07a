-- Well-formed (static) scripts: some text spells the script, and the script passes every check. The checks of a text
-- are stated here on the script itself. A text has no fault exactly if it spells a well-formed script.
use Rattle.std.specs.Prelude.{ℕ, Bool, true, false, not, ◌&&◌, ◌||◌, List, [], ◌∷◌, ◌++◌, length, map, is_some, nat_eq, nat_le, bytes_eq, slice_get, sum_by}
use Rattle.std.specs.List.{list_all, list_any}
use Rattle.std.specs.Option.{option_map_or}
use Rattle.pct_model.specs.declared.role.Block.TheVariants as block
use Rattle.pct_model.specs.declared.line_kind.LineKind.{LineKind}
use Rattle.pct_model.specs.declared.line_kind.LineKind.TheVariants as line_kind
use Rattle.pct_model.specs.declared.line_kind.SymbolKind.{SymbolKind}
use Rattle.pct_model.specs.declared.line_kind.SymbolKind.TheVariants as kind
use Rattle.pct_model.specs.declared.line_kind.ArgumentKind.{ArgumentKind}
use Rattle.pct_model.specs.declared.line_kind.ArgumentKind.TheVariants as argument_kind
use Rattle.pct_model.specs.declared.parsed_line.Argument.{Argument}
use Rattle.pct_model.specs.declared.parsed_line.Argument.TheVariants as argument
use Rattle.pct_model.specs.declared.script.Func.{Func}
use Rattle.pct_model.specs.declared.statement.Stmt.{Stmt}
use Rattle.pct_model.specs.declared.keyword.Keyword.TheVariants as keyword
use Rattle.pct_model.specs.declared.limits.TheConstants.{MAX_COUNT, MAX_LOCALS, MAX_STATEMENTS}
use Rattle.pct_model.specs.Keywords.{keyword_text}
use Rattle.pct_model.specs.Names.{is_name, all_different, name_at, index_among, names_of}
use Rattle.pct_model.specs.Points.{point_name}
use Rattle.pct_model.specs.LineKinds.{point_statement}
use Rattle.pct_model.specs.Statements.{line_kind_of_statement, arguments_of, argument_kinds_of, role_of}
use Rattle.pct_model.specs.LineParsing.{is_empty}
use Rattle.pct_model.specs.Contents.{Contents, names_of_kind}
use Rattle.pct_model.specs.Nesting.{are_nested}
use Rattle.pct_model.specs.Checks.{none_wrong, most, is_in_push, asks_plain, is_plain}

-- ---- scripts that some text spells

-- the name at an index resolves to this index: no earlier name is equal
abbrev pub is_found : List (List ℕ) → ℕ → Bool
is_found names i = option_map_or (nat_eq i) (index_among names (name_at names i)) false

module _ (c : Contents) (locals : List (List ℕ)) where
  -- a global that its name refers to in the function: no local hides it
  abbrev pub is_seen : ℕ → Bool
  is_seen i = is_found c.globals i && not (is_some (index_among locals (name_at c.globals i)))

  -- a variable that its name refers to
  abbrev pub is_variable : Argument → Bool
  is_variable (argument.Local i) = is_found locals i
  is_variable (argument.Global i) = is_seen i
  is_variable _ = false

  -- a number of at most 32 bits, or such a variable
  abbrev pub is_value : Argument → Bool
  is_value (argument.Number n) = nat_le n 4294967295
  is_value a = is_variable a

  -- an item of the kind that its name refers to
  abbrev pub is_item : SymbolKind → Argument → Bool
  is_item k (argument.Item i) = is_found (names_of_kind c k) i
  is_item k _ = false

  -- the argument `-`
  abbrev pub is_nothing : Argument → Bool
  is_nothing argument.Nothing = true
  is_nothing _ = false

  -- the argument is a flag
  abbrev pub is_flag : Argument → Bool
  is_flag (argument.Flag is_set) = true
  is_flag _ = false

  -- the argument `detached`, which is left out if the thread is joinable
  abbrev pub is_detached : Argument → Bool
  is_detached (argument.Flag is_set) = is_set
  is_detached _ = false

  -- some word is this argument, as an argument of a given kind
  unfoldable pub has_word : ArgumentKind → Argument → Bool
  has_word argument_kind.Declared a = false
  has_word argument_kind.Local a = false
  has_word argument_kind.Count a = false
  has_word argument_kind.Operand a = is_value a
  has_word argument_kind.Variable a = is_variable a
  has_word argument_kind.Dest a = is_nothing a || is_variable a
  has_word (argument_kind.Item k) a = is_item k a
  has_word argument_kind.OptionalFunction a = is_nothing a || is_item kind.Function a
  has_word argument_kind.PlainFunction a = is_item kind.Function a
  has_word argument_kind.OptionalPlainFunction a = is_nothing a || is_item kind.Function a
  has_word argument_kind.State a = is_flag a
  has_word argument_kind.Mode a = is_flag a
  has_word argument_kind.Detached a = is_detached a

  -- some words are these arguments, of the given kinds
  unfoldable pub have_words : List ArgumentKind → List Argument → Bool
  have_words [] [] = true
  have_words [] (a ∷ arguments) = false
  have_words (p ∷ argument_kinds) [] = false
  have_words (p ∷ argument_kinds) (a ∷ arguments) = has_word p a && have_words argument_kinds arguments

  -- some word is the keyword of the line kind: a point has to be a generic one
  unfoldable pub has_first_word : LineKind → Bool
  has_first_word (line_kind.Point index) = option_map_or (nat_eq index) (point_statement (point_name index)) false
  has_first_word _ = true

  -- some line is the encoding of the statement
  unfoldable pub has_line : Stmt → Bool
  has_line s = has_first_word (line_kind_of_statement s) && have_words (argument_kinds_of s) (arguments_of s)

-- some lines declare the function, which has a parameter, and are its statements
unfoldable pub has_lines : Contents → Func → Bool
has_lines c f = is_name f.name && not (is_empty f.locals) && list_all is_name f.locals && list_all (has_line c f.locals) f.body

-- some text spells the script
unfoldable pub has_text : Contents → Bool
has_text c =
    list_all is_name c.globals && list_all is_name c.mutexes && list_all is_name c.conds
    && list_all (λ s. is_name s.name && nat_le s.count MAX_COUNT) c.sems && list_all is_name c.onces
    && list_all (has_lines c) c.funcs

-- ---- the checks, on a script

-- the blocks of the function nest, and its last `end` closes it
abbrev pub nests : Func → Bool
nests f = are_nested (block.Function ∷ []) (map role_of f.body)

-- the script declares no more of a kind than the limit
abbrev pub is_within : Contents → SymbolKind → Bool
is_within c k = nat_le (length (names_of_kind c k)) (most k)

-- the number of statement lines, each function's closing `end` included
abbrev pub statement_lines : List Func → ℕ
statement_lines funcs = sum_by (λ f. length f.body) funcs

-- the script is within all limits
unfoldable pub keeps_limits : Contents → Bool
keeps_limits c =
    is_within c kind.Global && is_within c kind.Mutex && is_within c kind.Cond && is_within c kind.Sem && is_within c kind.Once && is_within c kind.Function
    && nat_le (statement_lines c.funcs) MAX_STATEMENTS
    && list_all (λ f. nat_le (length f.locals) MAX_LOCALS) c.funcs

-- the names that the script declares outside functions, and those of its functions
abbrev pub all_names : Contents → List (List ℕ)
all_names c = c.globals ++ c.mutexes ++ c.conds ++ map (λ s. s.name) c.sems ++ c.onces ++ names_of c.funcs

-- no name is declared twice, nor a local of a function
unfoldable pub has_each_name_once : Contents → Bool
has_each_name_once c = all_different (all_names c) && list_all (λ f. all_different f.locals) c.funcs

-- no `return` is between a push and its pop
abbrev pub returns_outside_pushes : Func → Bool
returns_outside_pushes f = none_wrong is_in_push [] (map role_of f.body)

-- the function is plain
abbrev pub is_plain_body : Func → Bool
is_plain_body f = list_all (λ s. is_plain (role_of s)) f.body

-- the argument, if it is a function, is a plain one
abbrev pub is_plain_at : Contents → Argument → Bool
is_plain_at c (argument.Item i) = option_map_or is_plain_body (slice_get c.funcs i) false
is_plain_at c _ = true

-- each argument that has to be a plain function is one
unfoldable pub names_plain : Contents → List ArgumentKind → List Argument → Bool
names_plain c [] arguments = true
names_plain c (p ∷ argument_kinds) [] = true
names_plain c (p ∷ argument_kinds) (a ∷ arguments) = (not (asks_plain p) || is_plain_at c a) && names_plain c argument_kinds arguments

-- the functions that a statement names are plain where that is required
abbrev pub names_plain_functions : Contents → Stmt → Bool
names_plain_functions c s = names_plain c (argument_kinds_of s) (arguments_of s)

-- a function is named `main`
abbrev pub has_main : Contents → Bool
has_main c = list_any (bytes_eq (keyword_text keyword.Main)) (names_of c.funcs)

-- ---- well-formed scripts

-- some text spells the script, and it passes the checks, in their order; `has_text` includes that each name is declared
unfoldable pub is_static : Contents → Bool
is_static c =
    has_text c
    && list_all nests c.funcs
    && keeps_limits c
    && has_each_name_once c
    && list_all returns_outside_pushes c.funcs
    && list_all (λ f. list_all (names_plain_functions c) f.body) c.funcs
    && has_main c
