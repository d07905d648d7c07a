-- The checks of a script's text. Each check goes over all lines before the next begins; the text's fault is the first
-- fault that the first failing check finds.
use Rattle.std.specs.Prelude.{◌≡◌, ℕ, Bool, true, false, not, ◌&&◌, ◌||◌, if◌then◌else◌, List, [], ◌∷◌, ◌++◌, length, map, find, flat_map, count_by, Option, Some, None, is_none, nat_lt, nat_le, bytes_eq, slice_get, option_map}
use Rattle.std.specs.List.{list_all, list_any}
use Rattle.std.specs.Option.{option_map_or}
use Rattle.pct_model.specs.declared.role.Block.TheVariants as block
use Rattle.pct_model.specs.declared.line_kind.SymbolKind.{SymbolKind}
use Rattle.pct_model.specs.declared.line_kind.SymbolKind.TheVariants as kind
use Rattle.pct_model.specs.declared.line_kind.ArgumentKind.{ArgumentKind}
use Rattle.pct_model.specs.declared.line_kind.ArgumentKind.TheVariants as argument_kind
use Rattle.pct_model.specs.declared.role.Role.{Role}
use Rattle.pct_model.specs.declared.role.Role.TheVariants as role
use Rattle.pct_model.specs.declared.refusal.ParseWhy.{ParseWhy}
use Rattle.pct_model.specs.declared.refusal.ParseWhy.TheVariants.{TooMany, NameTwice, UnknownName, ReturnInPush, NotPlain, NoMain}
use Rattle.pct_model.specs.declared.parsed_line.ParsedLine.{ParsedLine}
use Rattle.pct_model.specs.declared.parsed_line.Token.{Token}
use Rattle.pct_model.specs.declared.keyword.Keyword.TheVariants as keyword
use Rattle.pct_model.specs.declared.limits.TheConstants.{MAX_DECLARED, MAX_FUNCTIONS, MAX_LOCALS, MAX_STATEMENTS}
use Rattle.pct_model.specs.Keywords.{keyword_text}
use Rattle.pct_model.specs.Names.{all_different, index_among}
use Rattle.pct_model.specs.LineParsing.{Numbered, spelled_lines}
use Rattle.pct_model.specs.Spelling.{Fault, first_of, spelling}
use Rattle.pct_model.specs.Contents.{resolve_all}
use Rattle.pct_model.specs.Sections.{Line, Section, role_in, argument_kinds_in, declares, is_statement, names_in, declared_by, locals_of, names_declared, sections_of, functions_in, parsed_lines}
use Rattle.pct_model.specs.Nesting.{nesting}

-- ---- rules on a line and the lines before it

-- the number of the first item that breaks a rule on an item and the items before it, of which the nearest comes first
unfoldable pub first_wrong : {A : Type 0} → (List A → A → Bool) → List A → List (Numbered A) → Option ℕ
first_wrong rule before [] = None
first_wrong rule before (l ∷ lines) = if rule before l.1 then Some l.0 else first_wrong rule (l.1 ∷ before) lines

-- no item breaks the rule
unfoldable pub none_wrong : {A : Type 0} → (List A → A → Bool) → List A → List A → Bool
none_wrong rule before [] = true
none_wrong rule before (a ∷ items) = not (rule before a) && none_wrong rule (a ∷ before) items

-- the fault at a line, if there is one, for a given reason
abbrev pub fault_at_line : ParseWhy → Option ℕ → Option Fault
fault_at_line why line = option_map (λ n. (n, why)) line

-- the roles of lines, with their numbers
abbrev pub roles : List Line → List (Numbered Role)
roles lines = map (λ l. (l.0, role_in l.1)) lines

-- ---- limits

-- the limit on declarations of a kind
abbrev pub most : SymbolKind → ℕ
most kind.Global = MAX_DECLARED
most kind.Mutex = MAX_DECLARED
most kind.Cond = MAX_DECLARED
most kind.Sem = MAX_DECLARED
most kind.Once = MAX_DECLARED
most kind.Function = MAX_FUNCTIONS

-- the line exceeds the test, and so do n or more lines before it
abbrev pub exceeds : (ParsedLine → Bool) → ℕ → List ParsedLine → ParsedLine → Bool
exceeds test n before line = test line && nat_le n (count_by test before)

-- the line is one declaration of its kind too many
abbrev pub exceeds_most : List ParsedLine → ParsedLine → SymbolKind → Bool
exceeds_most before line k = exceeds (declares k) (most k) before line

-- the line declares a function with more locals than the limit
abbrev pub has_many_locals : ParsedLine → Bool
has_many_locals line = declares kind.Function line && nat_lt MAX_LOCALS (length (locals_of line))

-- the line exceeds a limit: on declarations of a kind, on statement lines, or on a function's locals
unfoldable pub exceeds_limit : List ParsedLine → ParsedLine → Bool
exceeds_limit before line =
    exceeds_most before line kind.Global || exceeds_most before line kind.Mutex || exceeds_most before line kind.Cond
    || exceeds_most before line kind.Sem || exceeds_most before line kind.Once || exceeds_most before line kind.Function
    || exceeds is_statement MAX_STATEMENTS before line || has_many_locals line

-- the check of limits
unfoldable pub too_many : List Line → Option Fault
too_many lines = fault_at_line TooMany (first_wrong exceeds_limit [] lines)

-- ---- duplicate names

-- the line declares a name that an earlier line declares, or two locals with the same name
unfoldable pub declares_again : List ParsedLine → ParsedLine → Bool
declares_again before line =
    list_any (λ name. list_any (bytes_eq name) (flat_map declared_by before)) (declared_by line)
    || declares kind.Function line && not (all_different (locals_of line))

-- the headers of a text's sections
abbrev pub headers : List Line → List Line
headers lines = map (λ section. section.header) (sections_of lines)

-- the check of duplicate names
unfoldable pub name_twice : List Line → Option Fault
name_twice lines = fault_at_line NameTwice (first_wrong declares_again [] (headers lines))

-- ---- checks of functions

-- the number of the first line of a body that fails a test
abbrev pub first_that : (ParsedLine → Bool) → List Line → Option ℕ
first_that test body = option_map (λ l. l.0) (find (λ l. test l.1) body)

-- the first fault that a check of one function finds, over the functions in order
abbrev pub first_in : ParseWhy → (Section → Option ℕ) → List Line → Option Fault
first_in why check lines = fault_at_line why (first_of (map check (functions_in lines)))

-- ---- undeclared names

-- the line uses a name that is not declared with the kind that its argument asks for; `names` has the declared names of
-- each kind, and `locals` those of the function
unfoldable pub uses_unknown : (SymbolKind → List (List ℕ)) → List (List ℕ) → ParsedLine → Bool
uses_unknown names locals line = is_none (resolve_all names locals (argument_kinds_in line) line.tokens)

-- the number of the first line of a function that uses an undeclared name
abbrev pub unknown_in : (SymbolKind → List (List ℕ)) → Section → Option ℕ
unknown_in names section = first_that (uses_unknown names (locals_of section.header.1)) section.body

-- the check of undeclared names
unfoldable pub unknown_name : List Line → Option Fault
unknown_name lines = first_in UnknownName (unknown_in (names_declared lines)) lines

-- ---- returns

-- the role of pthread_cleanup_push
abbrev pub is_push : Role → Bool
is_push (role.Opens block.Push) = true
is_push _ = false

-- the role of pthread_cleanup_pop
abbrev pub is_pop : Role → Bool
is_pop role.Pop = true
is_pop _ = false

-- the role of `return`
abbrev pub is_return : Role → Bool
is_return role.Return = true
is_return _ = false

-- the line is a `return` between a push and its pop: more pushes than pops of its function come before it
abbrev pub is_in_push : List Role → Role → Bool
is_in_push before r = is_return r && nat_lt (count_by is_pop before) (count_by is_push before)

-- the check of returns
unfoldable pub return_in_push : List Line → Option Fault
return_in_push lines = first_in ReturnInPush (λ section. first_wrong is_in_push [] (roles section.body)) lines

-- ---- plain functions

-- an argument of this kind is the name of a plain function
abbrev pub asks_plain : ArgumentKind → Bool
asks_plain argument_kind.PlainFunction = true
asks_plain argument_kind.OptionalPlainFunction = true
asks_plain _ = false

-- the names among tokens that are arguments of such a kind
unfoldable pub plain_names : List ArgumentKind → List Token → List (List ℕ)
plain_names [] words = []
plain_names (p ∷ argument_kinds) [] = []
plain_names (p ∷ argument_kinds) (w ∷ words) = (if asks_plain p then names_in (w ∷ []) else []) ++ plain_names argument_kinds words

-- the role is allowed in a plain function
abbrev pub is_plain : Role → Bool
is_plain (role.Opens block.If) = true
is_plain role.Else = true
is_plain role.End = true
is_plain role.Return = true
is_plain role.Plain = true
is_plain _ = false

-- the function is plain: all its statements are allowed in one
abbrev pub is_plain_section : Section → Bool
is_plain_section section = list_all (λ l. is_plain (role_in l.1)) section.body

-- the name is that of a plain function
unfoldable pub is_plain_function : List Line → List ℕ → Bool
is_plain_function lines w =
    option_map_or (λ i. option_map_or is_plain_section (slice_get (functions_in lines) i) false) (index_among (names_declared lines kind.Function) w) false

-- the line names a function that is not plain where a plain one is required
unfoldable pub names_other : List Line → ParsedLine → Bool
names_other lines line = not (list_all (is_plain_function lines) (plain_names (argument_kinds_in line) line.tokens))

-- the check of plain functions
unfoldable pub not_plain : List Line → Option Fault
not_plain lines = first_in NotPlain (λ section. first_that (names_other lines) section.body) lines

-- ---- `main`

-- the check that a function is named `main`
unfoldable pub no_main : List Line → Option Fault
no_main lines = if list_any (bytes_eq (keyword_text keyword.Main)) (names_declared lines kind.Function) then None else Some (1, NoMain)

-- ---- the order of the checks

-- the first fault of the checks after spelling, in their order
unfoldable pub checks : List Line → Option Fault
checks lines =
    first_of (nesting (roles lines) ∷ too_many lines ∷ name_twice lines ∷ unknown_name lines ∷ return_in_push lines ∷ not_plain lines ∷ no_main lines ∷ [])

-- the first fault of a text: that of the spelling check or, if there is none, of the first other check that fails
unfoldable pub first_fault : List ℕ → Option Fault
first_fault text = first_of (spelling (spelled_lines text) ∷ checks (parsed_lines text) ∷ [])

-- the first fault of the text is at this line, for this reason
abbrev pub FirstFault : List ℕ → ℕ → ParseWhy → Type 0
FirstFault text line why = first_fault text ≡ Some (line, why)
