-- Encoding and decoding of statements are inverse: a line's kind is found by its first word, an encoded statement decodes to
-- the statement, and the statement decoded from arguments encodes to them.
use Rattle.pct_names.proofs.Names.{◌&&◌, ◌++◌, ◌-◌, ◌<◌, [], agree_below_at, and_parts, ap, ap₂, Argument, ArgumentKind, arith}
use Rattle.pct_names.proofs.Names.{begins_comment, Bool, bytes_eq, cond, cond_some, Contents, declaration_syntax, Dest, dest}
use Rattle.pct_names.proofs.Names.{detached_or_not, encode, false, find, get_or, has_first_word, has_word, have_words, is_declaration}
use Rattle.pct_names.proofs.Names.{is_generic, is_no_point, is_none, length, line_kind_of, line_kinds, LineKind, List, list_all, min}
use Rattle.pct_names.proofs.Names.{nat_eq, nat_tests, None, not, not-true, NoWait, Operand, Option, option_and_then_some, option_map}
use Rattle.pct_names.proofs.Names.{option_map_or, option_or, Optional, optional, Point, point_at, point_name, point_of, point_statement}
use Rattle.pct_names.proofs.Names.{points, position, position-Some, refl, replicate, Row, same_Some, slice_get, slice_get-get_or, Some}
use Rattle.pct_names.proofs.Names.{Stmt, suc, sym, syntax_of, true, value, zero, ◌||◌, ℕ, ◌∙◌, ◌∷◌, ◌≡◌, ◌≤◌}
use Rattle.std.proofs.Common.{true≢false}
use Rattle.std.proofs.lemmas.Bool.{eqb-true}
use Rattle.pct_model.specs.declared.line_kind.LineKind.TheVariants as line_kind
use Rattle.pct_model.specs.declared.line_kind.SymbolKind.TheVariants as kind
use Rattle.pct_model.specs.declared.line_kind.ArgumentKind.TheVariants as argument_kind
use Rattle.pct_model.specs.declared.parsed_line.Argument.TheVariants as argument
use Rattle.pct_model.specs.declared.statement.Dest.TheVariants as destination
use Rattle.pct_model.specs.declared.statement.Operand.TheVariants as operand
use Rattle.pct_model.specs.declared.statement.Stmt.TheVariants as statement
use Rattle.pct_model.proofs.Bytes.{same_bytes}
use Rattle.pct_grammar.specs.Resolving.{value_in, dest_in, item_in, optional_in, flag_in, at, decode}
use Rattle.pct_grammar.proofs.OptionFacts.{none_is}
use Rattle.pct_grammar.proofs.SharedWords.{is_word, role_of_kind}

-- ---- numbers

-- the number that was found
pub number_there : (n : ℕ) (o : Option ℕ) → option_map_or (nat_eq n) o false ≡ true → o ≡ Some n
number_there n None h = absurd cc
number_there n (Some m) h = ap (λ (k : ℕ). Some k) (sym (eqb-true n m h))

-- a number is the same as itself
pub same_number : (n : ℕ) → nat_eq n n ≡ true
same_number n = grind (arith, nat_tests)

-- ---- encode, then decode

value_back : (v : Operand) → value_in (value v) ≡ v
unfolding value_in
value_back (operand.Num n) = refl
value_back _ = refl

dest_back : (d : Dest) → dest_in (dest d) ≡ d
unfolding dest_in
dest_back destination.Drop = refl
dest_back _ = refl

optional_back : (o : Option ℕ) → optional_in (optional o) ≡ o
unfolding optional_in
optional_back None = refl
optional_back (Some i) = refl

-- an encoded statement decodes to that statement
pub encoded_back : (s : Stmt) → decode (encode s).0 (encode s).1 ≡ s
unfolding encode decode item_in flag_in
encoded_back (statement.Create result id f v true) = grind (arith, value_back, dest_back)
encoded_back (statement.Create result id f v false) = grind (arith, value_back, dest_back)
encoded_back _ = grind (arith, value_back, dest_back, optional_back)

-- ---- decode, then encode

-- an argument decoded as its kind, and encoded again
abbrev again : ArgumentKind → Argument → Argument
again argument_kind.Operand a = value (value_in a)
again argument_kind.Variable a = dest (dest_in a)
again argument_kind.Dest a = dest (dest_in a)
again (argument_kind.Item k) a = argument.Item (item_in a)
again argument_kind.PlainFunction a = argument.Item (item_in a)
again argument_kind.OptionalFunction a = optional (optional_in a)
again argument_kind.OptionalPlainFunction a = optional (optional_in a)
again _ a = argument.Flag (flag_in a)

-- an argument that fits its argument kind encodes to itself
encodes : (c : Contents) (locals : List (List ℕ)) (p : ArgumentKind) (a : Argument) → has_word c locals p a ≡ true → again p a ≡ a
unfolding has_word value_in dest_in item_in optional_in flag_in
encodes c locals argument_kind.Operand (argument.Number n) h = refl
encodes c locals argument_kind.Operand (argument.Local i) h = refl
encodes c locals argument_kind.Operand (argument.Global i) h = refl
encodes c locals argument_kind.Variable (argument.Local i) h = refl
encodes c locals argument_kind.Variable (argument.Global i) h = refl
encodes c locals argument_kind.Dest (argument.Local i) h = refl
encodes c locals argument_kind.Dest (argument.Global i) h = refl
encodes c locals argument_kind.Dest argument.Nothing h = refl
encodes c locals (argument_kind.Item k) (argument.Item i) h = refl
encodes c locals argument_kind.PlainFunction (argument.Item i) h = refl
encodes c locals argument_kind.OptionalFunction (argument.Item i) h = refl
encodes c locals argument_kind.OptionalFunction argument.Nothing h = refl
encodes c locals argument_kind.OptionalPlainFunction (argument.Item i) h = refl
encodes c locals argument_kind.OptionalPlainFunction argument.Nothing h = refl
encodes c locals argument_kind.State (argument.Flag is_set) h = refl
encodes c locals argument_kind.Mode (argument.Flag is_set) h = refl
encodes c locals argument_kind.Detached (argument.Flag is_set) h = refl
encodes c locals _ _ h = absurd cc

-- the arguments from the first position on, each encoded again, and what is made of the others
abbrev all_again : List ArgumentKind → ((ℕ → Argument) → List Argument) → (ℕ → Argument) → List Argument
all_again [] rest f = rest f
all_again (p ∷ argument_kinds) rest f = again p (f 0) ∷ all_again argument_kinds rest (λ i. f (suc i))

all_back : (c : Contents) (locals : List (List ℕ)) (argument_kinds more : List ArgumentKind) (rest : (ℕ → Argument) → List Argument) (args : List Argument)
    → have_words c locals (argument_kinds ++ more) args ≡ true → ((others : List Argument) → have_words c locals more others ≡ true → rest (at others) ≡ others)
    → all_again argument_kinds rest (at args) ≡ args
unfolding have_words
all_back c locals [] more rest args h last = last args h
all_back c locals (p ∷ argument_kinds) more rest [] h last = absurd cc
all_back c locals (p ∷ argument_kinds) more rest (a ∷ args) h last =
    let sections = and_parts (has_word c locals p a) (have_words c locals (argument_kinds ++ more) args) h in
    ap₂ (λ x xs. x ∷ xs) (encodes c locals p a sections.0) (all_back c locals argument_kinds more rest args sections.1 last)

none_back : (c : Contents) (locals : List (List ℕ)) (args : List Argument) → have_words c locals [] args ≡ true → [] ≡ args
unfolding have_words
none_back c locals [] h = refl
none_back c locals (a ∷ args) h = absurd cc

-- `detached`, or no argument
detached_back : (c : Contents) (locals : List (List ℕ)) (n : ℕ) (args : List Argument) → n ≤ 1 → have_words c locals (replicate n argument_kind.Detached) args ≡ true → detached_or_not (flag_in (at args 0)) ≡ args
unfolding have_words has_word flag_in
detached_back c locals zero [] le h = refl
detached_back c locals (suc zero) (argument.Flag true ∷ args) le h = ap (λ xs. argument.Flag true ∷ xs) (none_back c locals args h)
detached_back c locals (suc (suc n)) args le h = absurd (omega arith)
detached_back c locals _ _ le h = absurd cc

-- the statement decoded from fitting arguments encodes to them
pub statement_back : (c : Contents) (locals : List (List ℕ)) (f : LineKind) (args : List Argument) → is_declaration (syntax_of f).role ≡ false → have_words c locals ((syntax_of f).argument_kinds (length args)) args ≡ true
    → encode (decode f args) ≡ (f, args)
unfolding syntax_of encode decode
statement_back c locals (line_kind.Declares k) args other h = absurd (true≢false (sym (ap is_declaration (role_of_kind k)) ∙ other))
statement_back c locals line_kind.Create args other h =
    let n = min 1 (length args - 4) in
    ap (λ encoded. (line_kind.Create, encoded))
    (all_back c locals (argument_kind.Dest ∷ argument_kind.Dest ∷ argument_kind.Item kind.Function ∷ argument_kind.Operand ∷ [])
    (replicate n argument_kind.Detached) (λ f. detached_or_not (flag_in (f 0))) args h
    (λ others have. detached_back c locals n others (omega arith) have))
statement_back c locals f args other h =
    ap (λ encoded. (f, encoded)) (all_back c locals ((syntax_of f).argument_kinds 0) [] (λ _. []) args h (none_back c locals))

-- ---- the line kind that a word begins

-- no line kind has this keyword
abbrev is_apart : List ℕ → Bool
is_apart w = is_none (find (λ f. bytes_eq (syntax_of f).keyword w) line_kinds)

-- a point that is a statement by its name: the name is a word, and no line kind's keyword
abbrev is_own : ℕ → Bool
is_own index = not (option_map_or (nat_eq index) (point_statement (point_name index)) false) || is_apart (point_name index) && is_word (point_name index) && not (begins_comment (point_name index))

each_is_own : (index : ℕ) → index < 58 → is_own index ≡ true
unfolding points point_name point_of point_statement line_kinds syntax_of declaration_syntax
each_is_own index l = agree_below_at is_own (λ _. true) 58 index refl l

points_are : length points ≡ 58
unfolding points
points_are = refl

detached_statement : (w : List ℕ) (p : Point) (argument_kind index : ℕ) → position (λ row. bytes_eq row.name w) points ≡ Some argument_kind → point_at argument_kind ≡ Some p → p.index ≡ index → (point_name index ≡ w) × (index < 58)
unfolding point_name
detached_statement w p argument_kind index found is e =
    let blank : Row = record { name = []; kind = Optional; wait = NoWait } in
    let first = position-Some (λ row. bytes_eq row.name w) points argument_kind blank found in
    let row = get_or points argument_kind blank in
    let at : slice_get points argument_kind ≡ Some row = slice_get-get_or points argument_kind blank first.0 in
    let built : Some (record { index = argument_kind; kind = row.kind; wait = row.wait }) ≡ Some p = sym (ap (option_map (λ r. record { index = argument_kind; kind = r.kind; wait = r.wait })) at) ∙ is in
    let same : index ≡ argument_kind = sym (ap (λ q. q.index) (same_Some _ _ built) ∙ e) in
    let name : option_map_or (λ r. r.name) (slice_get points index) [] ≡ row.name = ap (λ i. option_map_or (λ r. r.name) (slice_get points i) []) same ∙ ap (λ r. option_map_or (λ r. r.name) r []) at in
    (name ∙ same_bytes row.name w first.1, omega (arith, first.0, points_are, same))

pointed_statement : (w : List ℕ) (p : Point) (index : ℕ) → point_of w ≡ Some p → p.index ≡ index → (point_name index ≡ w) × (index < 58)
unfolding point_of
pointed_statement w p index at e = option_and_then_some point_at (position (λ row. bytes_eq row.name w) points) p at (λ argument_kind found is. detached_statement w p argument_kind index found is e)

-- the statement by a point's name
named_statement : (w : List ℕ) (index : ℕ) → point_statement w ≡ Some index → (point_name index ≡ w) × (index < 58)
unfolding point_statement
named_statement w index is =
    option_and_then_some _ (point_of w) index is (λ p at gen. pointed_statement w p index at (cond_some (is_generic p.kind p.wait) p.index index gen).1)

-- the facts on a point that is a statement by its name
record Own (index : ℕ) : Type 0 where
  by_name : point_statement (point_name index) ≡ Some index
  apart : is_apart (point_name index) ≡ true
  word : is_word (point_name index) ≡ true
  encoded : begins_comment (point_name index) ≡ false

second_of : (t s : Bool) → t ≡ true → (not t || s) ≡ true → s ≡ true
second_of true s e h = h
second_of false s e h = absurd cc

own_parts : (index : ℕ) → option_map_or (nat_eq index) (point_statement (point_name index)) false ≡ true → is_own index ≡ true → Own index
own_parts index h own =
    let w = point_name index in
    let all : (is_apart w && is_word w && not (begins_comment w)) ≡ true = second_of _ _ h own in
    let sections = and_parts (is_apart w && is_word w) (not (begins_comment w)) all in
    let first = and_parts (is_apart w) (is_word w) sections.0 in
    record { by_name = number_there index (point_statement w) h; apart = first.0; word = first.1; encoded = not-true (begins_comment w) sections.1 }

own : (index : ℕ) → option_map_or (nat_eq index) (point_statement (point_name index)) false ≡ true → Own index
own index h = own_parts index h (each_is_own index (named_statement (point_name index) index (number_there index (point_statement (point_name index)) h)).1)

found_step : (pass : LineKind → Bool) (t : Bool) (g f : LineKind) (later : Option LineKind) → cond t (Some g) later ≡ Some f → pass g ≡ true → (later ≡ Some f → pass f ≡ true) → pass f ≡ true
found_step pass true g f later is this more = ap pass (sym (same_Some _ _ is)) ∙ this
found_step pass false g f later is this more = more is

-- what holds of all items holds of the item that is found
found_passes : (test pass : LineKind → Bool) (fs : List LineKind) (f : LineKind) → find test fs ≡ Some f → list_all pass fs ≡ true → pass f ≡ true
found_passes test pass [] f is all = absurd cc
found_passes test pass (g ∷ fs) f is all =
    let sections = and_parts (pass g) (list_all pass fs) all in
    found_step pass (test g) g f (find test fs) is sections.0 (λ later. found_passes test pass fs f later sections.1)

point_found : (index : ℕ) → Own index → line_kind_of (point_name index) ≡ Some (line_kind.Point index)
unfolding line_kind_of
point_found index own =
    ap (λ (o : Option LineKind). option_or o (option_map (λ (i : ℕ). line_kind.Point i) (point_statement (point_name index)))) (none_is _ own.apart)
    ∙ ap (option_map (λ (i : ℕ). line_kind.Point i)) own.by_name

-- a line kind that has a first word is found by it
pub line_kind_found : (c : Contents) (locals : List (List ℕ)) (f : LineKind) → has_first_word c locals f ≡ true → line_kind_of (syntax_of f).keyword ≡ Some f
unfolding line_kind_of line_kinds syntax_of declaration_syntax has_first_word
line_kind_found c locals (line_kind.Declares kind.Global) h = refl
line_kind_found c locals (line_kind.Point index) h = point_found index (own index h)
line_kind_found c locals _ h = refl

-- and that word begins no comment
pub first_word : (c : Contents) (locals : List (List ℕ)) (f : LineKind) → has_first_word c locals f ≡ true → (is_word (syntax_of f).keyword ≡ true) × (begins_comment (syntax_of f).keyword ≡ false)
unfolding syntax_of declaration_syntax has_first_word
first_word c locals (line_kind.Declares kind.Global) h = (refl, refl)
first_word c locals (line_kind.Point index) h = let this = own index h in (this.word, this.encoded)
first_word c locals _ h = (refl, refl)

-- no line kind with a keyword of its own is a point
no_points : list_all is_no_point line_kinds ≡ true
unfolding line_kinds
no_points = refl

-- the point that a word finds is the statement with that name
point_parses : (w : List ℕ) (index : ℕ) (first : Option LineKind) (o : Option ℕ) → find (λ f. bytes_eq (syntax_of f).keyword w) line_kinds ≡ first → option_or first (option_map (λ (i : ℕ). line_kind.Point i) o) ≡ Some (line_kind.Point index) → o ≡ Some index
point_parses w index (Some f) o at is =
    absurd (true≢false (sym (found_passes (λ f. bytes_eq (syntax_of f).keyword w) is_no_point line_kinds (line_kind.Point index) (at ∙ is) no_points)))
point_parses w index None (Some i) at is = cc
point_parses w index None None at is = absurd cc

named_decodes : (w : List ℕ) (index : ℕ) → point_statement w ≡ Some index → option_map_or (nat_eq index) (point_statement (point_name index)) false ≡ true
named_decodes w index is =
    ap (λ (v : List ℕ). option_map_or (nat_eq index) (point_statement v) false) (named_statement w index is).0
    ∙ ap (λ (o : Option ℕ). option_map_or (nat_eq index) o false) is ∙ same_number index

-- the line kind of a word that names such a point
pub named_kind : (w : List ℕ) (index : ℕ) → point_statement w ≡ Some index → line_kind_of w ≡ Some (line_kind.Point index)
named_kind w index is = ap line_kind_of (sym (named_statement w index is).0) ∙ point_found index (own index (named_decodes w index is))

found_first : (w : List ℕ) (index : ℕ) → line_kind_of w ≡ Some (line_kind.Point index) → option_map_or (nat_eq index) (point_statement (point_name index)) false ≡ true
unfolding line_kind_of
found_first w index is = named_decodes w index (point_parses w index _ (point_statement w) refl is)

-- a line kind that is found by a word has a first word
pub has_first : (c : Contents) (locals : List (List ℕ)) (w : List ℕ) (f : LineKind) → line_kind_of w ≡ Some f → has_first_word c locals f ≡ true
unfolding has_first_word
has_first c locals w (line_kind.Point index) is = found_first w index is
has_first c locals w _ is = refl
