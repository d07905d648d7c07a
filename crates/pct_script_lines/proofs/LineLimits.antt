-- The first line that exceeds a limit, by the numbers of lines of each sort before it.
use Rattle.pct_names.proofs.Names.{◌&&◌, ◌+◌, ◌-◌, [], ap, arith, Bool, cond, declares, declares_by, drop, exceeds_limit, false}
use Rattle.pct_names.proofs.Names.{fault_at_line, first_wrong, is_declaration, is_statement, length, length-drop, length-map, Line, List}
use Rattle.pct_names.proofs.Names.{locals_of, names_in, nat_le, nat_lt, None, not, Numbered, Option, option_map, option_map_or}
use Rattle.pct_names.proofs.Names.{parsed_lines, ParsedLine, refl, Role, role_in, Some, suc, sum_by-cons, sym, Token, too_many, TooMany}
use Rattle.pct_names.proofs.Names.{true, ◌||◌, ℕ, ◌∙◌, ◌∷◌, ◌≡◌}
use Rattle.std.proofs.Common.{ltb-true, ltb-false}
use Rattle.std.specs.List.{count_by}
use Rattle.pct_model.specs.declared.line_kind.SymbolKind.TheVariants as kind
use Rattle.pct_model.specs.declared.role.Role.TheVariants as role
use Rattle.pct_model.specs.declared.parsed_line.Token.TheVariants as token
use Rattle.pct_script_lines.specs.declared.stored_lines.LineOutline.{LineOutline}
use Rattle.pct_script_lines.specs.declared.limits.Counts.{Counts}
use Rattle.pct_script_lines.specs.Outlines.{outline_of, outlines_of}
use Rattle.pct_script_lines.specs.LineCounts.{none_yet, with_role, with_outline, limit_in}
use Rattle.pct_grammar.proofs.SharedWords.{IsParsed, EachParsed}
use Rattle.pct_grammar.proofs.ParsedFromWords.{DeclaresFunction, line_declares, parsed_lines_are_parsed}
use Rattle.pct_grammar.proofs.Declarations.{all_names_in}

-- ---- line by line

pub limit_stops : (c : Counts) (n : ℕ) (h : LineOutline) (outlines : List (Numbered LineOutline)) → with_outline c h ≡ None → limit_in c ((n, h) ∷ outlines) ≡ Some n
unfolding limit_in
limit_stops c n h outlines e = ap (λ o. option_map_or (λ d. limit_in d outlines) o (Some n)) e

pub limit_goes_on : (c d : Counts) (n : ℕ) (h : LineOutline) (outlines : List (Numbered LineOutline)) → with_outline c h ≡ Some d → limit_in c ((n, h) ∷ outlines) ≡ limit_in d outlines
unfolding limit_in
limit_goes_on c d n h outlines e = ap (λ o. option_map_or (λ d. limit_in d outlines) o (Some n)) e

pub limit_none : (c : Counts) → limit_in c [] ≡ None
unfolding limit_in
limit_none c = refl

-- ---- counts

-- the numbers of lines of each sort
abbrev counts_of : List ParsedLine → Counts
counts_of lines = record {
  globals = count_by (declares kind.Global) lines;
  mutexes = count_by (declares kind.Mutex) lines;
  conds = count_by (declares kind.Cond) lines;
  sems = count_by (declares kind.Sem) lines;
  onces = count_by (declares kind.Once) lines;
  functions = count_by (declares kind.Function) lines;
  statements = count_by is_statement lines;
}

abbrev one_if : Bool → ℕ → ℕ
one_if t n = cond t (n + 1) n

-- the counts with one more line
abbrev counted : Counts → Role → Counts
counted c r = record {
  globals = one_if (declares_by kind.Global r) c.globals;
  mutexes = one_if (declares_by kind.Mutex r) c.mutexes;
  conds = one_if (declares_by kind.Cond r) c.conds;
  sems = one_if (declares_by kind.Sem r) c.sems;
  onces = one_if (declares_by kind.Once r) c.onces;
  functions = one_if (declares_by kind.Function r) c.functions;
  statements = one_if (not (is_declaration r)) c.statements;
}

-- a line of this role exceeds a limit
abbrev is_past : Counts → Role → Bool → Bool
is_past c r many =
    declares_by kind.Global r && nat_le 32 c.globals || declares_by kind.Mutex r && nat_le 32 c.mutexes || declares_by kind.Cond r && nat_le 32 c.conds
    || declares_by kind.Sem r && nat_le 32 c.sems || declares_by kind.Once r && nat_le 32 c.onces || declares_by kind.Function r && nat_le 64 c.functions
    || not (is_declaration r) && nat_le 2000 c.statements || declares_by kind.Function r && many

one_is : (t : Bool) (n : ℕ) → cond t 1 0 + n ≡ one_if t n
one_is true n = omega arith
one_is false n = omega arith

one_counted : (test : ParsedLine → Bool) (line : ParsedLine) (lines : List ParsedLine) → count_by test (line ∷ lines) ≡ one_if (test line) (count_by test lines)
one_counted test line lines = sum_by-cons (λ l. cond (test l) 1 0) line lines ∙ one_is (test line) (count_by test lines)

same_counts : {a b c d e f g h i j k l m n : ℕ} → a ≡ h → b ≡ i → c ≡ j → d ≡ k → e ≡ l → f ≡ m → g ≡ n
    → ◌≡◌ {A = Counts} (record { globals = a; mutexes = b; conds = c; sems = d; onces = e; functions = f; statements = g })
    (record { globals = h; mutexes = i; conds = j; sems = k; onces = l; functions = m; statements = n })
same_counts o p q r s t u = cc

counts_more : (line : ParsedLine) (lines : List ParsedLine) → counts_of (line ∷ lines) ≡ counted (counts_of lines) (role_in line)
counts_more line lines =
    same_counts (one_counted (declares kind.Global) line lines) (one_counted (declares kind.Mutex) line lines) (one_counted (declares kind.Cond) line lines)
    (one_counted (declares kind.Sem) line lines) (one_counted (declares kind.Once) line lines) (one_counted (declares kind.Function) line lines)
    (one_counted is_statement line lines)

-- ---- a line

by_count : (F : Bool → Bool) (f : ℕ → Counts) (n : ℕ) (t : Bool) → F true ≡ true → F false ≡ false → option_map f (cond t None (Some (n + 1))) ≡ cond (F t) None (Some (f (n + 1)))
by_count F f n true e g = sym (ap (λ (t : Bool). cond {A = Option Counts} t None (Some (f (n + 1)))) e)
by_count F f n false e g = sym (ap (λ (t : Bool). cond {A = Option Counts} t None (Some (f (n + 1)))) g)

by_locals : (f : ℕ → Counts) (n : ℕ) (t many : Bool) → cond many None (option_map f (cond t None (Some (n + 1)))) ≡ cond (t || false || many) None (Some (f (n + 1)))
by_locals f n true true = refl
by_locals f n _ _ = refl

role_counted : (c : Counts) (r : Role) (many : Bool) → cond (declares_by kind.Function r && many) None (with_role c r) ≡ cond (is_past c r many) None (Some (counted c r))
role_counted c (role.Declares kind.Global) many = by_count (λ t. t || false || false || false || false || false || false || false) (λ n. record c { globals = n }) c.globals (nat_le 32 c.globals) refl refl
role_counted c (role.Declares kind.Mutex) many = by_count (λ t. t || false || false || false || false || false || false) (λ n. record c { mutexes = n }) c.mutexes (nat_le 32 c.mutexes) refl refl
role_counted c (role.Declares kind.Cond) many = by_count (λ t. t || false || false || false || false || false) (λ n. record c { conds = n }) c.conds (nat_le 32 c.conds) refl refl
role_counted c (role.Declares kind.Sem) many = by_count (λ t. t || false || false || false || false) (λ n. record c { sems = n }) c.sems (nat_le 32 c.sems) refl refl
role_counted c (role.Declares kind.Once) many = by_count (λ t. t || false || false || false) (λ n. record c { onces = n }) c.onces (nat_le 32 c.onces) refl refl
role_counted c (role.Declares kind.Function) many = by_locals (λ n. record c { functions = n }) c.functions (nat_le 64 c.functions) many
role_counted c _ many = by_count (λ t. t || false) (λ n. record c { statements = n }) c.statements (nat_le 2000 c.statements) refl refl

-- ---- the names on a `fn` line

-- all tokens of a `fn` line are names
named : (line : ParsedLine) → IsParsed line → declares kind.Function line ≡ true → length (names_in line.tokens) ≡ length line.tokens
named line from is =
    let parsed : DeclaresFunction line.tokens = line_declares kind.Function line from is in
    let locals = parsed.parameter ∷ parsed.others in
    ap (λ (ws : List Token). length (names_in ws)) parsed.same ∙ ap (λ (names : List (List ℕ)). suc (length names)) (all_names_in locals)
    ∙ ap suc (sym (length-map locals (λ w. token.Name w))) ∙ sym (ap length parsed.same)

-- ---- lines

one_fewer_by : (n : ℕ) (s t : Bool) → nat_lt 9 n ≡ s → nat_lt 8 (n - 1) ≡ t → s ≡ t
one_fewer_by n true false e f = absurd (omega (arith, ltb-true 9 n e, ltb-false 8 (n - 1) f))
one_fewer_by n false true e f = absurd (omega (arith, ltb-false 9 n e, ltb-true 8 (n - 1) f))
one_fewer_by n _ _ e f = refl

one_fewer : (n : ℕ) → nat_lt 9 n ≡ nat_lt 8 (n - 1)
one_fewer n = one_fewer_by n (nat_lt 9 n) (nat_lt 8 (n - 1)) refl refl

many_by : (words : List Token) (t : Bool) → (t ≡ true → length (names_in words) ≡ length words) → (t && nat_lt 9 (length words)) ≡ (t && nat_lt 8 (length (drop 1 (names_in words))))
many_by words false resolve_name = refl
many_by words true resolve_name = one_fewer (length words) ∙ ap (λ n. nat_lt 8 (n - 1)) (sym (resolve_name refl)) ∙ ap (nat_lt 8) (sym (length-drop 1 (names_in words)))

decided : (t : Bool) (c : Counts) (n : ℕ) (outlines : List (Numbered LineOutline)) → option_map_or (λ d. limit_in d outlines) (cond t None (Some c)) (Some n) ≡ cond t (Some n) (limit_in c outlines)
decided true c n outlines = refl
decided false c n outlines = refl

one_limit : (before : List ParsedLine) (l : Line) (outlines : List (Numbered LineOutline)) → IsParsed l.1
    → limit_in (counts_of before) ((l.0, outline_of l.1) ∷ outlines) ≡ cond (exceeds_limit before l.1) (Some l.0) (limit_in (counts_of (l.1 ∷ before)) outlines)
unfolding limit_in with_outline exceeds_limit
one_limit before l outlines from =
    let c = counts_of before in
    let r = role_in l.1 in
    let many = nat_lt 8 (length (locals_of l.1)) in
    ap (λ (t : Bool). option_map_or (λ d. limit_in d outlines) (cond t None (with_role c r)) (Some l.0)) (many_by l.1.tokens (declares kind.Function l.1) (named l.1 from))
    ∙ ap (λ (o : Option Counts). option_map_or (λ d. limit_in d outlines) o (Some l.0)) (role_counted c r many)
    ∙ decided (is_past c r many) (counted c r) l.0 outlines
    ∙ ap (λ (d : Counts). cond (is_past c r many) (Some l.0) (limit_in d outlines)) (sym (counts_more l.1 before))

limits_by_counts : (before : List ParsedLine) (lines : List Line) → EachParsed lines → limit_in (counts_of before) (outlines_of lines) ≡ first_wrong exceeds_limit before lines
unfolding first_wrong
limits_by_counts before [] from = limit_none (counts_of before)
limits_by_counts before (l ∷ lines) from =
    one_limit before l (outlines_of lines) from.0 ∙ ap (λ (o : Option ℕ). cond (exceeds_limit before l.1) (Some l.0) o) (limits_by_counts (l.1 ∷ before) lines from.1)

pub limit_of_text : (text : List ℕ) → fault_at_line TooMany (limit_in none_yet (outlines_of (parsed_lines text))) ≡ too_many (parsed_lines text)
unfolding too_many
limit_of_text text = ap (fault_at_line TooMany) (limits_by_counts [] (parsed_lines text) (parsed_lines_are_parsed text))
