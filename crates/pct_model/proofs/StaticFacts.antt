-- The checks of a well-formed script, one by one.
use Rattle.std.proofs.Common.{◌≡◌, ℕ, ◌≤◌, true, List, [], ◌∷◌, length, map, refl, subst}
use Rattle.std.specs.Prelude.{false, ◌&&◌, not, nat_le}
use Rattle.std.specs.List.{list_all}
use Rattle.std.proofs.lemmas.Bool.{and_parts, and_from, leb-true, not-true}
use Rattle.std.proofs.lemmas.List.{length-map}
use Rattle.pct_model.specs.declared.line_kind.SymbolKind.{SymbolKind}
use Rattle.pct_model.specs.declared.line_kind.SymbolKind.TheVariants as kind
use Rattle.pct_model.specs.declared.script.Func.{Func}
use Rattle.pct_model.specs.declared.script.SemDecl.{SemDecl}
use Rattle.pct_model.specs.Names.{is_name, names_of}
use Rattle.pct_model.specs.LineParsing.{is_empty}
use Rattle.pct_model.specs.Contents.{Contents, names_of_kind}
use Rattle.pct_model.specs.Checks.{most}
use Rattle.pct_model.specs.Static.{has_line, has_lines, has_text, nests, is_within, statement_lines, keeps_limits, has_each_name_once, returns_outside_pushes, names_plain_functions, has_main, is_static}

-- the checks that a well-formed script passes
pub record PassesAll (c : Contents) : Type 0 where
  pub text : has_text c ≡ true
  pub nested : list_all nests c.funcs ≡ true
  pub limits : keeps_limits c ≡ true
  pub once : has_each_name_once c ≡ true
  pub returns : list_all returns_outside_pushes c.funcs ≡ true
  pub plain : list_all (λ f. list_all (names_plain_functions c) f.body) c.funcs ≡ true
  pub main : has_main c ≡ true

pub passes_all : (c : Contents) → is_static c ≡ true → PassesAll c
unfolding is_static
passes_all c static =
    let plain = list_all (λ (f : Func). list_all (names_plain_functions c) f.body) c.funcs in
    let returns = list_all returns_outside_pushes c.funcs in
    let nested = list_all nests c.funcs in
    let a = and_parts (has_text c && nested && keeps_limits c && has_each_name_once c && returns && plain) (has_main c) static in
    let b = and_parts (has_text c && nested && keeps_limits c && has_each_name_once c && returns) plain a.0 in
    let d = and_parts (has_text c && nested && keeps_limits c && has_each_name_once c) returns b.0 in
    let e = and_parts (has_text c && nested && keeps_limits c) (has_each_name_once c) d.0 in
    let f = and_parts (has_text c && nested) (keeps_limits c) e.0 in
    let g = and_parts (has_text c) nested f.0 in
    record { text = g.0; nested = g.1; limits = f.1; once = e.1; returns = d.1; plain = b.1; main = a.1 }

pub static_from : (c : Contents) → PassesAll c → is_static c ≡ true
unfolding is_static
static_from c p =
    let plain = list_all (λ (f : Func). list_all (names_plain_functions c) f.body) c.funcs in
    let returns = list_all returns_outside_pushes c.funcs in
    let nested = list_all nests c.funcs in
    and_from (has_text c && nested && keeps_limits c && has_each_name_once c && returns && plain) (has_main c)
    (and_from (has_text c && nested && keeps_limits c && has_each_name_once c && returns) plain
    (and_from (has_text c && nested && keeps_limits c && has_each_name_once c) returns
    (and_from (has_text c && nested && keeps_limits c) (has_each_name_once c)
    (and_from (has_text c && nested) (keeps_limits c) (and_from (has_text c) nested p.text p.nested) p.limits) p.once) p.returns) p.plain) p.main

-- ---- limits

-- the limits of a well-formed script
pub record KeepsLimits (c : Contents) : Type 0 where
  pub kinds : (k : SymbolKind) → length (names_of_kind c k) ≤ most k
  pub statements : statement_lines c.funcs ≤ 2000
  pub locals : list_all (λ f. nat_le (length f.locals) 8) c.funcs ≡ true

within_kinds : (c : Contents) (k : SymbolKind) → is_within c kind.Global ≡ true → is_within c kind.Mutex ≡ true → is_within c kind.Cond ≡ true → is_within c kind.Sem ≡ true → is_within c kind.Once ≡ true → is_within c kind.Function ≡ true
    → length (names_of_kind c k) ≤ most k
within_kinds c kind.Global globals mutexes conds sems onces functions = leb-true _ _ globals
within_kinds c kind.Mutex globals mutexes conds sems onces functions = leb-true _ _ mutexes
within_kinds c kind.Cond globals mutexes conds sems onces functions = leb-true _ _ conds
within_kinds c kind.Sem globals mutexes conds sems onces functions = leb-true _ _ sems
within_kinds c kind.Once globals mutexes conds sems onces functions = leb-true _ _ onces
within_kinds c kind.Function globals mutexes conds sems onces functions = leb-true _ _ functions

pub limits_kept : (c : Contents) → is_static c ≡ true → KeepsLimits c
unfolding keeps_limits
limits_kept c static =
    let globals = is_within c kind.Global in
    let mutexes = is_within c kind.Mutex in
    let conds = is_within c kind.Cond in
    let sems = is_within c kind.Sem in
    let onces = is_within c kind.Once in
    let functions = is_within c kind.Function in
    let short = nat_le (statement_lines c.funcs) 2000 in
    let locals = list_all (λ (f : Func). nat_le (length f.locals) 8) c.funcs in
    let a = and_parts (globals && mutexes && conds && sems && onces && functions && short) locals (passes_all c static).limits in
    let b = and_parts (globals && mutexes && conds && sems && onces && functions) short a.0 in
    let d = and_parts (globals && mutexes && conds && sems && onces) functions b.0 in
    let e = and_parts (globals && mutexes && conds && sems) onces d.0 in
    let f = and_parts (globals && mutexes && conds) sems e.0 in
    let g = and_parts (globals && mutexes) conds f.0 in
    let h = and_parts globals mutexes g.0 in
    record { kinds = λ k. within_kinds c k h.0 h.1 g.1 f.1 e.1 d.1; statements = leb-true (statement_lines c.funcs) 2000 b.1; locals = a.1 }

-- there are at most 64 functions
pub few_functions : (c : Contents) → is_static c ≡ true → length c.funcs ≤ 64
few_functions c static = subst (λ (n : ℕ). n ≤ 64) (length-map c.funcs (λ (f : Func). f.name)) ((limits_kept c static).kinds kind.Function)

-- ---- names

-- the properties of a function that some lines declare
pub record HasLines (c : Contents) (f : Func) : Type 0 where
  pub name : is_name f.name ≡ true
  pub some : is_empty f.locals ≡ false
  pub locals : list_all is_name f.locals ≡ true
  pub body : list_all (has_line c f.locals) f.body ≡ true

pub lines_of_function : (c : Contents) (f : Func) → has_lines c f ≡ true → HasLines c f
unfolding has_lines
lines_of_function c f h =
    let name = is_name f.name in
    let some = not (is_empty f.locals) in
    let locals = list_all is_name f.locals in
    let a = and_parts (name && some && locals) (list_all (has_line c f.locals) f.body) h in
    let b = and_parts (name && some) locals a.0 in
    let d = and_parts name some b.0 in
    record { name = d.0; some = not-true (is_empty f.locals) d.1; locals = b.1; body = a.1 }

names_of_lines : (c : Contents) (fs : List Func) → list_all (has_lines c) fs ≡ true → list_all is_name (names_of fs) ≡ true
names_of_lines c [] h = refl
names_of_lines c (f ∷ fs) h =
    let parts = and_parts (has_lines c f) (list_all (has_lines c) fs) h in
    and_from (is_name f.name) (list_all is_name (names_of fs)) (lines_of_function c f parts.0).name (names_of_lines c fs parts.1)

names_of_sems : (sems : List SemDecl) → list_all (λ s. is_name s.name && nat_le s.count 32767) sems ≡ true → list_all is_name (map (λ s. s.name) sems) ≡ true
names_of_sems [] h = refl
names_of_sems (s ∷ sems) h =
    let parts = and_parts (is_name s.name && nat_le s.count 32767) (list_all (λ (x : SemDecl). is_name x.name && nat_le x.count 32767) sems) h in
    and_from (is_name s.name) (list_all is_name (map (λ (x : SemDecl). x.name) sems)) (and_parts (is_name s.name) (nat_le s.count 32767) parts.0).0 (names_of_sems sems parts.1)

-- the properties of a script that some text spells
pub record HasText (c : Contents) : Type 0 where
  pub globals : list_all is_name c.globals ≡ true
  pub mutexes : list_all is_name c.mutexes ≡ true
  pub conds : list_all is_name c.conds ≡ true
  pub sems : list_all (λ s. is_name s.name && nat_le s.count 32767) c.sems ≡ true
  pub onces : list_all is_name c.onces ≡ true
  pub funcs : list_all (has_lines c) c.funcs ≡ true

pub text_parts : (c : Contents) → has_text c ≡ true → HasText c
unfolding has_text
text_parts c h =
    let globals = list_all is_name c.globals in
    let mutexes = list_all is_name c.mutexes in
    let conds = list_all is_name c.conds in
    let sems = list_all (λ (s : SemDecl). is_name s.name && nat_le s.count 32767) c.sems in
    let onces = list_all is_name c.onces in
    let a = and_parts (globals && mutexes && conds && sems && onces) (list_all (has_lines c) c.funcs) h in
    let b = and_parts (globals && mutexes && conds && sems) onces a.0 in
    let d = and_parts (globals && mutexes && conds) sems b.0 in
    let e = and_parts (globals && mutexes) conds d.0 in
    let f = and_parts globals mutexes e.0 in
    record { globals = f.0; mutexes = f.1; conds = e.1; sems = d.1; onces = b.1; funcs = a.1 }

-- the declared names of each kind are valid names
pub kinds_are_names : (c : Contents) (k : SymbolKind) → HasText c → list_all is_name (names_of_kind c k) ≡ true
kinds_are_names c kind.Global t = t.globals
kinds_are_names c kind.Mutex t = t.mutexes
kinds_are_names c kind.Cond t = t.conds
kinds_are_names c kind.Sem t = names_of_sems c.sems t.sems
kinds_are_names c kind.Once t = t.onces
kinds_are_names c kind.Function t = names_of_lines c c.funcs t.funcs

-- the names of a script's functions are valid names
pub names_are_names : (c : Contents) → is_static c ≡ true → list_all is_name (names_of c.funcs) ≡ true
names_are_names c static = kinds_are_names c kind.Function (text_parts c (passes_all c static).text)
