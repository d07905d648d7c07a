-- The limits of a text, by the numbers of lines of each sort before a line.
use Rattle.std.specs.Prelude.{ℕ, ◌+◌, Bool, ◌&&◌, if◌then◌else◌, List, [], ◌∷◌, Option, Some, None, nat_lt, nat_le, option_map}
use Rattle.std.specs.Option.{option_map_or}
use Rattle.pct_model.specs.declared.line_kind.SymbolKind.{SymbolKind}
use Rattle.pct_model.specs.declared.line_kind.SymbolKind.TheVariants as kind
use Rattle.pct_model.specs.declared.role.Role.{Role}
use Rattle.pct_model.specs.declared.role.Role.TheVariants as role
use Rattle.pct_model.specs.LineKinds.{syntax_of}
use Rattle.pct_model.specs.Sections.{declares_by}
use Rattle.pct_model.specs.LineParsing.{Numbered}
use Rattle.pct_script_lines.specs.declared.stored_lines.LineOutline.{LineOutline}
use Rattle.pct_script_lines.specs.declared.limits.Counts.{Counts}

-- before the first line
abbrev pub none_yet : Counts
none_yet = record { globals = 0; mutexes = 0; conds = 0; sems = 0; onces = 0; functions = 0; statements = 0 }

-- one more, if that is within the limit
abbrev pub one_more : ℕ → ℕ → Option ℕ
one_more n limit = if nat_le limit n then None else Some (n + 1)

-- with one more declaration of this kind
abbrev pub with_declared : Counts → SymbolKind → Option Counts
with_declared c kind.Global = option_map (λ n. record c { globals = n }) (one_more c.globals 32)
with_declared c kind.Mutex = option_map (λ n. record c { mutexes = n }) (one_more c.mutexes 32)
with_declared c kind.Cond = option_map (λ n. record c { conds = n }) (one_more c.conds 32)
with_declared c kind.Sem = option_map (λ n. record c { sems = n }) (one_more c.sems 32)
with_declared c kind.Once = option_map (λ n. record c { onces = n }) (one_more c.onces 32)
with_declared c kind.Function = option_map (λ n. record c { functions = n }) (one_more c.functions 64)

-- with one more statement
abbrev pub with_statement : Counts → Option Counts
with_statement c = option_map (λ n. record c { statements = n }) (one_more c.statements 2000)

-- with one more line of this role
abbrev pub with_role : Counts → Role → Option Counts
with_role c (role.Declares k) = with_declared c k
with_role c _ = with_statement c

-- a `fn` line with more tokens than a name and 8 locals
abbrev pub has_many_words : LineOutline → Bool
has_many_words h = declares_by kind.Function (syntax_of h.line_kind).role && nat_lt 9 h.token_count

-- with one more line, if it exceeds no limit
unfoldable pub with_outline : Counts → LineOutline → Option Counts
with_outline c h = if has_many_words h then None else with_role c (syntax_of h.line_kind).role

-- the first line that exceeds a limit, where these are the counts before the lines
unfoldable pub limit_in : Counts → List (Numbered LineOutline) → Option ℕ
limit_in c [] = None
limit_in c (h ∷ outlines) = option_map_or (λ d. limit_in d outlines) (with_outline c h.1) (Some h.0)
