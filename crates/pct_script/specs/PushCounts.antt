-- A return between a push and its pop, by the numbers of pushes and pops before a line. No public clause cites this file.
use Rattle.std.specs.Prelude.{ℕ, ◌+◌, Bool, true, false, ◌&&◌, if◌then◌else◌, List, [], ◌∷◌, Option, Some, None, nat_lt}
use Rattle.pct_model.specs.declared.role.Role.{Role}
use Rattle.pct_model.specs.LineParsing.{Numbered}
use Rattle.pct_model.specs.Checks.{is_push, is_pop, is_return}

-- 1 for true, 0 for false
abbrev pub one_if : Bool → ℕ
one_if true = 1
one_if false = 0

-- the first return with more pushes than pops before it, where these are the counts before the lines
unfoldable pub return_after : ℕ → ℕ → List (Numbered Role) → Option ℕ
return_after pushes pops [] = None
return_after pushes pops (l ∷ lines) =
    if is_return l.1 && nat_lt pops pushes then Some l.0 else return_after (pushes + one_if (is_push l.1)) (pops + one_if (is_pop l.1)) lines
