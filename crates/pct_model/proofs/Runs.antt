-- A run with one more entry.
use Rattle.std.proofs.Common.{◌≡◌, List, [], ◌∷◌, ◌++◌, Option, Some, None, refl}
use Rattle.std.specs.Prelude.{option_and_then}
use Rattle.pct_model.specs.declared.script.Script.{Script}
use Rattle.pct_model.specs.declared.schedule.Config.{Config}
use Rattle.pct_model.specs.declared.schedule.Entry.{Entry}
use Rattle.pct_model.specs.Run.{Run, run_step, run_from}

and_then-Some : (o : Option Run) → option_and_then (λ r. Some r) o ≡ o
and_then-Some None = refl
and_then-Some (Some r) = refl

and_then-and_then : (o : Option Run) (f g h : Run → Option Run) → ((r : Run) → f r ≡ option_and_then h (g r)) → option_and_then f o ≡ option_and_then h (option_and_then g o)
and_then-and_then None f g h each = refl
and_then-and_then (Some r) f g h each = each r

-- the run of a schedule is the run of all entries but the last, and then the step of the last
pub run_from-more : (script : Script) (config : Config) (from : Run) (entries : List Entry) (e : Entry) → run_from script config from (entries ++ e ∷ []) ≡ option_and_then (λ r. run_step script config r e) (run_from script config from entries)
unfolding run_from
run_from-more script config from [] e = and_then-Some (run_step script config from e)
run_from-more script config from (first ∷ entries) e = and_then-and_then (run_step script config from first) (λ next. run_from script config next (entries ++ e ∷ [])) (λ next. run_from script config next entries) (λ r. run_step script config r e) (λ next. run_from-more script config next entries e)
