-- Runs with one more entry.
use Rattle.pct_names.proofs.Names.{◌&&◌, ◌++◌, ◌<◌, [], and_from, and_parts, and_right, ap, arith, Bool, cond, Config, Entry, event_of}
use Rattle.pct_names.proofs.Names.{false, is_config, is_some, length, List, lt-leb, map, nat_le, None, none-some, opening, Option}
use Rattle.pct_names.proofs.Names.{option_and_then, option_map, refl, reverse, Run, run, run_from, run_step, same_Some, Script, Some, step}
use Rattle.pct_names.proofs.Names.{Successor, sym, true, ◌∙◌, ◌∷◌, ◌≡◌, ◌≤◌}
use Rattle.std.proofs.Common.{le-leb, length-append}
use Rattle.std.proofs.lemmas.Bool.{leb-true}
use Rattle.pct_model.proofs.Runs.{run_from-more}

-- the run of no entry
abbrev first_run : Script → Run
first_run script = record { world = opening script; events = [] }

-- the parts of a run
pub record IsWithin (script : Script) (config : Config) (entries : List Entry) (r : Run) : Type 0 where
  pub limits : is_config config ≡ true
  pub within : length entries ≤ config.budget
  pub ran : run_from script config (first_run script) entries ≡ Some r

run_parts_by : (script : Script) (config : Config) (entries : List Entry) (r : Run) (b : Bool) → (is_config config && nat_le (length entries) config.budget) ≡ b → cond b (run_from script config (first_run script) entries) None ≡ Some r → IsWithin script config entries r
run_parts_by script config entries r true tests is =
    let parts = and_parts (is_config config) (nat_le (length entries) config.budget) tests in
    record { limits = parts.0; within = leb-true (length entries) config.budget parts.1; ran = is }
run_parts_by script config entries r false tests is = absurd (none-some r is)

pub run_parts : (script : Script) (config : Config) (entries : List Entry) (r : Run) → run script config entries ≡ Some r → IsWithin script config entries r
unfolding run
run_parts script config entries r is = run_parts_by script config entries r (is_config config && nat_le (length entries) config.budget) refl is

-- the run of the entries within the budget
pub run_within : (script : Script) (config : Config) (entries : List Entry) → is_config config ≡ true → length entries ≤ config.budget → run script config entries ≡ run_from script config (first_run script) entries
unfolding run
run_within script config entries limits within =
    ap (λ b. cond b (run_from script config (first_run script) entries) None) (and_from (is_config config) (nat_le (length entries) config.budget) limits (le-leb (length entries) config.budget within))

-- the run of no entry is defined
pub run_none : (script : Script) (config : Config) → is_config config ≡ true → run script config [] ≡ Some (record { world = opening script; events = [] })
unfolding run_from
run_none script config limits = run_within script config [] limits (omega arith)

-- a run with one entry more, while the budget is not used up
pub run_more : (script : Script) (config : Config) (entries : List Entry) (e : Entry) (r : Run) → run script config entries ≡ Some r → length entries < config.budget → run script config (entries ++ e ∷ []) ≡ run_step script config r e
run_more script config entries e r is left =
    let parts = run_parts script config entries r is in
    run_within script config (entries ++ e ∷ []) parts.limits (omega (arith, length-append entries (e ∷ [])))
    ∙ run_from-more script config (first_run script) entries e
    ∙ ap (option_and_then (λ (x : Run). run_step script config x e)) parts.ran

-- no run has more entries than the budget
pub run_full : (script : Script) (config : Config) (entries : List Entry) (e : Entry) → config.budget ≤ length entries → run script config (entries ++ e ∷ []) ≡ None
unfolding run
run_full script config entries e full =
    let longer : config.budget < length (entries ++ e ∷ []) = omega (arith, length-append entries (e ∷ [])) in
    ap (λ b. cond b (run_from script config (first_run script) (entries ++ e ∷ [])) None) (and_right (is_config config) (nat_le (length (entries ++ e ∷ [])) config.budget) (lt-leb (length (entries ++ e ∷ [])) config.budget longer))

-- ---- the last step

-- the run after a step
abbrev pub run_after : Run → Entry → Successor → Run
run_after r e s = record { world = s.world; events = map (event_of e) (reverse s.events) ++ r.events }

pub run_step-is : (script : Script) (config : Config) (r : Run) (e : Entry) (o : Option Successor) → step script config r.world e ≡ o → run_step script config r e ≡ option_map (run_after r e) o
unfolding run_step
run_step-is script config r e o is = ap (option_map (run_after r e)) is

some-map : {A B : Type 0} (f : A → B) (o : Option A) → is_some (option_map f o) ≡ is_some o
some-map f None = refl
some-map f (Some a) = refl

-- a run goes on by an entry if the entry makes a step
pub run_step-some : (script : Script) (config : Config) (r : Run) (e : Entry) → is_some (run_step script config r e) ≡ is_some (step script config r.world e)
unfolding run_step
run_step-some script config r e = some-map (run_after r e) (step script config r.world e)

-- a schedule has one run
pub same_run : (script : Script) (config : Config) (entries : List Entry) (a b : Run) → run script config entries ≡ Some a → run script config entries ≡ Some b → a ≡ b
same_run script config entries a b first second = same_Some a b (sym first ∙ second)
