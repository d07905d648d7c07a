-- The first entry of a schedule that is not legal.
use Rattle.pct_names.proofs.Names.{◌+◌, ◌++◌, ◌<◌, [], ap, arith, Config, drop, Entry, first_illegal, get_or, illegal_in, is_some, length}
use Rattle.pct_names.proofs.Names.{List, None, none-some, opening, Option, option_and_then, option_map, option_map_or, refl, Run, run}
use Rattle.pct_names.proofs.Names.{run_from, run_step, same_Some, Script, Some, subst, suc, sym, take, take-append-drop, take_all}
use Rattle.pct_names.proofs.Names.{take_more, true, ℕ, ◌∙◌, ◌∷◌, ◌≡◌, ◌≤◌}
use Rattle.std.proofs.Common.{append_assoc}
use Rattle.std.proofs.lemmas.List.{length-take-le}
use Rattle.pct_engine.specs.EngineStates.{EngineValue, IsRunWith}
use Rattle.pct_engine_laws.proofs.LongerRuns.{run_parts, run_more}
use Rattle.pct_history.specs.Replays.{Follows}

-- ---- options

-- the value of an option that has one
pub has_value : {A : Type 0} (o : Option A) → is_some o ≡ true → (x : A) × (o ≡ Some x)
has_value None is = absurd (cc)
has_value (Some x) is = (x, refl)

has_none : {A : Type 0} (o : Option A) → (is_some o ≡ true → ⊥) → o ≡ None
has_none None is = refl
has_none (Some x) is = absurd (is refl)

-- ---- schedules

-- the number of the first entry that is not legal, where the first entry leads to this run
abbrev counted : Script → Config → List Entry → Option Run → Option ℕ
counted script config entries o = option_map_or (λ next. option_map suc (illegal_in script config next entries)) o (Some 1)

after_first : (script : Script) (config : Config) (r : Run) (before : List Entry) (e : Entry) (after : List Entry)
    → ((next : Run) → run_from script config next before ≡ Some r → illegal_in script config next (before ++ e ∷ after) ≡ Some (suc (length before)))
    → (o : Option Run) → option_and_then (λ next. run_from script config next before) o ≡ Some r → counted script config (before ++ e ∷ after) o ≡ Some (suc (suc (length before)))
after_first script config r before e after each None ran = absurd (none-some r ran)
after_first script config r before e after each (Some next) ran = ap (option_map suc) (each next ran)

-- an entry that is not legal, after entries that are
illegal-after : (script : Script) (config : Config) (from r : Run) (before : List Entry) (e : Entry) (after : List Entry) → run_from script config from before ≡ Some r → run_step script config r e ≡ None
    → illegal_in script config from (before ++ e ∷ after) ≡ Some (suc (length before))
unfolding run_from illegal_in
illegal-after script config from r [] e after ran none = ap (counted script config after) (ap (λ x. run_step script config x e) (same_Some from r ran) ∙ none)
illegal-after script config from r (x ∷ before) e after ran none =
    after_first script config r before e after (λ next at. illegal-after script config next r before e after at none) (run_step script config from x) ran

-- the entries are those before one, this one, and those after it
around : (entries : List Entry) (i : ℕ) (d : Entry) → i < length entries → entries ≡ take i entries ++ get_or entries i d ∷ drop (i + 1) entries
around entries i d within =
    sym (take-append-drop (i + 1) entries)
    ∙ ap (λ xs. xs ++ drop (i + 1) entries) (take_more entries i d within)
    ∙ append_assoc (take i entries) (get_or entries i d ∷ []) (drop (i + 1) entries)

-- an engine has made the steps of the entries before one, and with this one they are no run: it is the first that is not legal
pub illegal-at : (engine : EngineValue) (script : Script) (config : Config) (entries : List Entry) (i : ℕ) (d : Entry) → engine ≡ record { script = script; config = config; history = take i entries } → i < length entries → length entries ≤ config.budget
    → is_some (run script config (take i entries)) ≡ true → (IsRunWith engine (get_or entries i d) → ⊥)
    → first_illegal script config entries ≡ Some (i + 1)
illegal-at engine script config entries i d made within few legal illegal =
    let before = take i entries in
    let e = get_or entries i d in
    let so_far = has_value (run script config before) legal in
    let r = so_far.0 in
    let count : length before ≡ i = length-take-le i entries (omega arith) in
    let stopped : run script config (before ++ e ∷ []) ≡ None = has_none (run script config (before ++ e ∷ [])) (λ legal_too. illegal (subst (λ (v : EngineValue). IsRunWith v e) (sym made) legal_too)) in
    let from : Run = record { world = opening script; events = [] } in
    ap (illegal_in script config from) (around entries i d within)
    ∙ illegal-after script config from r before e (drop (i + 1) entries) (run_parts script config before r so_far.1).ran (sym (run_more script config before e r so_far.1 (omega arith)) ∙ stopped)
    ∙ ap (λ (n : ℕ). Some n) (omega (arith, count))

-- ---- schedules that are legal

none_after : (script : Script) (config : Config) (r : Run) (entries : List Entry)
    → ((next : Run) → run_from script config next entries ≡ Some r → illegal_in script config next entries ≡ None)
    → (o : Option Run) → option_and_then (λ next. run_from script config next entries) o ≡ Some r → counted script config entries o ≡ None
none_after script config r entries each None ran = absurd (none-some r ran)
none_after script config r entries each (Some next) ran = ap (option_map suc) (each next ran)

-- entries that are a run are all legal
none-illegal : (script : Script) (config : Config) (from r : Run) (entries : List Entry) → run_from script config from entries ≡ Some r → illegal_in script config from entries ≡ None
unfolding run_from illegal_in
none-illegal script config from r [] ran = refl
none-illegal script config from r (e ∷ entries) ran = none_after script config r entries (λ next at. none-illegal script config next r entries at) (run_step script config from e) ran

-- ---- an engine that follows a schedule

-- it has made the steps of the entries before one that is not legal
pub follows-until : (engine : EngineValue) (script : Script) (config : Config) (entries : List Entry) (i : ℕ) (entry_number : ℕ) → engine ≡ record { script = script; config = config; history = take i entries } → entry_number ≡ i + 1
    → first_illegal script config entries ≡ Some (i + 1) → Follows script config entries engine (Some entry_number)
follows-until engine script config entries i entry_number made number illegal = record {
  illegal_is = illegal ∙ ap (λ (n : ℕ). Some n) (sym number);
  engine_is = made ∙ ap (λ (n : ℕ). record { script = script; config = config; history = take n entries }) (omega (arith, number));
}

-- it has made the steps of all entries
pub follows-all : (engine : EngineValue) (script : Script) (config : Config) (entries : List Entry) (i : ℕ) → engine ≡ record { script = script; config = config; history = take i entries } → length entries ≤ i
    → is_some (run script config (take i entries)) ≡ true → Follows script config entries engine None
follows-all engine script config entries i made past legal =
    let all : take i entries ≡ entries = take_all i entries past in
    let is_run = has_value (run script config entries) (subst (λ (xs : List Entry). is_some (run script config xs) ≡ true) all legal) in
    record {
      illegal_is = none-illegal script config _ is_run.0 entries (run_parts script config entries is_run.0 is_run.1).ran;
      engine_is = made ∙ ap (λ (xs : List Entry). record { script = script; config = config; history = xs }) all;
    }
