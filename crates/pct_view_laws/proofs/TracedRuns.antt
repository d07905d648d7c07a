-- The steps of a run have its entries and its events, in order, and a run with one entry more has one step more.
use Rattle.pct_names.proofs.Names.{◌++◌, [], ap, Config, Entry, Event, event_of, flat_map, List, map, map-append, None, none-some, Option}
use Rattle.pct_names.proofs.Names.{option_and_then, option_map, option_map_or, refl, reverse, reverse-append, reverse-reverse, Run, run}
use Rattle.pct_names.proofs.Names.{run_from, run_step, same_Some, Script, Some, step, Successor, sym, World, ◌∙◌, ◌∷◌, ◌≡◌}
use Rattle.std.proofs.lemmas.List.{append-nil, append_assoc}
use Rattle.pct_model.proofs.Runs.{run_from-more}
use Rattle.pct_engine_laws.proofs.LongerRuns.{run_parts, run_after}
use Rattle.pct_thread_invariants.proofs.lift.TakenSteps.{first_run}
use Rattle.pct_view_laws.specs.TracedSteps.{TracedStep, IsTraceOf, start_in, steps_from, steps_of, events_of}

-- ---- one step

-- the step of an entry in a state, where this is its successor
abbrev step_to : World → Entry → Successor → TracedStep
step_to w e s = record { start = start_in w e; entry = e; events = s.events }

-- a reversed list that is mapped
map-reverse : {A B : Type 0} (f : A → B) (xs : List A) → map f (reverse xs) ≡ reverse (map f xs)
map-reverse f [] = refl
map-reverse {A} {B} f (x ∷ xs) =
    ap (map f) (reverse-append (x ∷ []) xs)
    ∙ map-append f (reverse xs) (x ∷ [])
    ∙ ap (λ (front : List B). front ++ f x ∷ []) (map-reverse f xs)
    ∙ sym (reverse-append (f x ∷ []) (map f xs))

-- the events of a run after a step: those before, and then those of the step
events_after : (r : Run) (e : Entry) (s : Successor) → reverse (run_after r e s).events ≡ reverse r.events ++ map (event_of e) s.events
events_after r e s =
    let events : List Event = map (event_of e) s.events in
    reverse-append (map (event_of e) (reverse s.events)) r.events
    ∙ ap (λ (last : List Event). reverse r.events ++ last) (ap reverse (map-reverse (event_of e) s.events) ∙ reverse-reverse events)

-- ---- the first step

first_step_by : (script : Script) (config : Config) (r : Run) (e : Entry) (entries : List Entry) (after : Run) (o : Option Successor) → option_and_then (λ next. run_from script config next entries) (option_map (run_after r e) o) ≡ Some after → (s : Successor) × (o ≡ Some s) × (run_from script config (run_after r e s) entries ≡ Some after)
first_step_by script config r e entries after None is = absurd (none-some after is)
first_step_by script config r e entries after (Some s) is = (s, refl, is)

-- a run of entries goes on from the step of the first one
first_step : (script : Script) (config : Config) (r : Run) (e : Entry) (entries : List Entry) (after : Run) → run_from script config r (e ∷ entries) ≡ Some after → (s : Successor) × (step script config r.world e ≡ Some s) × (run_from script config (run_after r e s) entries ≡ Some after)
unfolding run_from run_step
first_step script config r e entries after is = first_step_by script config r e entries after (step script config r.world e) is

-- the steps of entries, where the first one makes a step
steps_from-cons : (script : Script) (config : Config) (w : World) (e : Entry) (entries : List Entry) (s : Successor) → step script config w e ≡ Some s → steps_from script config w (e ∷ entries) ≡ step_to w e s ∷ steps_from script config s.world entries
unfolding steps_from
steps_from-cons script config w e entries s is = ap (λ (o : Option Successor). option_map_or (λ x. step_to w e x ∷ steps_from script config x.world entries) o []) is

-- ---- all steps

-- the steps from a run on have the entries
entries_from : (script : Script) (config : Config) (r : Run) (entries : List Entry) (after : Run) → run_from script config r entries ≡ Some after → map (λ (s : TracedStep). s.entry) (steps_from script config r.world entries) ≡ entries
unfolding steps_from
entries_from script config r [] after is = refl
entries_from script config r (e ∷ entries) after is =
    let first = first_step script config r e entries after is in
    ap (map (λ (s : TracedStep). s.entry)) (steps_from-cons script config r.world e entries first.0 first.1)
    ∙ ap (λ (rest : List Entry). e ∷ rest) (entries_from script config (run_after r e first.0) entries after first.2)

-- the steps from a run on have the events that come after those of the run
events_from : (script : Script) (config : Config) (r : Run) (entries : List Entry) (after : Run) → run_from script config r entries ≡ Some after → reverse r.events ++ flat_map events_of (steps_from script config r.world entries) ≡ reverse after.events
unfolding run_from steps_from
events_from script config r [] after is = append-nil (reverse r.events) ∙ ap (λ (x : Run). reverse x.events) (same_Some r after is)
events_from script config r (e ∷ entries) after is =
    let first = first_step script config r e entries after is in
    let s : Successor = first.0 in
    let rest : List Event = flat_map events_of (steps_from script config s.world entries) in
    ap (λ (steps : List TracedStep). reverse r.events ++ flat_map events_of steps) (steps_from-cons script config r.world e entries s first.1)
    ∙ sym (append_assoc (reverse r.events) (map (event_of e) s.events) rest)
    ∙ ap (λ (events : List Event). events ++ rest) (sym (events_after r e s))
    ∙ events_from script config (run_after r e s) entries after first.2

-- the steps of a run have its entries and its events
pub traces_runs : (script : Script) (config : Config) (entries : List Entry) (after : Run) → run script config entries ≡ Some after → IsTraceOf entries after (steps_of script config entries)
traces_runs script config entries after is =
    let parts = run_parts script config entries after is in
    record {
      entries_are = entries_from script config (first_run script) entries after parts.ran;
      events_are = events_from script config (first_run script) entries after parts.ran;
    }

-- ---- one entry more

-- the steps from a run on, with one entry more
steps_from-more : (script : Script) (config : Config) (r : Run) (entries : List Entry) (before : Run) (e : Entry) (s : Successor) → run_from script config r entries ≡ Some before → step script config before.world e ≡ Some s → steps_from script config r.world (entries ++ e ∷ []) ≡ steps_from script config r.world entries ++ step_to before.world e s ∷ []
unfolding run_from steps_from
steps_from-more script config r [] before e s is made = ap (λ (x : Run). steps_from script config x.world (e ∷ [])) (same_Some r before is) ∙ steps_from-cons script config before.world e [] s made
steps_from-more script config r (first ∷ entries) before e s is made =
    let taken = first_step script config r first entries before is in
    let next : Successor = taken.0 in
    steps_from-cons script config r.world first (entries ++ e ∷ []) next taken.1
    ∙ ap (λ (rest : List TracedStep). step_to r.world first next ∷ rest) (steps_from-more script config (run_after r first next) entries before e s taken.2 made)
    ∙ sym (ap (λ (steps : List TracedStep). steps ++ step_to before.world e s ∷ []) (steps_from-cons script config r.world first entries next taken.1))

-- a run with one entry more has one step more: that of the entry in the state after the run
pub steps_more : (script : Script) (config : Config) (entries : List Entry) (before : Run) (e : Entry) (s : Successor) → run script config entries ≡ Some before → step script config before.world e ≡ Some s → steps_of script config (entries ++ e ∷ []) ≡ steps_of script config entries ++ record { start = start_in before.world e; entry = e; events = s.events } ∷ []
steps_more script config entries before e s is made = steps_from-more script config (first_run script) entries before e s (run_parts script config entries before is).ran made

-- a run with one entry more has the events of the entry's step after those before
pub events_more : (script : Script) (config : Config) (entries : List Entry) (before : Run) (e : Entry) (after : Run) → run script config entries ≡ Some before → run script config (entries ++ e ∷ []) ≡ Some after → (s : Successor) × (step script config before.world e ≡ Some s) × (reverse after.events ≡ reverse before.events ++ map (event_of e) s.events)
unfolding run_from
events_more script config entries before e after is longer =
    let last : run_step script config before e ≡ Some after =
    sym (ap (option_and_then (λ (r : Run). run_step script config r e)) (run_parts script config entries before is).ran)
    ∙ sym (run_from-more script config (first_run script) entries e)
    ∙ (run_parts script config (entries ++ e ∷ []) after longer).ran in
    let made = first_step script config before e [] after (run_from-more script config before [] e ∙ last) in
    (made.0, made.1, ap (λ (r : Run). reverse r.events) (sym (same_Some (run_after before e made.0) after made.2)) ∙ events_after before e made.0)
