-- Runs with one entry more, and what an engine represents.
use Rattle.pct_names.proofs.Names.{drop, ◌++◌, ◌<◌, [], ap, Bool, cond, Config, Entry, Event, event_of, false, is_config, length, List, map}
use Rattle.pct_names.proofs.Names.{map-append, None, opening, Option, option_map, refl, reverse, reverse-append, Run, run, Script, Some}
use Rattle.pct_names.proofs.Names.{step, subst, sym, Transition, true, World, ◌∙◌, ◌∷◌, ◌≡◌}
use Rattle.pct_engine_laws.specs.Seen.{Seen, seen, seen_after}
use Rattle.pct_engine_laws.specs.SeenSteps.{seen_transition}
use Rattle.pct_engine_laws.proofs.AfterSeen.{after_is_seen}
use Rattle.pct_engine_laws.proofs.LongerRuns.{run_parts, run_none, run_more, run_after, run_step-is}
use Rattle.pct_engine_laws.proofs.StepSeen.{successor_of, may_step, step_is_seen}
use Rattle.pct_step_context.specs.Programs.{ProgramValue}
use Rattle.pct_machine.specs.MachineSteps.{legal_transition}
use Rattle.pct_machine.proofs.ConfigLimits.{slots_within}
use Rattle.pct_engine.specs.Traces.{TraceValue}
use Rattle.pct_engine.specs.EngineStates.{StandsFor}

-- ---- lists

reverse-map : {A B : Type 0} (f : A → B) (xs : List A) → reverse (map f xs) ≡ map f (reverse xs)
reverse-map f [] = refl
reverse-map f (x ∷ xs) =
    reverse-append (f x ∷ []) (map f xs)
    ∙ ap (λ ys. ys ++ f x ∷ []) (reverse-map f xs)
    ∙ sym (map-append f (reverse xs) (x ∷ []))
    ∙ ap (map f) (sym (reverse-append (x ∷ []) xs))

-- ---- a step

cond-map : {A B C : Type 0} (b : Bool) (g : B → C) (f : A → B) (o : Option A) → option_map g (cond b (option_map f o) None) ≡ option_map (λ a. g (f a)) (cond b o None)
cond-map false g f o = refl
cond-map true g f None = refl
cond-map true g f (Some a) = refl

-- the run after a transition of an entry
abbrev pub run_moved : Run → Entry → Transition → Run
run_moved r e o = run_after r e (successor_of r.world e o)

-- the history with one entry more is a run exactly if the entry is legal
pub next_run : (script : Script) (config : Config) (history : List Entry) (e : Entry) (r : Run) (v : Seen) → length history < config.budget → run script config history ≡ Some r → v ≡ seen config.slots r.world → run script config (history ++ e ∷ []) ≡ option_map (run_moved r e) (legal_transition script config v e)
next_run script config history e r v left is view =
    let w : World = r.world in
    run_more script config history e r is left
    ∙ run_step-is script config r e (step script config w e) refl
    ∙ ap (option_map (run_after r e)) (step_is_seen script config w e (slots_within config (run_parts script config history r is).limits).0)
    ∙ cond-map (may_step w e) (run_after r e) (successor_of w e) (seen_transition script config (seen config.slots w) e)
    ∙ ap (λ (u : Seen). option_map (run_moved r e) (legal_transition script config u e)) (sym view)

-- ---- what an engine represents

-- before the first step
pub stands-first : (program : ProgramValue) (trace : TraceValue) (machine : Seen) (script : Script) (config : Config) (planned : List Entry) → is_config config ≡ true → program ≡ record { script = script; config = config }
    → trace ≡ record { budget = config.budget; history = []; planned = planned; events = [] } → machine ≡ seen config.slots (opening script)
    → StandsFor program trace machine
stands-first program trace machine script config planned limits program_is trace_is state_is =
    subst (λ (p : ProgramValue). StandsFor p trace machine) (sym program_is)
    (subst (λ (t : TraceValue). StandsFor (record { script = script; config = config }) t machine) (sym trace_is) (record {
      after = record { world = opening script; events = [] };
      is_run = run_none script config limits;
      events_are = refl;
      state_is = state_is;
      budget_is = refl;
    }))

-- after a step that was recorded
pub stands-more : (program : ProgramValue) (trace : TraceValue) (machine : Seen) (e : Entry) (o : Transition) → length trace.history < trace.budget → StandsFor program trace machine → legal_transition program.script program.config machine e ≡ Some o
    → StandsFor program (record trace { history = trace.history ++ e ∷ []; planned = drop 1 trace.planned; events = trace.events ++ map (event_of e) o.events }) (seen_after program.config.slots e.pid e.tid o machine)
stands-more program trace machine e o left stands legal =
    let r = stands.after in
    let limits = (run_parts program.script program.config trace.history r stands.is_run).limits in
    record {
      after = run_moved r e o;
      is_run = next_run program.script program.config trace.history e r machine (subst (λ n. length trace.history < n) stands.budget_is left) stands.is_run stands.state_is ∙ ap (option_map (run_moved r e)) legal;
      events_are =
          reverse-append trace.events (map (event_of e) o.events)
          ∙ ap (λ (es : List Event). es ++ reverse trace.events) (reverse-map (event_of e) o.events)
          ∙ ap (λ (es : List Event). map (event_of e) (reverse o.events) ++ es) stands.events_are;
      state_is = ap (seen_after program.config.slots e.pid e.tid o) stands.state_is ∙ sym (after_is_seen program.config.slots e.pid e.tid r.world o (slots_within program.config limits).0);
      budget_is = stands.budget_is;
    }
