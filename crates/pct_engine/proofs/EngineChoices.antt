-- The verdict and the choice of an engine are those of the run that it represents.
use Rattle.pct_names.proofs.Names.{◌<◌, ap, arith, Entry, eqb-false, false≢true, IfSome, is_some, IsSomeAnd, length, None, Option}
use Rattle.pct_names.proofs.Names.{option_map, refl, reverse, Run, run, Some, subst, sym, true, verdict_of, ℕ, ◌∙◌, ◌≡◌}
use Rattle.pct_model.specs.declared.stop.Verdict.TheVariants as verdict
use Rattle.pct_engine_laws.specs.Seen.{Seen, seen}
use Rattle.pct_engine_laws.specs.SeenSteps.{seen_chosen, seen_verdict}
use Rattle.pct_engine_laws.proofs.ChosenSeen.{chosen_is_seen}
use Rattle.pct_engine_laws.proofs.LongerRuns.{same_run, run_parts}
use Rattle.pct_engine_laws.proofs.OpenRuns.{open_left, goes_on_while_open}
use Rattle.pct_engine_laws.proofs.VerdictSeen.{verdict_is_seen}
use Rattle.pct_step_context.specs.Programs.{ProgramValue}
use Rattle.pct_machine.specs.MachineSteps.{legal_transition}
use Rattle.pct_machine.proofs.ConfigLimits.{slots_within}
use Rattle.pct_engine.specs.Traces.{TraceValue}
use Rattle.pct_engine.specs.EngineStates.{EngineValue, StandsFor, IsRunWith, IsChoice}
use Rattle.pct_engine.proofs.EngineRuns.{run_moved, next_run}
use Rattle.pct_engine.proofs.OpenChoices.{open_chooses}

some_and : {T : Type 0} (o : Option T) (P Q : T → Type 0) → is_some o ≡ true → ((x : T) → P x → Q x) → IfSome o P → IsSomeAnd o Q
some_and None P Q some next holds = absurd (false≢true some)
some_and (Some x) P Q some next holds = next x holds

moved_some : {S T : Type 0} (f : S → T) (o : Option S) → is_some o ≡ true → is_some (option_map f o) ≡ true
moved_some f None some = absurd (false≢true some)
moved_some f (Some s) some = refl

module _ (program : ProgramValue) (trace : TraceValue) (machine : Seen) (stands : StandsFor program trace machine) (after : Run) (is : run program.script program.config trace.history ≡ Some after) where
  abbrev engine : EngineValue
  engine = record { script = program.script; config = program.config; history = trace.history }

  abbrev IsOpen : Type 0
  IsOpen = verdict_of program.script program.config after.world (length trace.history) ≡ verdict.Open

  same : stands.after ≡ after
  same = same_run program.script program.config trace.history stands.after after stands.is_run is

  some_slots : 0 < program.config.slots
  some_slots = (slots_within program.config (run_parts program.script program.config trace.history after is).limits).0

  -- the machine has what is kept of the state after the run
  pub state_after : machine ≡ seen program.config.slots after.world
  state_after = stands.state_is ∙ ap (λ (r : Run). seen program.config.slots r.world) same

  -- the events are those of the run
  pub events_after : reverse trace.events ≡ after.events
  events_after = stands.events_are ∙ ap (λ (r : Run). r.events) same

  -- the verdict
  pub verdict_after : (n : ℕ) → seen_verdict program.script program.config machine n ≡ verdict_of program.script program.config after.world n
  verdict_after n = ap (λ (v : Seen). seen_verdict program.script program.config v n) state_after ∙ sym (verdict_is_seen program.script program.config after.world n some_slots)

  module _ (worker a b : ℕ) where
    -- no entry is chosen if the budget is used up
    pub full_after : ¬ (length trace.history < trace.budget) → IsChoice engine after worker a b None
    full_after full =
        let open_has_room : IsOpen → length trace.history < trace.budget = λ going.
        let left = eqb-false (length trace.history) program.config.budget (open_left program.script program.config after.world (length trace.history) going) in
        omega (arith, left, stands.budget_is, (run_parts program.script program.config trace.history after is).within) in
        record {
          scheduled = λ going. absurd (full (open_has_room going));
          legal = λ going. absurd (full (open_has_room going));
          closed = λ closed. refl;
        }

    module _ (left : length trace.history < trace.budget) where
      goes_on : (e : Entry) → is_some (legal_transition program.script program.config machine e) ≡ true → IsRunWith engine e
      goes_on e legal =
          ap is_some (next_run program.script program.config trace.history e after machine (subst (λ n. length trace.history < n) stands.budget_is left) is state_after)
          ∙ moved_some (run_moved after e) (legal_transition program.script program.config machine e) legal

      none_if_closed : (o : Option Entry) → IfSome o (λ e. is_some (legal_transition program.script program.config machine e) ≡ true) → ¬ IsOpen → o ≡ None
      none_if_closed None legal closed = refl
      none_if_closed (Some e) legal closed = absurd (closed ((goes_on_while_open program.script program.config trace.history after e is).0 (goes_on e legal)).0)

      -- else the entry that is chosen is that of the scheduler, and it is legal
      pub choice_after : (answer : Option Entry) → answer ≡ seen_chosen program.script program.config machine worker a b → IfSome answer (λ e. is_some (legal_transition program.script program.config machine e) ≡ true) → IsChoice engine after worker a b answer
      choice_after answer chosen legal = record {
        scheduled = λ going. chosen ∙ ap (λ (v : Seen). seen_chosen program.script program.config v worker a b) state_after ∙ sym (chosen_is_seen program.script program.config after.world worker a b some_slots);
        legal = λ going.
            let some : is_some answer ≡ true = ap is_some chosen ∙ open_chooses program.script program.config machine (length trace.history) worker a b (verdict_after (length trace.history) ∙ going) in
            some_and answer (λ (e : Entry). is_some (legal_transition program.script program.config machine e) ≡ true) (IsRunWith engine) some goes_on legal;
        closed = none_if_closed answer legal;
      }
