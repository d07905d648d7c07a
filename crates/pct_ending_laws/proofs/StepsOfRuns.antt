-- Each entry of the schedule of a run is legal at its turn, and makes a step.
use Rattle.pct_names.proofs.Names.{◌&&◌, ◌++◌, [], and_from, ap, arith, Bool, cond, Config, Entry, event_of, false, is_config, is_some, Legal, length, List, map}
use Rattle.pct_names.proofs.Names.{nat_le, None, none-some, Option, option_and_then, option_and_then_some, option_map, refl, reverse, Run, run, run_from, run_step}
use Rattle.pct_names.proofs.Names.{Script, Some, step, subst, Successor, sym, true, ◌∙◌, ◌∷◌, ◌≡◌, ◌≤◌}
use Rattle.std.proofs.lemmas.Bool.{leb-true, le-leb}
use Rattle.std.proofs.lemmas.List.{length-append}
use Rattle.pct_model.proofs.LegalSteps.{some_step_legal}
use Rattle.pct_laws.specs.ThreadSteps.{EachHasStep}
use Rattle.pct_thread_invariants.proofs.lift.MovedThreads.{step_of, makes_step}
use Rattle.pct_thread_invariants.proofs.lift.TakenSteps.{first_run}

module _ (script : Script) (config : Config) where
  -- an entry is the next one after the run of those before it
  record IsNext (from : Run) (before : List Entry) (e : Entry) : Type 0 where
    r : Run
    ran : run_from script config from before ≡ Some r
    legal : Legal script config r.world e

  legal_by : (r next : Run) (e : Entry) (o : Option Successor) → step script config r.world e ≡ o → option_map (λ (s : Successor). record { world = s.world; events = map (event_of e) (reverse s.events) ++ r.events }) o ≡ Some next → Legal script config r.world e
  legal_by r next e (Some s) is stepped = some_step_legal script config r.world e (ap is_some is)
  legal_by r next e None is stepped = absurd (none-some next stepped)

  is_next : (from end : Run) (before : List Entry) (e : Entry) (after : List Entry) → run_from script config from (before ++ e ∷ after) ≡ Some end → IsNext from before e
  unfolding run_from run_step
  is_next from end [] e after ran =
      option_and_then_some (λ next. run_from script config next after) (run_step script config from e) end ran
      (λ next stepped rest. record { r = from; ran = refl; legal = legal_by from next e (step script config from.world e) refl stepped })
  is_next from end (first ∷ before) e after ran =
      option_and_then_some (λ next. run_from script config next (before ++ e ∷ after)) (run_step script config from first) end ran
      (λ next stepped rest.
      let later = is_next next end before e after rest in
      record { r = later.r; ran = ap (option_and_then (λ n. run_from script config n before)) stepped ∙ later.ran; legal = later.legal })

  -- a run is one within the limits and the budget
  run_parts : (limits within : Bool) (o : Option Run) (end : Run) → cond (limits && within) o None ≡ Some end → ((limits ≡ true) × (within ≡ true)) × (o ≡ Some end)
  run_parts true true o end is = ((refl, refl), is)
  run_parts true false o end is = absurd (none-some end is)
  run_parts false within o end is = absurd (none-some end is)

  -- so each entry of a run makes a step
  pub steps_of_run : (entries : List Entry) (end : Run) → run script config entries ≡ Some end → EachHasStep script config entries
  unfolding run
  steps_of_run entries end is before after e parts =
      let all = run_parts (is_config config) (nat_le (length entries) config.budget) (run_from script config (first_run script) entries) end is in
      let next = is_next (first_run script) end before e after (subst (λ xs. run_from script config (first_run script) xs ≡ Some end) (sym parts) all.1) in
      let within : length before ≤ config.budget = omega (arith, leb-true (length entries) config.budget all.0.1, ap (λ (xs : List Entry). length xs) parts, length-append before (e ∷ after)) in
      let ran : run script config before ≡ Some next.r = ap (λ (b : Bool). cond b (run_from script config (first_run script) before) None) (and_from (is_config config) (nat_le (length before) config.budget) all.0.0 (le-leb (length before) config.budget within)) ∙ next.ran in
      (next.r, (ran, (step_of script config next.r next.legal.process e next.legal.thread, makes_step script config before next.r ran e next.legal)))
