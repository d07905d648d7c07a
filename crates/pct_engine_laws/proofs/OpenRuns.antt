-- A run goes on by an entry exactly if its verdict is `Open` and the entry is legal: a legal entry needs a run that was not
-- stopped, and a process that has not ended with a thread that is ready.
use Rattle.pct_names.proofs.Names.{◌++◌, ◌<◌, [], Alt, and_from, and_parts, ap, arith, Bool, Budget, cases_Bool, choices_of, Complete, cond}
use Rattle.pct_names.proofs.Names.{Config, Deadlock, Entry, eqb-false, false, false≢true, has_ended, has_ready, has_valid_id, holds_slot}
use Rattle.pct_names.proofs.Names.{inl, inr, is_enabled, is_live_process, is_none, is_ready, is_some, IsLegalStep, Legal, length, List}
use Rattle.pct_names.proofs.Names.{list_all, list_any, nat_eq, None, not, not-true, offers, Open, Option, Process, refl, Run, run, Script}
use Rattle.pct_names.proofs.Names.{Some, step, Successor, sym, true, Verdict, verdict_by, verdict_of, Why, World, ℕ, ◌↔◌, ◌∙◌, ◌∷◌, ◌≡◌}
use Rattle.std.proofs.lemmas.Bool.{eqb-true}
use Rattle.pct_model.proofs.LegalSteps.{step_legal, some_step_legal, legal_steps}
use Rattle.pct_engine_laws.specs.RunLaws.{IsLegalWhileOpen}
use Rattle.pct_engine_laws.proofs.ListFacts.{any_found, all_fails}
use Rattle.pct_engine_laws.proofs.LongerRuns.{run_parts, run_more, run_full, run_step-some}

-- ---- a legal entry names a thread that is ready

offers_enabled : (choices : List Alt) (choice : Alt) → offers choices choice ≡ true → is_enabled choices ≡ true
offers_enabled [] choice offered = absurd (false≢true offered)
offers_enabled (c ∷ rest) choice offered = refl

legal_ready : (script : Script) (config : Config) (w : World) (e : Entry) → Legal script config w e → list_any (has_ready script config w) w.processes ≡ true
legal_ready script config w e legal =
    let p = legal.process in
    let t = legal.thread in
    any_found (is_live_process e.pid) (has_ready script config w) w.processes p legal.live
    (λ live. and_from (not (has_ended p)) (list_any (is_ready script config w p) p.threads) (and_parts (nat_eq p.pid e.pid) (not (has_ended p)) live).1
    (any_found (has_valid_id e.tid) (is_ready script config w p) p.threads t legal.holds
    (λ named. and_from (holds_slot t) (is_enabled (choices_of script config w p t)) (and_parts (nat_eq t.id e.tid) (holds_slot t) named).1 (offers_enabled (choices_of script config w p t) e.alt legal.offered))))

-- a process with a thread that is ready has not ended
ready_live : (script : Script) (config : Config) (w : World) (p : Process) → has_ready script config w p ≡ true → has_ended p ≡ false
ready_live script config w p ready =
    let parts = and_parts (not (has_ended p)) (list_any (is_ready script config w p) p.threads) ready in
    not-true (has_ended p) parts.0

-- ---- the verdict

open_by : (stop : Option Why) (script : Script) (config : Config) (w : World) (n : ℕ) → is_none stop ≡ true → list_any (has_ready script config w) w.processes ≡ true → nat_eq n config.budget ≡ false → verdict_by stop script config w n ≡ Open
open_by (Some why) script config w n running ready left = absurd (false≢true running)
open_by None script config w n running ready left =
    let undecided : Bool → Verdict = λ (b : Bool). cond (not b) Deadlock (cond (nat_eq n config.budget) Budget Open) in
    ap (λ (ended : Bool). cond ended Complete (undecided (list_any (has_ready script config w) w.processes))) (all_fails (has_ready script config w) has_ended (ready_live script config w) w.processes ready)
    ∙ ap undecided ready
    ∙ ap (λ (full : Bool). cond full Budget Open) left

left_by : (ended dead full : Bool) → cond ended Complete (cond dead Deadlock (cond full Budget Open)) ≡ Open → full ≡ false
left_by true dead full is = absurd cc
left_by false true full is = absurd cc
left_by false false true is = absurd cc
left_by false false false is = refl

left_after : (stop : Option Why) (script : Script) (config : Config) (w : World) (n : ℕ) → verdict_by stop script config w n ≡ Open → nat_eq n config.budget ≡ false
left_after (Some why) script config w n is = absurd cc
left_after None script config w n is = left_by (list_all has_ended w.processes) (not (list_any (has_ready script config w) w.processes)) (nat_eq n config.budget) is

-- a run whose verdict is `Open` has not used up the budget
pub open_left : (script : Script) (config : Config) (w : World) (n : ℕ) → verdict_of script config w n ≡ Open → nat_eq n config.budget ≡ false
unfolding verdict_of
open_left script config w n is = left_after w.stop script config w n is

-- ---- legal entries

-- an entry makes a step exactly if it is legal, and its step is then that of the legal entry
pub steps_if_legal : (script : Script) (config : Config) (w : World) (e : Entry) (s : Successor) → (step script config w e ≡ Some s) ↔ IsLegalStep script config w e s
steps_if_legal script config w e s = (step_legal script config w e s, λ made. legal_steps script config w e made.0 ∙ ap (λ (x : Successor). Some x) made.1)

-- a state in which an entry is legal has the verdict `Open`, unless the budget is used up
pub legal_open : (script : Script) (config : Config) (w : World) (e : Entry) (n : ℕ) → Legal script config w e → nat_eq n config.budget ≡ false → verdict_of script config w n ≡ Open
unfolding verdict_of
legal_open script config w e n legal left = open_by w.stop script config w n (ap is_none legal.running) (legal_ready script config w e legal) left

-- ---- runs

-- while the budget is not used up, a run goes on by the entries that make a step
more_steps : (script : Script) (config : Config) (entries : List Entry) (after : Run) (e : Entry) → run script config entries ≡ Some after → nat_eq (length entries) config.budget ≡ false → is_some (run script config (entries ++ e ∷ [])) ≡ is_some (step script config after.world e)
more_steps script config entries after e is left =
    let within = run_parts script config entries after is in
    let differs = eqb-false (length entries) config.budget left in
    let shorter : length entries < config.budget = omega (arith, within.within, differs) in
    ap is_some (run_more script config entries e after is shorter) ∙ run_step-some script config after e

goes_on : (script : Script) (config : Config) (entries : List Entry) (after : Run) (e : Entry) → run script config entries ≡ Some after → is_some (run script config (entries ++ e ∷ [])) ≡ true → IsLegalWhileOpen script config entries after e
goes_on script config entries after e is some =
    elim (cases_Bool (nat_eq (length entries) config.budget)) [
      | inl full ↦
          let used : length entries ≡ config.budget = eqb-true (length entries) config.budget full in
          absurd (false≢true (sym (ap is_some (run_full script config entries e (omega (arith, used)))) ∙ some))
      | inr left ↦
          let legal : Legal script config after.world e = some_step_legal script config after.world e (sym (more_steps script config entries after e is left) ∙ some) in
          (legal_open script config after.world e (length entries) legal left, legal)
    ]

-- a run goes on by an entry exactly if its verdict is `Open` and the entry is legal
pub goes_on_while_open : (script : Script) (config : Config) (entries : List Entry) (after : Run) (e : Entry) → run script config entries ≡ Some after → (is_some (run script config (entries ++ e ∷ [])) ≡ true) ↔ IsLegalWhileOpen script config entries after e
goes_on_while_open script config entries after e is = (
  goes_on script config entries after e is,
  λ allowed. more_steps script config entries after e is (open_left script config after.world (length entries) allowed.0) ∙ ap is_some (legal_steps script config after.world e allowed.1),
)
