-- An entry makes a step exactly if it is legal.
use Rattle.std.proofs.Common.{◌≡◌, ◌&&◌, Bool, true, false, cond, find, nat_le, is_none, is_some, Option, Some, None, option_map, option_and_then, refl, ap, ◌∙◌, le-leb}
use Rattle.std.proofs.lemmas.Bool.{and_parts, and_from, leb-true, false≢true}
use Rattle.std.proofs.lemmas.Option.{none-some, same_Some, cond_some, option_and_then_some}
use Rattle.pct_model.specs.declared.script.Script.{Script}
use Rattle.pct_model.specs.declared.schedule.Config.{Config}
use Rattle.pct_model.specs.declared.schedule.Entry.{Entry}
use Rattle.pct_model.specs.declared.limits.TheConstants.{MAX_WORKER}
use Rattle.pct_model.specs.declared.stop.Why.{Why}
use Rattle.pct_model.specs.declared.transition.Transition.{Transition}
use Rattle.pct_model.specs.World.{World}
use Rattle.pct_model.specs.ThreadSlots.{with_id}
use Rattle.pct_model.specs.ChoiceTable.{choices_of, offers}
use Rattle.pct_model.specs.TransitionTable.{transition_by}
use Rattle.pct_model.specs.Actions.{is_live_process}
use Rattle.pct_model.specs.Step.{Legal, Successor, successor_of, legal_step, IsLegalStep, if_offered, transition_of, step}

not_stopped : (stop : Option Why) → is_none stop ≡ true → stop ≡ None
not_stopped None running = refl
not_stopped (Some why) running = absurd (false≢true running)

module _ (script : Script) (config : Config) (w : World) (e : Entry) where
  legal_if : (may : Bool) (o : Option Transition) (s : Successor) → (is_none w.stop && nat_le e.worker MAX_WORKER) ≡ may → transition_of script config w e ≡ o → cond may (option_map (successor_of w e) o) None ≡ Some s → IsLegalStep script config w e s
  legal_if true (Some o) s may taken is =
      let tests = and_parts (is_none w.stop) (nat_le e.worker MAX_WORKER) may in
      option_and_then_some (λ p. option_and_then (if_offered script config w p e) (with_id e.tid p.threads)) (find (is_live_process e.pid) w.processes) o taken
      (λ p live found. option_and_then_some (if_offered script config w p e) (with_id e.tid p.threads) o found
      (λ t holds may_take.
      let parts = cond_some (offers (choices_of script config w p t) e.alt) (transition_by script config w p t e.alt) o may_take in
      (record { process = p; thread = t; running = not_stopped w.stop tests.0; worker = leb-true e.worker MAX_WORKER tests.1; live = live; holds = holds; offered = parts.0 }, ap (successor_of w e) parts.1 ∙ same_Some (successor_of w e o) s is)))
  legal_if true None s may taken is = absurd (none-some s is)
  legal_if false o s may taken is = absurd (none-some s is)

  -- an entry that makes a step is legal
  pub step_legal : (s : Successor) → step script config w e ≡ Some s → IsLegalStep script config w e s
  unfolding step
  step_legal s is = legal_if (is_none w.stop && nat_le e.worker MAX_WORKER) (transition_of script config w e) s refl refl is

  -- a legal entry makes its step
  pub legal_steps : (legal : Legal script config w e) → step script config w e ≡ Some (legal_step script config w e legal)
  unfolding step
  legal_steps legal =
      let p = legal.process in
      ap (λ (may : Bool). cond may (option_map (successor_of w e) (transition_of script config w e)) None) (and_from (is_none w.stop) (nat_le e.worker MAX_WORKER) (ap is_none legal.running) (le-leb e.worker MAX_WORKER legal.worker))
      ∙ ap (option_map (successor_of w e))
      (ap (option_and_then (λ p. option_and_then (if_offered script config w p e) (with_id e.tid p.threads))) legal.live
      ∙ ap (option_and_then (if_offered script config w p e)) legal.holds
      ∙ ap (λ (b : Bool). cond b (Some (transition_by script config w p legal.thread e.alt)) None) legal.offered)

  legal_at : (o : Option Successor) → step script config w e ≡ o → is_some o ≡ true → Legal script config w e
  legal_at (Some s) is some = (step_legal s is).0
  legal_at None is some = absurd (false≢true some)

  -- the entry makes some step
  pub some_step_legal : is_some (step script config w e) ≡ true → Legal script config w e
  some_step_legal some = legal_at (step script config w e) refl some
