-- The answer for `judge_events`.
use Rattle.std.proofs.Common.{◌≡◌, ℕ, ◌+◌, ◌∷◌, List, get_or, refl, sym, ◌∙◌, subst}
use Rattle.pct_model.specs.declared.event.Event.{Event}
use Rattle.pct_model.specs.declared.event.What.TheVariants as what
use Rattle.pct_audit.specs.AuditOf.{first_events}
use Rattle.pct_event_judge.specs.Allowed.{AreAllowed}
use Rattle.pct_event_judge.specs.Monitored.{AreMonitored}
use Rattle.pct_event_judge.proofs.FoundEvents.{one_more}
use Rattle.pct_event_judge.proofs.events.judge_events.Goals as goal

pub loop-index-preserved : goal.loop-index-preserved
loop-index-preserved c =
    let i = c.loop-index.index in
    let all = c.args.events.now in
    let e : Event = get_or all i (record { pid = 0; tid = 0; what = what.Emit 0 }) in
    let before : List Event = first_events i all in
    let more : first_events (i + 1) all ≡ e ∷ before = one_more all i (record { pid = 0; tid = 0; what = what.Emit 0 }) c.loop-index-test.true in
    let kept = c.loop-index.invariant in
    record {
      told = subst (λ (events : List Event). AreMonitored c.in_ok-monitors-2.monitors events) (sym more) (c.in_ok-monitors-2.ensures.told before kept.told);
      slots = c.in_ok-monitors-2.ensures.slots ∙ kept.slots;
      found = c.noted-found.ensures c.args.passes c.args.slots i e all refl more
          (subst (λ (slots : ℕ). AreAllowed c.args.passes slots e before c.allowed.result) kept.slots (c.allowed.ensures before kept.told))
          kept.found;
    }
