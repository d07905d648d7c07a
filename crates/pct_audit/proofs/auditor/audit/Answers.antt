-- The answers for `audit`.
use Rattle.std.proofs.Common.{◌≡◌, ℕ, get_or, None, sym, ap, ◌∙◌, subst, arith}
use Rattle.std.proofs.Math.Nat.{le_refl}
use Rattle.pct_model.specs.declared.event.Event.{Event}
use Rattle.pct_model.specs.declared.event.What.TheVariants as what
use Rattle.pct_audit.specs.AuditOf.{first_events, first_broken, first_broken_by}
use Rattle.pct_audit.specs.Tells.{Tells}
use Rattle.pct_audit.proofs.BrokenLaws.{broken_told, first_more, kept_up_to}
use Rattle.pct_audit.proofs.auditor.audit.Goals as goal

pub returns-in-Some : goal.returns-in-Some
returns-in-Some c =
    let i = c.loop-index.index in
    let all = c.args.events.now in
    let e : Event = get_or all i (record { pid = 0; tid = 0; what = what.Emit 0 }) in
    let broken : c.broken_by.result ≡ first_broken_by c.args.passes c.args.slots e (first_events i all) =
    subst (λ (n : ℕ). c.broken_by.result ≡ first_broken_by c.args.passes n e (first_events i all)) c.loop-index.invariant.slots (c.broken_by.ensures (first_events i all) c.loop-index.invariant.told) in
    record {
      within = omega (arith, c.loop-index-test.true);
      broken =
          ap (first_broken c.args.passes c.args.slots) (first_more all i (record { pid = 0; tid = 0; what = what.Emit 0 }) c.loop-index-test.true)
          ∙ broken_told c.args.passes c.args.slots e (first_events i all) (c.loop-index.invariant.kept i (le_refl i)) ∙ sym broken ∙ c.in-Some.is;
      before = λ k low. c.loop-index.invariant.kept k (omega (arith, low));
    }

pub loop-index-preserved : goal.loop-index-preserved
loop-index-preserved c =
    let i = c.loop-index.index in
    let all = c.args.events.now in
    let e : Event = get_or all i (record { pid = 0; tid = 0; what = what.Emit 0 }) in
    let more = first_more all i (record { pid = 0; tid = 0; what = what.Emit 0 }) c.loop-index-test.true in
    let none : first_broken_by c.args.passes c.args.slots e (first_events i all) ≡ None =
    sym (subst (λ (n : ℕ). c.broken_by.result ≡ first_broken_by c.args.passes n e (first_events i all)) c.loop-index.invariant.slots (c.broken_by.ensures (first_events i all) c.loop-index.invariant.told)) ∙ c.in_default.is in
    record {
      told = subst (λ events. Tells c.in_ok-judge-2.judge events) (sym more)
          (c.in_ok-judge-2.ensures.told (first_events i all) c.loop-index.invariant.told);
      slots = c.in_ok-judge-2.ensures.slots ∙ c.loop-index.invariant.slots;
      kept = kept_up_to (λ k. first_broken c.args.passes c.args.slots (first_events k all) ≡ None) i c.loop-index.invariant.kept
          (ap (first_broken c.args.passes c.args.slots) more ∙ broken_told c.args.passes c.args.slots e (first_events i all) (c.loop-index.invariant.kept i (le_refl i)) ∙ none);
    }
