use Rattle.pct_names.proofs.Names.{◌+◌, [], ap, arith, Broadcast, false, false≢true, le_refl, length, List, refl, subst, sym, ℕ, ◌∙◌, ◌≡◌, ◌≤◌}
use Rattle.pct_set.specs.Slots.{has_slot}
use Rattle.pct_set.proofs.SlotLemmas.{has_where, slots_agree}
use Rattle.pct_set.proofs.SlotScans.{scan_begun, scan_fewer, scan_more}
use Rattle.pct_threads.specs.Slots.{with_change}
use Rattle.pct_process.specs.Standings.{waits_on}
use Rattle.pct_actions.specs.SharedChanges.{waiting_slots, woken_by}
use Rattle.pct_actions.proofs.Stands.{standings_after}
use Rattle.pct_actions.proofs.WokenThreads.{waits_at, WokenBut, none_yet, still_there, one_more, all_woken}
use Rattle.pct_actions.proofs.named_threads.wake_all.Goals as goal

pub loop-slot-init : goal.loop-slot-init
loop-slot-init g c =
    let old = c.args.threads.now in
    let waits = waits_at c.args.cond old in
    let are : c.waiters-rest.result ≡ waiting_slots c.args.cond old = c.waiters-rest.ensures ∙ slots_agree _ _ (λ s small. ap (waits_on c.args.cond) (c.requires.each s small)) in
    record {
      scan = scan_begun (λ s. false) waits c.waiters-rest.result [] are refl (λ s passes. absurd (false≢true passes));
      woken = none_yet c.args.cond old c.waiters-rest.result (λ s small. ap (λ (set : List ℕ). has_slot set s) are ∙ has_where waits s small);
      long = refl;
      stand = c.requires;
      count = subst (λ (set : List ℕ). c.args.steps.now + length c.waiters-rest.result ≤ c.args.steps.now + length set) are (le_refl _);
    }

pub wake_on-stand-requires : goal.wake_on-stand-requires
wake_on-stand-requires g c =
    let kept = c.loop-slot.invariant in
    still_there c.args.cond c.args.threads.now c.loop-slot.rest c.loop-slot.threads c.in-Some.slot c.in-Some.ensures.below c.in-Some.ensures.value kept.scan kept.woken

pub loop-slot-smaller : goal.loop-slot-smaller
loop-slot-smaller g c = scan_fewer _ _ c.loop-slot.rest [] c.loop-slot.invariant.scan c.in-Some.slot c.in-Some.ensures.value c.in-Some.ensures.below c.remove.new.self c.remove.ensures

pub loop-slot-preserved : goal.loop-slot-preserved
loop-slot-preserved g c =
    let old = c.args.threads.now in
    let slot = c.in-Some.slot in
    let kept = c.loop-slot.invariant in
    let cond = c.args.cond in
    let fewer = scan_fewer _ _ c.loop-slot.rest [] kept.scan slot c.in-Some.ensures.value c.in-Some.ensures.below c.remove.new.self c.remove.ensures in
    record {
      scan = scan_more _ _ c.loop-slot.rest [] kept.scan slot c.in-Some.ensures.value c.in-Some.ensures.below c.remove.new.self c.remove.ensures [] false refl refl;
      woken = subst (λ (set : List ℕ). WokenBut cond old set c.wake_on-stand.new.threads) (sym c.remove.ensures) (one_more cond old c.loop-slot.rest c.loop-slot.threads slot c.in-Some.ensures.below c.in-Some.ensures.value kept.scan kept.woken c.wake_on-stand.new.threads c.wake_on-stand.ensures.table);
      long = c.wake_on-stand.ensures.length ∙ kept.long;
      stand = standings_after c.loop-slot.standings c.loop-slot.threads kept.stand slot c.wake_on-stand.new.threads (with_change (woken_by Broadcast)) c.wake_on-stand.result c.in-Some.ensures.below c.wake_on-stand.ensures.table c.wake_on-stand.ensures.stand c.put.new.self c.put.ensures;
      count = omega (arith, kept.count, fewer, c.wake_on-stand.ensures.count);
    }

pub returns-clause-table : goal.returns-clause-table
returns-clause-table g c =
    let count = c.slot_count-count.ensures in
    let kept = c.loop-slot.invariant in
    all_woken c.args.cond c.args.threads.now c.loop-slot.rest c.loop-slot.threads (sym c.in_default.ensures.value) kept.long (omega (arith, count.value, count.few)) kept.woken
