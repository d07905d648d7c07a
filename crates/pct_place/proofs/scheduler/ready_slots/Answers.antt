use Rattle.pct_names.proofs.Names.{arith, Bool, false, has_timeouts, length, sym, Thread, true, ◌∙◌}
use Rattle.pct_set.proofs.SlotScans.{scan_begun, scan_there, scan_fewer}
use Rattle.pct_engine_laws.specs.SeenSteps.{is_ready_in}
use Rattle.pct_process.specs.FamilyViews.{other_processes}
use Rattle.pct_process.specs.ProcessViews.{thread_on_slot}
use Rattle.pct_transitions.specs.ProcessSteps.{with_data}
use Rattle.pct_ready_sets.proofs.ReadySlots.{some_by, asking_more, asking_ended}
use Rattle.pct_place.proofs.scheduler.ready_slots.Goals.{then-has_choice, else-has_choice}
use Rattle.pct_place.proofs.scheduler.ready_slots.Goals as goal

pub loop-slot-init : goal.loop-slot-init
loop-slot-init c =
    let d = c.args.process.now in
    let ready : Thread → Bool = is_ready_in c.args.around.program.now.script (has_timeouts c.args.around.program.now.config.format) (length d.slots) (other_processes c.args.around.family) (with_data d) in
    scan_begun _ _ c.occupied-rest.result c.new-ready.result c.occupied-rest.ensures c.new-ready.ensures (λ s. some_by ready (thread_on_slot d.slots s))

pub has_choice-requires : goal.has_choice-requires
has_choice-requires c =
    scan_there _ _ c.loop-slot.rest c.loop-slot.ready c.loop-slot.invariant c.in-Some.slot c.in-Some.ensures.value c.in-Some.ensures.below

pub loop-slot-smaller : goal.loop-slot-smaller
loop-slot-smaller c =
    scan_fewer _ _ c.loop-slot.rest c.loop-slot.ready c.loop-slot.invariant c.in-Some.slot c.in-Some.ensures.value c.in-Some.ensures.below c.remove.new.self c.remove.ensures

pub loop-slot-preserved : goal.loop-slot-preserved
loop-slot-preserved c =
    let d = c.args.process.now in
    let ready : Thread → Bool = is_ready_in c.args.around.program.now.script (has_timeouts c.args.around.program.now.config.format) (length d.slots) (other_processes c.args.around.family) (with_data d) in
    let first = c.in-Some.ensures in
    let more =
    asking_more ready d.slots c.loop-slot.rest c.loop-slot.ready c.loop-slot.invariant c.in-Some.slot first.value first.below c.remove.new.self c.remove.ensures c.has_choice.result c.has_choice.ensures c.if-has_choice.ready in
    elim c.if-has_choice.branch [
      | then-has_choice w ↦ more true (sym w.if-has_choice.true) (w.ready-is ∙ w.insert.ensures)
      | else-has_choice w ↦ more false (sym w.if-has_choice.false) w.ready-is
    ]

pub returns : goal.returns
returns c =
    let d = c.args.process.now in
    let ready : Thread → Bool = is_ready_in c.args.around.program.now.script (has_timeouts c.args.around.program.now.config.format) (length d.slots) (other_processes c.args.around.family) (with_data d) in
    asking_ended ready d.slots c.slot_count-count.ensures.single c.loop-slot.rest c.loop-slot.ready (omega (arith, c.slot_count-count.ensures.value, c.slot_count-count.ensures.few)) c.loop-slot.invariant c.in_default.ensures.value
