use Rattle.pct_names.proofs.Names.{ap, Bool, false, has_timeouts, length, sym, true, ◌∙◌, ◌≡◌}
use Rattle.pct_set.proofs.SlotScans.{scan_ended}
use Rattle.pct_engine_laws.specs.SeenSteps.{environment_in}
use Rattle.pct_process.specs.FamilyViews.{other_processes}
use Rattle.pct_transitions.specs.declared.readiness.ReadyWhen.{ReadyWhen}
use Rattle.pct_transitions.specs.Readiness.{is_met}
use Rattle.pct_ready_sets.specs.ReadyGroups.{condition_on, is_alike}
use Rattle.pct_ready_sets.proofs.GroupConditions.{alike_same, now_or_conditional, own_alike}
use Rattle.pct_ready_sets.proofs.GroupScans.{group_fewer, group_taken}
use Rattle.pct_ready_sets.proofs.KnownSlots.{conditions_begun}
use Rattle.pct_ready_sets.proofs.known_slots.known_ready.Goals.{then-is_met, else-is_met}
use Rattle.pct_ready_sets.proofs.known_slots.known_ready.Goals as goal

pub loop-slot-init : goal.loop-slot-init
loop-slot-init c = λ tid.
    let shared = c.args.process.now.shared in
    let environment = environment_in (has_timeouts c.args.around.program.now.config.format) (length c.args.process.now.slots) (other_processes c.args.around.family) c.args.process.now.slots tid in
    conditions_begun (is_met shared environment) c.args.sets.now.conditions c.conditional-rest.result c.ready_now-ready.result (now_or_conditional shared environment) c.conditional-rest.ensures c.ready_now-ready.ensures

pub loop-slot-smaller : goal.loop-slot-smaller
loop-slot-smaller c =
    let slot = c.in-Some.slot in
    let conditions = c.args.sets.now.conditions in
    group_fewer _ c.loop-slot.rest c.loop-slot.ready (c.loop-slot.invariant 0) slot (is_alike conditions slot) c.alike-alike.result c.minus-rest.result c.alike-alike.ensures c.minus-rest.ensures c.in-Some.ensures.value c.in-Some.ensures.below (own_alike conditions slot)

pub loop-slot-preserved : goal.loop-slot-preserved
loop-slot-preserved c = λ tid.
    let slot = c.in-Some.slot in
    let conditions = c.args.sets.now.conditions in
    let met : ReadyWhen → Bool = is_met c.args.process.now.shared (environment_in (has_timeouts c.args.around.program.now.config.format) (length c.args.process.now.slots) (other_processes c.args.around.family) c.args.process.now.slots tid) in
    let test : c.is_met.result ≡ met (condition_on conditions slot) = c.is_met.ensures tid ∙ ap met c.condition.ensures in
    let more = group_taken (λ k. met (condition_on conditions k)) c.loop-slot.rest c.loop-slot.ready (c.loop-slot.invariant tid) slot (is_alike conditions slot) c.alike-alike.result c.minus-rest.result c.alike-alike.ensures c.minus-rest.ensures c.if-is_met.ready in
    elim c.if-is_met.branch [
      | then-is_met w ↦ more true (λ k alike. ap met (alike_same conditions slot k alike) ∙ sym test ∙ w.if-is_met.true) (w.ready-is ∙ w.union-ready.ensures)
      | else-is_met w ↦ more false (λ k alike. ap met (alike_same conditions slot k alike) ∙ sym test ∙ w.if-is_met.false) w.ready-is
    ]

pub returns : goal.returns
returns c = λ tid. scan_ended _ _ c.loop-slot.rest c.loop-slot.ready (c.loop-slot.invariant tid) c.in_default.ensures.value
