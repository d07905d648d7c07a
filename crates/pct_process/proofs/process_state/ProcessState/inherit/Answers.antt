use Rattle.pct_names.proofs.Names.{◌<◌, ap, arith, Bool, List, None, not, same_Some, Some, subst, sym, ℕ, ◌∙◌, ◌≡◌}
use Rattle.pct_threads.specs.Slots.{Slot}
use Rattle.pct_threads.specs.Tables.{thread_at}
use Rattle.pct_threads.proofs.TableLemmas.{within-occupied}
use Rattle.pct_engine_laws.specs.Seen.{SeenSlot, is_last_in}
use Rattle.pct_process.specs.ProcessViews.{HoldsOneSlot, ProcessData, slots_of, shared_of, data_inherited}
use Rattle.pct_process.proofs.InheritedData.{is_occupied-copied, child_fits, slots-inherited, standings-inherited}
use Rattle.pct_process.proofs.ViewedSlots.{occupied_on}
use Rattle.pct_process.proofs.process_state.ProcessState.inherit.Goals as goal

pub clone_one_from-requires : goal.clone_one_from-requires
clone_one_from-requires g c =
    let p = c.parent.inside in
    occupied_on p.keys p.threads c.parent.invariant.0 c.args.slot c.args.parent.now.slots (ap (λ (d : ProcessData). d.slots) c.parent.view_is) c.requires

pub write-requires : goal.write-requires
write-requires g c =
    let p = c.parent.inside in
    rw c.clone_one_from.ensures
    (is_occupied-copied p.keys p.threads c.parent.invariant.0 c.args.slot (occupied_on p.keys p.threads c.parent.invariant.0 c.args.slot c.args.parent.now.slots (ap (λ (d : ProcessData). d.slots) c.parent.view_is) c.requires))

pub returns-clause-data : goal.returns-clause-data
returns-clause-data g c = λ tid own.
    let p = c.parent.inside in
    let slot = c.args.slot in
    let thread = c.write.result.now in
    let occupied = occupied_on p.keys p.threads c.parent.invariant.0 slot c.args.parent.now.slots (ap (λ (d : ProcessData). d.slots) c.parent.view_is) c.requires in
    let id : c.id_on.result ≡ tid = same_Some c.id_on.result tid (sym c.id_on.ensures ∙ own.here) in
    let last : c.is_last.result ≡ is_last_in tid (slots_of p.keys.rows p.threads) =
    c.is_last.ensures ∙ ap (λ (n : ℕ). is_last_in n c.args.parent.now.slots) id ∙ sym (ap (λ (d : ProcessData). is_last_in tid d.slots) c.parent.view_is) in
    let was = subst (λ (t : List Slot). thread_at t slot ≡ Some thread) c.clone_one_from.ensures c.write.ensures.value in
    let slots = slots-inherited p.keys p.threads c.parent.invariant.0 slot occupied c.become_replica-standing.new.thread tid (subst (λ (d : ProcessData). HoldsOneSlot tid slot d.slots) (sym c.parent.view_is) own) thread was c.become_replica-standing.ensures.replica in
    let with_parts : List SeenSlot → Bool → ProcessData = λ slots last. record { slots = slots; shared = shared_of p.globals p.owners p.counts p.onces p.keys.places p.fork_handlers p.exit_functions None (not last) } in
    rw (c.clone_one_from.ensures, c.copy_from.ensures, c.copy_from-2.ensures, c.copy_from-3.ensures, c.copy_from-4.ensures, c.copy_from-5.ensures, c.copy_from-6.ensures, c.copy_from-7.ensures)
    ((λ i. with_parts (slots i) (last i)) ∙ ap (data_inherited tid) c.parent.view_is)

pub invariant_of-self : goal.invariant_of-self
invariant_of-self g c =
    let p = c.parent.inside in
    let slot = c.args.slot in
    let after = c.become_replica-standing.new.thread in
    let occupied = occupied_on p.keys p.threads c.parent.invariant.0 slot c.args.parent.now.slots (ap (λ (d : ProcessData). d.slots) c.parent.view_is) c.requires in
    let few : slot < 64 = omega (arith, within-occupied p.threads slot occupied, c.slot_count-count.ensures.value, c.slot_count-count.ensures.few) in
    let was = subst (λ (t : List Slot). thread_at t slot ≡ Some c.write.result.now) c.clone_one_from.ensures c.write.ensures.value in
    rw (c.clone_one_from.ensures, c.copy_from.ensures, c.put.ensures, c.new-self-inside.ensures, c.become_replica-standing.ensures.standing)
    (child_fits p.keys p.threads c.parent.invariant.0 slot occupied after, standings-inherited p.threads slot occupied c.write.result.now after was c.become_replica-standing.ensures.replica few)
