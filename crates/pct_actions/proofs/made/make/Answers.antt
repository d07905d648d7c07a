use Rattle.pct_names.proofs.Names.{◌+◌, ap, arith, length-map, map, option_map, same_Some, shared_moved, Some, subst, sym, Thread, thread_moved, ℕ, ◌∙◌, ◌≡◌, ◌≤◌}
use Rattle.pct_engine_laws.specs.Seen.{slot_after, with_created}
use Rattle.pct_process.specs.ProcessViews.{thread_on_slot, ProcessData}
use Rattle.pct_actions.specs.ProcessChanges.{data_moved, woken}
use Rattle.pct_actions.specs.ProcessParts.{created_made, others_made, taken, NewFits, OthersFit}
use Rattle.pct_actions.proofs.ChangedSlots.{new_stays}
use Rattle.pct_actions.proofs.CountedRecords.{taken_more}
use Rattle.pct_actions.proofs.FittingActions.{alone_on, own_fits, others_fit, parts_made}
use Rattle.pct_actions.proofs.made.make.Goals as goal

pub make_own-requires : goal.make_own-requires
make_own-requires g c = own_fits c.args.slot c.args.transition.now c.args.process.now c.requires _ (alone_on c.args.process.now.slots c.slot_count-count.ensures.single c.args.slot c.requires.thread c.requires.here)

pub act_on_others-requires : goal.act_on_others-requires
act_on_others-requires g c =
    let o = c.args.transition.now in
    let p = c.args.process.now in
    let alone = alone_on p.slots c.slot_count-count.ensures.single c.args.slot c.requires.thread c.requires.here in
    subst (OthersFit o) (sym (c.make_own.ensures.made c.requires.thread.id (ap (option_map (λ (x : Thread). x.id)) c.requires.here))) (others_fit c.args.slot o p c.requires _ alone)

pub create-requires : goal.create-requires
create-requires g c =
    let o = c.args.transition.now in
    let p = c.args.process.now in
    let alone = alone_on p.slots c.slot_count-count.ensures.single c.args.slot c.requires.thread c.requires.here in
    let own = c.make_own.ensures.made c.requires.thread.id (ap (option_map (λ (x : Thread). x.id)) c.requires.here) in
    let made = c.act_on_others.ensures.made ∙ ap (others_made o) own ∙ parts_made c.args.slot o p c.requires _ alone in
    subst (NewFits o.created) (sym made) (new_stays o.created (thread_moved c.requires.thread.id o) p (shared_moved c.requires.thread.id o p.shared) c.requires.created)

pub returns-clause-made : goal.returns-clause-made
returns-clause-made g c = λ tid own.
    let o = c.args.transition.now in
    let p = c.args.process.now in
    let t = c.requires.thread in
    let alone = alone_on p.slots c.slot_count-count.ensures.single c.args.slot t c.requires.here in
    let here : option_map (λ (x : Thread). x.id) (thread_on_slot p.slots c.args.slot) ≡ Some t.id = ap (option_map (λ (x : Thread). x.id)) c.requires.here in
    let named : t.id ≡ tid = same_Some t.id tid (sym here ∙ own.here) in
    c.create.ensures
    ∙ ap (created_made o.created) (c.act_on_others.ensures.made ∙ ap (others_made o) (c.make_own.ensures.made t.id here) ∙ parts_made c.args.slot o p c.requires _ alone)
    ∙ ap (λ (n : ℕ). record { slots = with_created n o.created (map (slot_after t.id o) p.slots); shared = shared_moved t.id o p.shared }) (length-map p.slots (slot_after t.id o))
    ∙ ap (λ (n : ℕ). data_moved n o p) named

pub returns-clause-count : goal.returns-clause-count
returns-clause-count g c =
    let o = c.args.transition.now in
    let p = c.args.process.now in
    let t = c.requires.thread in
    let alone = alone_on p.slots c.slot_count-count.ensures.single c.args.slot t c.requires.here in
    let own = c.make_own.ensures.made t.id (ap (option_map (λ (x : Thread). x.id)) c.requires.here) in
    let more = subst (λ (d : ProcessData). taken o.named d.slots ≤ 1 + woken o.named p.slots) (sym own) (taken_more o p.slots c.args.slot _ t alone o.named) in
    omega (arith, c.make_own.ensures.count, c.act_on_others.ensures.count, more)
