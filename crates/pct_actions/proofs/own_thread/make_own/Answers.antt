use Rattle.pct_names.proofs.Names.{◌<◌, ap, arith, length, List, moved, onces_after, same_Some, slice_get_within, subst, sym, ℕ, ◌∙◌, ◌≡◌}
use Rattle.pct_threads.specs.Slots.{Slot, after_change, unless_reclaimed}
use Rattle.pct_threads.proofs.TableLemmas.{length-on_slot}
use Rattle.pct_process.specs.ThreadViews.{thread_of}
use Rattle.pct_process.specs.ProcessViews.{slots_of, shared_of}
use Rattle.pct_actions.specs.OwnChanges.{held_of}
use Rattle.pct_actions.proofs.OwnThread.{occupied, inside, room, keys_fit, after_own}
use Rattle.pct_actions.proofs.Stands.{standings_told}
use Rattle.pct_actions.proofs.own_thread.make_own.Goals as goal

pub move_own-stand-requires-clause-occupied : goal.move_own-stand-requires-clause-occupied
move_own-stand-requires-clause-occupied g c =
    let s = c.process.inside in
    occupied s.keys s.threads c.process.invariant.0 _ c.args.process.now c.process.view_is c.args.slot c.args.transition.now c.requires

pub move_own-stand-requires-clause-fits : goal.move_own-stand-requires-clause-fits
move_own-stand-requires-clause-fits g c =
    let s = c.process.inside in
    room s.keys s.threads c.process.invariant.0 _ c.args.process.now c.process.view_is c.args.slot c.args.transition.now c.requires

pub change_data-requires-clause-row : goal.change_data-requires-clause-row
change_data-requires-clause-row g c =
    let s = c.process.inside in
    subst (λ n. c.args.slot < n) (sym c.process.invariant.0) (inside s.keys s.threads c.process.invariant.0 _ c.args.process.now c.process.view_is c.args.slot c.args.transition.now c.requires)

pub change_data-requires-clause-fits : goal.change_data-requires-clause-fits
change_data-requires-clause-fits g c =
    let s = c.process.inside in
    keys_fit s.keys s.threads c.process.invariant.0 _ c.args.process.now c.process.view_is c.args.slot c.args.transition.now c.requires

pub invariant_of-process : goal.invariant_of-process
invariant_of-process g c =
    let s = c.process.inside in
    let slots = s.threads in
    let change : Slot → Slot = after_change (λ h. unless_reclaimed (held_of (moved c.args.transition.now (thread_of h)))) in
    let count = c.slot_count-count.ensures in
    let small : c.args.slot < 64 = omega (arith, slice_get_within c.args.process.now.slots c.args.slot _ c.requires.here, count.value, count.few) in
    let stands = standings_told s.standings slots c.process.invariant.1 c.args.slot c.move_own-stand.new.threads change c.move_own-stand.result small c.move_own-stand.ensures.table c.move_own-stand.ensures.stand c.put_stand.new.standings c.put_stand.ensures in
    (c.change_data.ensures.length ∙ c.process.invariant.0 ∙ sym (ap (λ (threads : List Slot). length threads) c.move_own-stand.ensures.table ∙ length-on_slot c.args.slot change slots), stands)

pub returns-clause-made : goal.returns-clause-made
returns-clause-made g c = λ tid own.
    let s = c.process.inside in
    let id : c.id_on-tid.result ≡ tid = same_Some c.id_on-tid.result tid (sym c.id_on-tid.ensures ∙ own) in
    let rows = c.change_data.new.keys.rows in
    let threads = c.move_own-stand.new.threads in
    (λ i. record { slots = slots_of rows threads; shared = shared_of (c.write_globals.ensures i) s.owners s.counts ((c.change_onces.ensures ∙ ap (λ (n : ℕ). onces_after n c.args.transition.now.own s.onces) id) i) (ap (λ keys. keys.places) c.change_data.ensures.table i) s.fork_handlers s.exit_functions s.exit_value s.restricted })
    ∙ after_own s.keys s.threads c.process.invariant.0 _ c.args.process.now c.process.view_is c.args.slot c.args.transition.now c.requires tid rows threads (ap (λ keys. keys.rows) c.change_data.ensures.table) c.move_own-stand.ensures.table
