use Rattle.pct_names.proofs.Names.{◌<◌, ap, arith, length, List, NewThread, no_values, Option, rules, slice_set, Some, subst, sym, ◌∙◌}
use Rattle.std.proofs.Common.{length-set}
use Rattle.pct_threads.specs.Slots.{Slot, created}
use Rattle.pct_threads.specs.Tables.{next_id_at}
use Rattle.pct_threads.proofs.TableLemmas.{length-on_slot}
use Rattle.pct_keys.specs.Tables.{Table}
use Rattle.pct_process.specs.ProcessViews.{slots_of, shared_of, ProcessData}
use Rattle.pct_actions.specs.ProcessParts.{created_made, NewFits}
use Rattle.pct_actions.proofs.NewThreads.{is_next, slots_created}
use Rattle.pct_actions.proofs.Stands.{standings_created}
use Rattle.pct_actions.proofs.made.create.Goals as goal

pub create-requires-clause-free : goal.create-requires-clause-free
create-requires-clause-free c =
    let s = c.process.inside in
    let next = is_next s.keys s.threads c.process.invariant.0 c.in-Some.new c.slot_of-slot.result c.slot_of-slot.ensures.value (subst (λ (p : ProcessData). NewFits (Some c.in-Some.new) p) (sym c.process.view_is) (subst (λ (created : Option NewThread). NewFits created c.args.process.now) c.in-Some.is c.requires)) in
    next.free

pub create-requires-clause-fits : goal.create-requires-clause-fits
create-requires-clause-fits c =
    let s = c.process.inside in
    let next = is_next s.keys s.threads c.process.invariant.0 c.in-Some.new c.slot_of-slot.result c.slot_of-slot.ensures.value (subst (λ (p : ProcessData). NewFits (Some c.in-Some.new) p) (sym c.process.view_is) (subst (λ (created : Option NewThread). NewFits created c.args.process.now) c.in-Some.is c.requires)) in
    let fits : c.in-Some.new.id < 4294967296 = search rules in
    subst (λ n. n < 4294967296) (sym next.id_is) fits

pub invariant_of-process : goal.invariant_of-process
invariant_of-process c =
    let s = c.process.inside in
    let new = c.in-Some.new in
    let slot = c.slot_of-slot.result in
    let at = c.slot_of-slot.ensures in
    let rows = ap (λ (keys : Table). length keys.rows) c.clear_row.ensures ∙ length-set s.keys.rows slot no_values in
    let threads = ap (λ (slots : List Slot). length slots) c.create.ensures.table ∙ length-on_slot slot (created (next_id_at s.threads slot) new.func new.arg new.detached) s.threads in
    (rows ∙ c.process.invariant.0 ∙ sym threads, standings_created s.standings s.threads c.process.invariant.1 slot c.create.new.self new.func new.arg new.detached (omega (arith, at.within, at.few)) at.within c.create.ensures.table c.put.new.self c.put.ensures)

pub returns-in-Some : goal.returns-in-Some
returns-in-Some c =
    let s = c.process.inside in
    let next = is_next s.keys s.threads c.process.invariant.0 c.in-Some.new c.slot_of-slot.result c.slot_of-slot.ensures.value (subst (λ (p : ProcessData). NewFits (Some c.in-Some.new) p) (sym c.process.view_is) (subst (λ (created : Option NewThread). NewFits created c.args.process.now) c.in-Some.is c.requires)) in
    let new = c.in-Some.new in
    (λ i. record {
      slots = (ap (λ keys. slots_of keys.rows c.create.new.self) c.clear_row.ensures ∙ ap (slots_of (slice_set s.keys.rows c.slot_of-slot.result no_values)) c.create.ensures.table ∙ slots_created s.keys s.threads c.process.invariant.0 new c.slot_of-slot.result c.slot_of-slot.ensures.value next) i;
      shared = shared_of s.globals s.owners s.counts s.onces (ap (λ keys. keys.places) c.clear_row.ensures i) s.fork_handlers s.exit_functions s.exit_value s.restricted;
    })
    ∙ ap (created_made (Some new)) c.process.view_is
    ∙ ap (λ (created : Option NewThread). created_made created c.args.process.now) (sym c.in-Some.is)
