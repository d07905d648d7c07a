use Rattle.pct_names.proofs.Names.{ap, arith, length, sym, map, ◌∙◌, ◌<◌, []}
use Rattle.pct_set.specs.Slots.{with_slot}
use Rattle.pct_stack.specs.Stacks.{words_at}
use Rattle.pct_threads.specs.Slots.{freed}
use Rattle.pct_threads.specs.Tables.{on_slot}
use Rattle.pct_threads.specs.Rows.{slot_in}
use Rattle.pct_threads.proofs.RowLemmas.{row_read, holds_within, is_held, slot_read, step_kept, step_some, step_seen, step_added, stack_free, cleared_kept, cleared_seen, cleared_set}
use Rattle.pct_threads.proofs.threads.Threads.clone_one_from.Goals as goal

pub index_mut-row-requires : goal.index_mut-row-requires
index_mut-row-requires c = omega (arith, holds_within c.other.inside.rows.items c.other.inside.stacks c.other.invariant.1 c.args.other.now c.other.view_is c.args.slot c.requires, c.free_as.ensures.long, c.free_as.new.rows.ok)

pub index-requires : goal.index-requires
index-requires c = omega (arith, holds_within c.other.inside.rows.items c.other.inside.stacks c.other.invariant.1 c.args.other.now c.other.view_is c.args.slot c.requires, c.other.inside.rows.ok)

pub copy-requires-clause-free : goal.copy-requires-clause-free
copy-requires-clause-free c =
    let rows = c.free_as.new.rows.items in
    let old = c.other.inside.rows.items in
    let others = c.other.inside.stacks in
    let slot = c.args.slot in
    let table = c.args.other.now in
    let free = c.free_as.ensures in
    let stacks = c.reset.new.self in
    let kept = cleared_kept rows old stacks others free.long free.made free.free c.self.inside.stacks c.self.inside.rows.items c.self.invariant.1 c.reset.ensures c.other.invariant.1.few free.deep in
    let there = holds_within old others c.other.invariant.1 table c.other.view_is slot c.requires in
    let inside : slot < length rows = omega (arith, there, free.long) in
    let o = c.index.result.now in
    let is_o = row_read old slot o there c.index.ensures in
    stack_free stacks slot (omega (arith, inside, kept.few, kept.count)) (kept.taken slot ∙ free.free slot)

pub copy-requires-clause-width : goal.copy-requires-clause-width
copy-requires-clause-width c =
    let rows = c.free_as.new.rows.items in
    let old = c.other.inside.rows.items in
    let others = c.other.inside.stacks in
    let slot = c.args.slot in
    let table = c.args.other.now in
    let free = c.free_as.ensures in
    let stacks = c.reset.new.self in
    let kept = cleared_kept rows old stacks others free.long free.made free.free c.self.inside.stacks c.self.inside.rows.items c.self.invariant.1 c.reset.ensures c.other.invariant.1.few free.deep in
    let there = holds_within old others c.other.invariant.1 table c.other.view_is slot c.requires in
    let inside : slot < length rows = omega (arith, there, free.long) in
    let o = c.index.result.now in
    let is_o = row_read old slot o there c.index.ensures in
    kept.width

pub copy-requires-clause-held : goal.copy-requires-clause-held
copy-requires-clause-held c =
    let rows = c.free_as.new.rows.items in
    let old = c.other.inside.rows.items in
    let others = c.other.inside.stacks in
    let slot = c.args.slot in
    let table = c.args.other.now in
    let free = c.free_as.ensures in
    let stacks = c.reset.new.self in
    let kept = cleared_kept rows old stacks others free.long free.made free.free c.self.inside.stacks c.self.inside.rows.items c.self.invariant.1 c.reset.ensures c.other.invariant.1.few free.deep in
    let there = holds_within old others c.other.invariant.1 table c.other.view_is slot c.requires in
    let inside : slot < length rows = omega (arith, there, free.long) in
    let o = c.index.result.now in
    let is_o = row_read old slot o there c.index.ensures in
    is_held old others c.other.invariant.1 table c.other.view_is slot c.requires o is_o

pub insert-requires : goal.insert-requires
insert-requires c = omega (arith, holds_within c.other.inside.rows.items c.other.inside.stacks c.other.invariant.1 c.args.other.now c.other.view_is c.args.slot c.requires, c.other.invariant.1.few)

pub invariant_of-self : goal.invariant_of-self
invariant_of-self c =
    let rows = c.free_as.new.rows.items in
    let old = c.other.inside.rows.items in
    let others = c.other.inside.stacks in
    let slot = c.args.slot in
    let table = c.args.other.now in
    let free = c.free_as.ensures in
    let stacks = c.reset.new.self in
    let kept = cleared_kept rows old stacks others free.long free.made free.free c.self.inside.stacks c.self.inside.rows.items c.self.invariant.1 c.reset.ensures c.other.invariant.1.few free.deep in
    let there = holds_within old others c.other.invariant.1 table c.other.view_is slot c.requires in
    let inside : slot < length rows = omega (arith, there, free.long) in
    let o = c.index.result.now in
    let is_o = row_read old slot o there c.index.ensures in
    let x = c.index_mut-row.result.now in
    let is_x = row_read rows slot x inside c.index_mut-row.ensures.value in
    (step_some rows stacks kept slot inside x is_x c.copy.new.row c.copy.new.stacks (λ _. slot_in o (words_at others slot)) c.copy.ensures.step (omega (arith, inside)), step_kept rows stacks kept slot inside x is_x c.copy.new.row c.copy.new.stacks (λ _. slot_in o (words_at others slot)) c.copy.ensures.step, step_added rows stacks kept slot inside x is_x c.copy.new.row c.copy.new.stacks (λ _. slot_in o (words_at others slot)) c.copy.ensures.step [] (cleared_set rows old stacks others free.long free.made free.free) c.insert.new.self c.copy.ensures.occupied (c.insert.ensures ∙ ap (with_slot slot) c.new-self-inside.ensures), c.free_as.ensures.room)

pub returns : goal.returns
returns c =
    let rows = c.free_as.new.rows.items in
    let old = c.other.inside.rows.items in
    let others = c.other.inside.stacks in
    let slot = c.args.slot in
    let table = c.args.other.now in
    let free = c.free_as.ensures in
    let stacks = c.reset.new.self in
    let kept = cleared_kept rows old stacks others free.long free.made free.free c.self.inside.stacks c.self.inside.rows.items c.self.invariant.1 c.reset.ensures c.other.invariant.1.few free.deep in
    let there = holds_within old others c.other.invariant.1 table c.other.view_is slot c.requires in
    let inside : slot < length rows = omega (arith, there, free.long) in
    let o = c.index.result.now in
    let is_o = row_read old slot o there c.index.ensures in
    let x = c.index_mut-row.result.now in
    let is_x = row_read rows slot x inside c.index_mut-row.ensures.value in
    step_seen rows stacks kept slot inside x is_x c.copy.new.row c.copy.new.stacks (λ _. slot_in o (words_at others slot)) c.copy.ensures.step (map freed table) (cleared_seen rows old stacks others free.long free.made free.free ∙ ap (map freed) c.other.view_is) ∙ ap (λ s. on_slot slot (λ _. s) (map freed table)) (sym (slot_read old others table c.other.view_is slot o is_o))
