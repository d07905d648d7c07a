use Rattle.pct_names.proofs.Names.{ap, arith, length, subst, ◌∙◌, ◌<◌, ◌≤◌, ◌+◌, ◌*◌, ◌^◌}
use Rattle.pct_threads.specs.Slots.{created}
use Rattle.pct_threads.specs.Tables.{on_slot}
use Rattle.pct_threads.proofs.RowLemmas.{row_read, count_seen, made_read, step_kept, step_some, step_seen, step_added, free_within, free_stack, made_fits}
use Rattle.pct_threads.proofs.threads.Threads.create.Goals as goal

pub index_mut-row-requires : goal.index_mut-row-requires
index_mut-row-requires c = omega (arith, free_within c.self.inside.rows.items c.self.inside.stacks c.self.invariant.1 c.args.self.now c.self.view_is c.args.slot c.requires.free, c.self.inside.rows.ok)

pub create-requires-clause-free : goal.create-requires-clause-free
create-requires-clause-free c = free_stack c.self.inside.rows.items c.self.inside.stacks c.self.invariant.1 c.args.self.now c.self.view_is c.args.slot c.requires.free

pub create-requires-clause-width : goal.create-requires-clause-width
create-requires-clause-width c = c.self.invariant.1.width

pub create-requires-clause-fits : goal.create-requires-clause-fits
create-requires-clause-fits c =
    let rows = c.self.inside.rows.items in
    let stacks = c.self.inside.stacks in
    let kept = c.self.invariant.1 in
    let slot = c.args.slot in
    let inside = free_within c.self.inside.rows.items c.self.inside.stacks c.self.invariant.1 c.args.self.now c.self.view_is c.args.slot c.requires.free in
    let x = c.index_mut-row.result.now in
    let is_x = row_read rows slot x inside c.index_mut-row.ensures.value in
    let seen = c.args.self.now in
    let some : 1 ≤ length seen = omega (arith, inside, count_seen rows stacks seen c.self.view_is) in
    made_fits (length seen) x.made (2 ^ 32) slot some (subst (λ m. 1 + slot + length seen * m < 2 ^ 32) (made_read rows stacks seen c.self.view_is slot x is_x) c.requires.fits)

pub insert-requires : goal.insert-requires
insert-requires c = omega (arith, free_within c.self.inside.rows.items c.self.inside.stacks c.self.invariant.1 c.args.self.now c.self.view_is c.args.slot c.requires.free, c.self.invariant.1.few)

pub invariant_of-self : goal.invariant_of-self
invariant_of-self c =
    let rows = c.self.inside.rows.items in
    let stacks = c.self.inside.stacks in
    let kept = c.self.invariant.1 in
    let slot = c.args.slot in
    let inside = free_within c.self.inside.rows.items c.self.inside.stacks c.self.invariant.1 c.args.self.now c.self.view_is c.args.slot c.requires.free in
    let x = c.index_mut-row.result.now in
    let is_x = row_read rows slot x inside c.index_mut-row.ensures.value in
    (step_some rows stacks kept slot inside x is_x c.create.new.row c.create.new.stacks (created c.next_id-id.result c.args.func c.args.arg c.args.detached) c.create.ensures.step c.self.invariant.0, step_kept rows stacks kept slot inside x is_x c.create.new.row c.create.new.stacks (created c.next_id-id.result c.args.func c.args.arg c.args.detached) c.create.ensures.step, step_added rows stacks kept slot inside x is_x c.create.new.row c.create.new.stacks (created c.next_id-id.result c.args.func c.args.arg c.args.detached) c.create.ensures.step c.self.inside.occupied c.self.invariant.2 c.insert.new.self c.create.ensures.occupied c.insert.ensures, c.self.invariant.3)

pub returns-clause-table : goal.returns-clause-table
returns-clause-table c =
    let rows = c.self.inside.rows.items in
    let stacks = c.self.inside.stacks in
    let kept = c.self.invariant.1 in
    let slot = c.args.slot in
    let inside = free_within c.self.inside.rows.items c.self.inside.stacks c.self.invariant.1 c.args.self.now c.self.view_is c.args.slot c.requires.free in
    let x = c.index_mut-row.result.now in
    let is_x = row_read rows slot x inside c.index_mut-row.ensures.value in
    step_seen rows stacks kept slot inside x is_x c.create.new.row c.create.new.stacks (created c.next_id-id.result c.args.func c.args.arg c.args.detached) c.create.ensures.step c.args.self.now c.self.view_is ∙ ap (λ n. on_slot slot (created n c.args.func c.args.arg c.args.detached) c.args.self.now) c.next_id-id.ensures
