use Rattle.pct_names.proofs.Names.{arith}
use Rattle.pct_threads.specs.Slots.{after_change, after_detach}
use Rattle.pct_threads.proofs.RowLemmas.{row_read, holds_within, is_held, step_kept, step_some, step_seen, step_retained}
use Rattle.pct_threads.proofs.threads.Threads.detach.Goals as goal

pub index_mut-row-requires : goal.index_mut-row-requires
index_mut-row-requires c = omega (arith, holds_within c.self.inside.rows.items c.self.inside.stacks c.self.invariant.1 c.args.self.now c.self.view_is c.args.slot c.requires, c.self.inside.rows.ok)

pub detach-requires : goal.detach-requires
detach-requires c =
    let rows = c.self.inside.rows.items in
    let stacks = c.self.inside.stacks in
    let kept = c.self.invariant.1 in
    let slot = c.args.slot in
    let holds = c.requires in
    let inside = holds_within rows stacks kept c.args.self.now c.self.view_is slot holds in
    let x = c.index_mut-row.result.now in
    let is_x = row_read rows slot x inside c.index_mut-row.ensures.value in
    is_held rows stacks kept c.args.self.now c.self.view_is slot holds x is_x

pub retain_if-requires : goal.retain_if-requires
retain_if-requires c = omega (arith, holds_within c.self.inside.rows.items c.self.inside.stacks c.self.invariant.1 c.args.self.now c.self.view_is c.args.slot c.requires, c.self.invariant.1.few)

pub invariant_of-self : goal.invariant_of-self
invariant_of-self c =
    let rows = c.self.inside.rows.items in
    let stacks = c.self.inside.stacks in
    let kept = c.self.invariant.1 in
    let slot = c.args.slot in
    let holds = c.requires in
    let inside = holds_within rows stacks kept c.args.self.now c.self.view_is slot holds in
    let x = c.index_mut-row.result.now in
    let is_x = row_read rows slot x inside c.index_mut-row.ensures.value in
    let held = (is_held rows stacks kept c.args.self.now c.self.view_is slot holds x is_x).occupied in
    (step_some rows stacks kept slot inside x is_x c.detach.new.row c.detach.new.stacks (after_change after_detach) c.detach.ensures c.self.invariant.0, step_kept rows stacks kept slot inside x is_x c.detach.new.row c.detach.new.stacks (after_change after_detach) c.detach.ensures, step_retained rows stacks kept slot inside x is_x c.detach.new.row c.detach.new.stacks (after_change after_detach) c.detach.ensures c.self.inside.occupied c.self.invariant.2 c.retain_if.new.set held c.retain_if.ensures, c.self.invariant.3)

pub returns : goal.returns
returns c =
    let rows = c.self.inside.rows.items in
    let stacks = c.self.inside.stacks in
    let kept = c.self.invariant.1 in
    let slot = c.args.slot in
    let holds = c.requires in
    let inside = holds_within rows stacks kept c.args.self.now c.self.view_is slot holds in
    let x = c.index_mut-row.result.now in
    let is_x = row_read rows slot x inside c.index_mut-row.ensures.value in
    step_seen rows stacks kept slot inside x is_x c.detach.new.row c.detach.new.stacks (after_change after_detach) c.detach.ensures c.args.self.now c.self.view_is
