use Rattle.pct_names.proofs.Names.{arith}
use Rattle.pct_threads.specs.Slots.{without_frame, with_change}
use Rattle.pct_threads.proofs.RowLemmas.{holds_within, is_held, row_read, step_kept, step_some, step_seen, step_same, depth_read, framed_holds}
use Rattle.pct_threads.proofs.threads.Threads.pop_frame.Goals as goal

pub index_mut-row-requires : goal.index_mut-row-requires
index_mut-row-requires c = omega (arith, holds_within c.self.inside.rows.items c.self.inside.stacks c.self.invariant.1 c.args.self.now c.self.view_is c.args.slot (framed_holds c.args.self.now c.args.slot 0 c.requires), c.self.inside.rows.ok)

pub pop_frame-requires-clause-held : goal.pop_frame-requires-clause-held
pop_frame-requires-clause-held c =
    let rows = c.self.inside.rows.items in
    let stacks = c.self.inside.stacks in
    let kept = c.self.invariant.1 in
    let slot = c.args.slot in
    let holds = (framed_holds c.args.self.now c.args.slot 0 c.requires) in
    let inside = holds_within rows stacks kept c.args.self.now c.self.view_is slot holds in
    let x = c.index_mut-row.result.now in
    let is_x = row_read rows slot x inside c.index_mut-row.ensures.value in
    is_held rows stacks kept c.args.self.now c.self.view_is slot holds x is_x

pub pop_frame-requires-clause-some : goal.pop_frame-requires-clause-some
pop_frame-requires-clause-some c =
    let rows = c.self.inside.rows.items in
    let stacks = c.self.inside.stacks in
    let kept = c.self.invariant.1 in
    let slot = c.args.slot in
    let holds = (framed_holds c.args.self.now c.args.slot 0 c.requires) in
    let inside = holds_within rows stacks kept c.args.self.now c.self.view_is slot holds in
    let x = c.index_mut-row.result.now in
    let is_x = row_read rows slot x inside c.index_mut-row.ensures.value in
    omega (arith, c.requires, depth_read rows stacks c.args.self.now c.self.view_is slot x is_x holds)

pub invariant_of-self : goal.invariant_of-self
invariant_of-self c =
    let rows = c.self.inside.rows.items in
    let stacks = c.self.inside.stacks in
    let kept = c.self.invariant.1 in
    let slot = c.args.slot in
    let holds = (framed_holds c.args.self.now c.args.slot 0 c.requires) in
    let inside = holds_within rows stacks kept c.args.self.now c.self.view_is slot holds in
    let x = c.index_mut-row.result.now in
    let is_x = row_read rows slot x inside c.index_mut-row.ensures.value in
    let r = c.pop_frame.new.row in
    let change = with_change without_frame in
    let step = c.pop_frame.ensures.step in
    (step_some rows stacks kept slot inside x is_x r stacks change step c.self.invariant.0, step_kept rows stacks kept slot inside x is_x r stacks change step, step_same rows stacks kept slot inside x is_x r stacks change step c.self.inside.occupied c.self.invariant.2 c.pop_frame.ensures.same, c.self.invariant.3)

pub returns : goal.returns
returns c =
    let rows = c.self.inside.rows.items in
    let stacks = c.self.inside.stacks in
    let kept = c.self.invariant.1 in
    let slot = c.args.slot in
    let holds = (framed_holds c.args.self.now c.args.slot 0 c.requires) in
    let inside = holds_within rows stacks kept c.args.self.now c.self.view_is slot holds in
    let x = c.index_mut-row.result.now in
    let is_x = row_read rows slot x inside c.index_mut-row.ensures.value in
    step_seen rows stacks kept slot inside x is_x c.pop_frame.new.row stacks (with_change without_frame) c.pop_frame.ensures.step c.args.self.now c.self.view_is
