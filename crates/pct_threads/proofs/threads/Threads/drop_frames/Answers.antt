use Rattle.pct_names.proofs.Names.{arith}
use Rattle.pct_threads.specs.Slots.{without_frames, with_change}
use Rattle.pct_threads.proofs.RowLemmas.{holds_within, is_held, row_read, step_kept, step_some, step_seen, step_same}
use Rattle.pct_threads.proofs.threads.Threads.drop_frames.Goals as goal

pub index_mut-row-requires : goal.index_mut-row-requires
index_mut-row-requires c = omega (arith, holds_within c.self.inside.rows.items c.self.inside.stacks c.self.invariant.1 c.args.self.now c.self.view_is c.args.slot c.requires, c.self.inside.rows.ok)

pub drop_frames-requires : goal.drop_frames-requires
drop_frames-requires c =
    let rows = c.self.inside.rows.items in
    let stacks = c.self.inside.stacks in
    let kept = c.self.invariant.1 in
    let slot = c.args.slot in
    let holds = c.requires in
    let inside = holds_within rows stacks kept c.args.self.now c.self.view_is slot holds in
    let x = c.index_mut-row.result.now in
    let is_x = row_read rows slot x inside c.index_mut-row.ensures.value in
    is_held rows stacks kept c.args.self.now c.self.view_is slot holds x is_x

pub invariant_of-self : goal.invariant_of-self
invariant_of-self c =
    let rows = c.self.inside.rows.items in
    let stacks = c.self.inside.stacks in
    let kept = c.self.invariant.1 in
    let slot = c.args.slot in
    let holds = c.requires in
    let inside = holds_within rows stacks kept c.args.self.now c.self.view_is slot holds in
    let x = c.index_mut-row.result.now in
    let is_x = row_read rows slot x inside c.index_mut-row.ensures.value in
    let r = c.drop_frames.new.row in
    let change = with_change without_frames in
    let step = c.drop_frames.ensures.step in
    (step_some rows stacks kept slot inside x is_x r stacks change step c.self.invariant.0, step_kept rows stacks kept slot inside x is_x r stacks change step, step_same rows stacks kept slot inside x is_x r stacks change step c.self.inside.occupied c.self.invariant.2 c.drop_frames.ensures.same, c.self.invariant.3)

pub returns : goal.returns
returns c =
    let rows = c.self.inside.rows.items in
    let stacks = c.self.inside.stacks in
    let kept = c.self.invariant.1 in
    let slot = c.args.slot in
    let holds = c.requires in
    let inside = holds_within rows stacks kept c.args.self.now c.self.view_is slot holds in
    let x = c.index_mut-row.result.now in
    let is_x = row_read rows slot x inside c.index_mut-row.ensures.value in
    step_seen rows stacks kept slot inside x is_x c.drop_frames.new.row stacks (with_change without_frames) c.drop_frames.ensures.step c.args.self.now c.self.view_is
