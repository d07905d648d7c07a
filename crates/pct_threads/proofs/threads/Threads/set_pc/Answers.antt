use Rattle.pct_names.proofs.Names.{arith}
use Rattle.pct_threads.specs.Slots.{with_pc, with_change}
use Rattle.pct_threads.proofs.RowLemmas.{row_read, holds_within, is_held, stay_kept, stay_seen, stay_same}
use Rattle.pct_threads.proofs.threads.Threads.set_pc.Goals as goal

pub index-requires : goal.index-requires
index-requires c = omega (arith, holds_within c.self.inside.rows.items c.self.inside.stacks c.self.invariant.1 c.args.self.now c.self.view_is c.args.slot c.requires, c.self.inside.rows.ok)

pub set_pc-requires : goal.set_pc-requires
set_pc-requires c =
    let rows = c.self.inside.rows.items in
    let stacks = c.self.inside.stacks in
    let kept = c.self.invariant.1 in
    let slot = c.args.slot in
    let holds = c.requires in
    let inside = holds_within rows stacks kept c.args.self.now c.self.view_is slot holds in
    let x = c.index.result.now in
    let is_x = row_read rows slot x inside c.index.ensures in
    is_held rows stacks kept c.args.self.now c.self.view_is slot holds x is_x

pub invariant_of-self : goal.invariant_of-self
invariant_of-self c =
    let rows = c.self.inside.rows.items in
    let stacks = c.self.inside.stacks in
    let kept = c.self.invariant.1 in
    let slot = c.args.slot in
    let holds = c.requires in
    let inside = holds_within rows stacks kept c.args.self.now c.self.view_is slot holds in
    let x = c.index.result.now in
    let is_x = row_read rows slot x inside c.index.ensures in
    (c.self.invariant.0, stay_kept rows stacks kept slot inside x is_x c.set_pc.new.stacks (with_change (with_pc c.args.pc)) c.set_pc.ensures, stay_same rows stacks kept slot inside x is_x c.set_pc.new.stacks (with_change (with_pc c.args.pc)) c.set_pc.ensures c.self.inside.occupied c.self.invariant.2, c.self.invariant.3)

pub returns : goal.returns
returns c =
    let rows = c.self.inside.rows.items in
    let stacks = c.self.inside.stacks in
    let kept = c.self.invariant.1 in
    let slot = c.args.slot in
    let holds = c.requires in
    let inside = holds_within rows stacks kept c.args.self.now c.self.view_is slot holds in
    let x = c.index.result.now in
    let is_x = row_read rows slot x inside c.index.ensures in
    stay_seen rows stacks kept slot inside x is_x c.set_pc.new.stacks (with_change (with_pc c.args.pc)) c.set_pc.ensures c.args.self.now c.self.view_is
