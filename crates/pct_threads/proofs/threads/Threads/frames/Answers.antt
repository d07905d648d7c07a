use Rattle.pct_names.proofs.Names.{arith, sym, ◌∙◌}
use Rattle.pct_threads.proofs.RowLemmas.{row_read, holds_within, is_held, frames_read}
use Rattle.pct_threads.proofs.threads.Threads.frames.Goals as goal

pub index-requires : goal.index-requires
index-requires c = omega (arith, holds_within c.self.inside.rows.items c.self.inside.stacks c.self.invariant.1 c.args.self.now c.self.view_is c.args.slot c.requires, c.self.inside.rows.ok)

pub new-requires : goal.new-requires
new-requires c =
    let rows = c.self.inside.rows.items in
    let stacks = c.self.inside.stacks in
    let kept = c.self.invariant.1 in
    let slot = c.args.slot in
    let holds = c.requires in
    let inside = holds_within rows stacks kept c.args.self.now c.self.view_is slot holds in
    let x = c.index.result.now in
    let is_x = row_read rows slot x inside c.index.ensures in
    is_held rows stacks kept c.args.self.now c.self.view_is slot holds x is_x

pub returns : goal.returns
returns c =
    let rows = c.self.inside.rows.items in
    let stacks = c.self.inside.stacks in
    let kept = c.self.invariant.1 in
    let slot = c.args.slot in
    let holds = c.requires in
    let inside = holds_within rows stacks kept c.args.self.now c.self.view_is slot holds in
    let x = c.index.result.now in
    let is_x = row_read rows slot x inside c.index.ensures in
    c.new.ensures ∙ sym (frames_read rows stacks c.args.self.now c.self.view_is slot x is_x holds)
