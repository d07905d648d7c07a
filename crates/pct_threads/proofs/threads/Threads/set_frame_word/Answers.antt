use Rattle.pct_names.proofs.Names.{arith}
use Rattle.pct_threads.specs.Slots.{with_frame_word, with_change}
use Rattle.pct_threads.proofs.RowLemmas.{row_read, holds_within, is_held, depth_read, framed_holds, stay_kept, stay_seen, stay_same}
use Rattle.pct_threads.proofs.threads.Threads.set_frame_word.Goals as goal

pub index-row-requires : goal.index-row-requires
index-row-requires c = omega (arith, holds_within c.self.inside.rows.items c.self.inside.stacks c.self.invariant.1 c.args.self.now c.self.view_is c.args.slot (framed_holds c.args.self.now c.args.slot c.args.frame c.requires.frame), c.self.inside.rows.ok)

pub set_frame_word-requires-clause-held : goal.set_frame_word-requires-clause-held
set_frame_word-requires-clause-held c =
    let rows = c.self.inside.rows.items in
    let stacks = c.self.inside.stacks in
    let kept = c.self.invariant.1 in
    let slot = c.args.slot in
    let holds = (framed_holds c.args.self.now c.args.slot c.args.frame c.requires.frame) in
    let inside = holds_within rows stacks kept c.args.self.now c.self.view_is slot holds in
    let x = c.index-row.result.now in
    let is_x = row_read rows slot x inside c.index-row.ensures in
    is_held rows stacks kept c.args.self.now c.self.view_is slot holds x is_x

pub set_frame_word-requires-clause-frame : goal.set_frame_word-requires-clause-frame
set_frame_word-requires-clause-frame c =
    let rows = c.self.inside.rows.items in
    let stacks = c.self.inside.stacks in
    let kept = c.self.invariant.1 in
    let slot = c.args.slot in
    let holds = (framed_holds c.args.self.now c.args.slot c.args.frame c.requires.frame) in
    let inside = holds_within rows stacks kept c.args.self.now c.self.view_is slot holds in
    let x = c.index-row.result.now in
    let is_x = row_read rows slot x inside c.index-row.ensures in
    omega (arith, c.requires.frame, depth_read rows stacks c.args.self.now c.self.view_is slot x is_x holds)

pub invariant_of-self : goal.invariant_of-self
invariant_of-self c =
    let rows = c.self.inside.rows.items in
    let stacks = c.self.inside.stacks in
    let kept = c.self.invariant.1 in
    let slot = c.args.slot in
    let holds = (framed_holds c.args.self.now c.args.slot c.args.frame c.requires.frame) in
    let inside = holds_within rows stacks kept c.args.self.now c.self.view_is slot holds in
    let x = c.index-row.result.now in
    let is_x = row_read rows slot x inside c.index-row.ensures in
    let change = with_change (with_frame_word c.args.frame c.args.i c.args.value) in
    (c.self.invariant.0, stay_kept rows stacks kept slot inside x is_x c.set_frame_word.new.stacks change c.set_frame_word.ensures, stay_same rows stacks kept slot inside x is_x c.set_frame_word.new.stacks change c.set_frame_word.ensures c.self.inside.occupied c.self.invariant.2, c.self.invariant.3)

pub returns : goal.returns
returns c =
    let rows = c.self.inside.rows.items in
    let stacks = c.self.inside.stacks in
    let kept = c.self.invariant.1 in
    let slot = c.args.slot in
    let holds = (framed_holds c.args.self.now c.args.slot c.args.frame c.requires.frame) in
    let inside = holds_within rows stacks kept c.args.self.now c.self.view_is slot holds in
    let x = c.index-row.result.now in
    let is_x = row_read rows slot x inside c.index-row.ensures in
    stay_seen rows stacks kept slot inside x is_x c.set_frame_word.new.stacks (with_change (with_frame_word c.args.frame c.args.i c.args.value)) c.set_frame_word.ensures c.args.self.now c.self.view_is
