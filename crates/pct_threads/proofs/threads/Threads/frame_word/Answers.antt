use Rattle.pct_names.proofs.Names.{ap, arith, sym, ◌∙◌, ◌<◌}
use Rattle.pct_stack.specs.Stacks.{words_at}
use Rattle.pct_threads.specs.FrameWords.{frame_word_of}
use Rattle.pct_threads.specs.Slots.{frame_at}
use Rattle.pct_threads.proofs.StackFrameLemmas.{frame_at-in}
use Rattle.pct_threads.proofs.RowLemmas.{row_read, holds_within, is_held, frames_read, depth_read, framed_holds}
use Rattle.pct_threads.proofs.threads.Threads.frame_word.Goals as goal

pub index-requires : goal.index-requires
index-requires c = omega (arith, holds_within c.self.inside.rows.items c.self.inside.stacks c.self.invariant.1 c.args.self.now c.self.view_is c.args.slot (framed_holds c.args.self.now c.args.slot c.args.frame c.requires.frame), c.self.inside.rows.ok)

pub frame_word-requires-clause-held : goal.frame_word-requires-clause-held
frame_word-requires-clause-held c =
    let rows = c.self.inside.rows.items in
    let stacks = c.self.inside.stacks in
    let kept = c.self.invariant.1 in
    let slot = c.args.slot in
    let holds = (framed_holds c.args.self.now c.args.slot c.args.frame c.requires.frame) in
    let inside = holds_within rows stacks kept c.args.self.now c.self.view_is slot holds in
    let x = c.index.result.now in
    let is_x = row_read rows slot x inside c.index.ensures in
    is_held rows stacks kept c.args.self.now c.self.view_is slot holds x is_x

pub frame_word-requires-clause-frame : goal.frame_word-requires-clause-frame
frame_word-requires-clause-frame c =
    let rows = c.self.inside.rows.items in
    let stacks = c.self.inside.stacks in
    let kept = c.self.invariant.1 in
    let slot = c.args.slot in
    let holds = (framed_holds c.args.self.now c.args.slot c.args.frame c.requires.frame) in
    let inside = holds_within rows stacks kept c.args.self.now c.self.view_is slot holds in
    let x = c.index.result.now in
    let is_x = row_read rows slot x inside c.index.ensures in
    omega (arith, c.requires.frame, depth_read rows stacks c.args.self.now c.self.view_is slot x is_x holds)

pub returns : goal.returns
returns c =
    let rows = c.self.inside.rows.items in
    let stacks = c.self.inside.stacks in
    let kept = c.self.invariant.1 in
    let slot = c.args.slot in
    let holds = (framed_holds c.args.self.now c.args.slot c.args.frame c.requires.frame) in
    let inside = holds_within rows stacks kept c.args.self.now c.self.view_is slot holds in
    let x = c.index.result.now in
    let is_x = row_read rows slot x inside c.index.ensures in
    let below : c.args.frame < x.depth = omega (arith, c.requires.frame, depth_read rows stacks c.args.self.now c.self.view_is slot x is_x holds) in
    c.frame_word.ensures
    ∙ ap (λ f. frame_word_of f c.args.i)
    (sym (ap (λ fs. frame_at fs c.args.frame) (frames_read rows stacks c.args.self.now c.self.view_is slot x is_x holds) ∙ frame_at-in (words_at stacks slot) x.depth c.args.frame below))
