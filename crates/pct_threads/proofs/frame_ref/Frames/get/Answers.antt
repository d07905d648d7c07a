use Rattle.pct_names.proofs.Names.{ap, arith, drop, get_or, Some, sym, ℕ, ◌∙◌, ◌+◌, ◌*◌, ◌-◌, slice_get}
use Rattle.std.proofs.lemmas.List.{get_or-drop}
use Rattle.pct_threads.specs.StackFrames.{frame_from}
use Rattle.pct_threads.proofs.StackFrameLemmas.{frame_same, frame_with_index, no_frame}
use Rattle.pct_threads.proofs.frame_ref.Frames.get.Goals as goal

pub returns-then-index-self : goal.returns-then-index-self
returns-then-index-self c =
    let f = c.self.inside in
    sym (no_frame f.words f.depth c.args.index (omega (arith, c.if-index-self.true))) ∙ ap (λ fs. slice_get fs c.args.index) c.self.view_is

pub returns : goal.returns
returns c =
    let f = c.self.inside in
    let k : ℕ = f.depth - 1 - c.args.index in
    ap (λ ws. Some (frame_from ws 0)) c.after.ensures
    ∙ ap Some (frame_same (drop (12 * k) f.words) f.words 0 (12 * k) (λ i small. get_or-drop (12 * k) f.words (0 + i) 0 ∙ ap (λ p. get_or f.words p 0) {x = 12 * k + (0 + i)} {y = 12 * k + i} (omega arith)))
    ∙ sym (frame_with_index f.words f.depth c.args.index c.if-index-self.false) ∙ ap (λ fs. slice_get fs c.args.index) c.self.view_is
