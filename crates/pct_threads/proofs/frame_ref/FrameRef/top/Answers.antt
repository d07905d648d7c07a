use Rattle.pct_names.proofs.Names.{ap, arith, get_or, Some, sym, ℕ, ◌∙◌, ◌+◌, ◌-◌, ◌*◌, ◌<◌, ◌≡◌}
use Rattle.pct_stack.specs.Stacks.{words_at}
use Rattle.pct_threads.specs.StackFrames.{frame_in}
use Rattle.pct_threads.proofs.StackFrameLemmas.{frame_same, frame_with_index}
use Rattle.pct_threads.proofs.frame_ref.FrameRef.top.Goals as goal

pub returns : goal.returns
returns c =
    let row = c.args.row.now in
    let stacks = c.args.stacks.now in
    let slot = c.args.slot in
    let held = c.requires in
    let ws = words_at stacks slot in
    let k : ℕ = row.depth - 1 in
    let first : ℕ = row.end - 12 in
    let some : 0 < row.depth = omega (arith, c.if-row-eq0.false) in
    let product : slot * stacks.width ≡ slot * 204 = ap (λ w. slot * w) held.width in
    ap Some (frame_same c.words_from-words.result ws 0 (12 * k)
    (λ i small. c.words_from-words.ensures.words (0 + i) (omega (arith, small, held.end, held.width, held.deep, product, some))
    ∙ ap (λ p. get_or ws p 0) {x = first + (0 + i) - slot * stacks.width} {y = 12 * k + i} (omega (arith, held.end, product, some))))
    ∙ sym (frame_with_index ws row.depth 0 some ∙ ap (λ j. Some (frame_in ws j)) {x = row.depth - 1 - 0} {y = k} (omega arith))
