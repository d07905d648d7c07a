use Rattle.pct_names.proofs.Names.{ap, arith, get_or, ◌∙◌, ◌+◌, ◌-◌, ◌*◌}
use Rattle.pct_stack.specs.Stacks.{words_at}
use Rattle.pct_threads.proofs.StackFrameLemmas.{frames_same}
use Rattle.pct_threads.proofs.frame_ref.Frames.new.Goals as goal

pub returns : goal.returns
returns c =
    let row = c.args.row.now in
    let stacks = c.args.stacks.now in
    let slot = c.args.slot in
    let first = c.first_of.result in
    frames_same (words_at stacks slot) c.words_from.result row.depth
    (λ i below. c.words_from.ensures.words i (omega (arith, below, c.requires.deep, c.requires.width, c.first_of.ensures))
    ∙ ap (λ p. get_or (words_at stacks slot) p 0) {x = first + i - slot * stacks.width} {y = i} (omega (arith, c.first_of.ensures)))
