use Rattle.pct_names.proofs.Names.{subst, sym, ◌∙◌}
use Rattle.pct_threads.specs.Rows.{IsStep}
use Rattle.pct_threads.specs.Slots.{with_frame_word, with_change}
use Rattle.pct_threads.proofs.RowLemmas.{word_step, kind_step}
use Rattle.pct_threads.proofs.held.set_frame_word.Goals as goal

pub returns-then-i-eq2 : goal.returns-then-i-eq2
returns-then-i-eq2 c =
    let row = c.args.row.now in
    let old = c.args.stacks.now in
    let new = c.set_word-then-i-eq2.new.self in
    let words = c.words_of_kind-number in
    subst (λ i. IsStep row row old new c.args.slot (with_change (with_frame_word c.args.frame i c.args.value))) (sym c.if-i-eq2.true)
    (kind_step row old c.set_word.new.self new c.args.slot c.args.frame words.result.0 words.result.1 c.args.value c.requires.held (words.ensures ∙ c.kind_of.ensures) c.set_word.ensures.block c.set_word-then-i-eq2.ensures.block c.set_word.ensures.long c.requires.frame)

pub returns-else-i-eq2 : goal.returns-else-i-eq2
returns-else-i-eq2 c =
    let set = c.set_word-else-i-eq2 in
    word_step c.args.row.now c.args.stacks.now set.new.self c.args.slot c.args.frame c.args.i c.args.value c.requires.held set.ensures.block set.ensures.long c.requires.frame c.requires.word c.if-i-eq2.false
