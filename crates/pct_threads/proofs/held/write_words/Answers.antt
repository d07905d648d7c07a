use Rattle.pct_names.proofs.Names.{ap, arith, length, sym, get_or, ◌∙◌, ◌≡◌, ◌<◌, ◌+◌, ◌*◌, inl, inr, cases_eq, slice_set}
use Rattle.pct_stack.specs.Stacks.{words_at}
use Rattle.pct_threads.specs.StackFrames.{word_in}
use Rattle.pct_threads.proofs.RowLemmas.{at_word, twice, changed_after, words_after}
use Rattle.std.proofs.lemmas.List.{get_or-set_same, get_or-set_other}
use Rattle.pct_threads.proofs.held.write_words.Goals as goal

pub loop-i-preserved : goal.loop-i-preserved
loop-i-preserved c =
    let slot = c.args.slot in
    let frame = c.args.row.now.depth in
    let first = c.args.row.now.end in
    let i = c.loop-i.i in
    let mid = c.loop-i.stacks in
    let last = c.set_at.new.self in
    let now = c.loop-i.invariant in
    let stack = now.changed.stack in
    let ws = words_at mid slot in
    let p = 12 * frame + i in
    let v = get_or c.args.words i 0 in
    let set = slice_set ws p v in
    let block = at_word mid last slot (first + i) p v stack.width (omega (arith, c.requires.held.end)) c.set_at.ensures.block in
    let words : words_at last slot ≡ set = words_after mid last slot set stack block in
    let inside : p < length ws = omega (arith, c.set_at.ensures.long, stack.width, c.requires.room, c.loop-i-test.true) in
    record {
      changed = twice c.args.stacks.now mid last slot now.changed (changed_after mid last slot set stack block);
      written = λ w small. ap (λ us. word_in us (12 * frame) w) words ∙ elim (cases_eq w i) [
        | inl same ↦ ap (word_in set (12 * frame)) same ∙ get_or-set_same ws p v 0 inside ∙ sym (ap (λ j. get_or c.args.words j 0) same)
        | inr other ↦ get_or-set_other ws p (12 * frame + w) v 0 (λ e. other (omega (arith, e))) ∙ now.written w (omega (arith, small, other))
      ];
      below = λ q low. ap (λ us. get_or us q 0) words ∙ get_or-set_other ws p q v 0 (λ e. absurd (omega (arith, e, low))) ∙ now.below q low;
    }
