use Rattle.pct_names.proofs.Names.{◌++◌, ap, List, sym, words_in, ℕ, ◌∙◌}
use Rattle.pct_expect.specs.Parts.{before_slash}
use Rattle.pct_expect.proofs.Patterns.{front_first, front_later, front_none, nothing_after, stored_word}
use Rattle.pct_expect.proofs.parsing.pattern_of.Goals as goal

pub returns-then-is_slash : goal.returns-then-is_slash
returns-then-is_slash c =
    let words = words_in c.loop-word.rest.now in
    let here = front_first words c.in-Some.word.now (words_in c.in-Some.after.now) c.in-Some.ensures.words (sym c.if-is_slash.ensures) in
    c.of.ensures ∙ sym (c.loop-word.invariant ∙ nothing_after c.loop-word.words.items (before_slash words) here)

pub loop-word-preserved : goal.loop-word-preserved
loop-word-preserved c =
    let words = words_in c.loop-word.rest.now in
    let after = words_in c.in-Some.after.now in
    let stored = c.loop-word.words.items in
    let later = front_later words c.in-Some.word.now after c.in-Some.ensures.words (sym c.if-is_slash.ensures) in
    c.loop-word.invariant
    ∙ ap (λ (others : List (List ℕ)). stored ++ others) later
    ∙ stored_word stored c.in-Some.word.now c.in_ok-copy_of.field-0 (before_slash after) c.push.new.self.items c.in_ok-copy_of.ensures c.in_ok-push.ensures.items

pub returns : goal.returns
returns c =
    let words = words_in c.loop-word.rest.now in
    c.of-2.ensures ∙ sym (c.loop-word.invariant ∙ nothing_after c.loop-word.words.items (before_slash words) (front_none words c.in_default.ensures.words))
