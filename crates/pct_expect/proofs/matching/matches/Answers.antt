use Rattle.std.proofs.lemmas.List.{nil_from_length}
use Rattle.pct_names.proofs.Names.{ap, false, List, sym, true, words_in, ℕ, ◌∙◌, ◌≡◌}
use Rattle.pct_expect.specs.Events.{word_matches}
use Rattle.pct_expect.proofs.WordMatches.{at_the_end, too_many_words, word_fails, word_passes}
use Rattle.pct_expect.proofs.matching.matches.Goals as goal

pub loop-word-preserved : goal.loop-word-preserved
loop-word-preserved c =
    let asked = c.in-Some-split_first.asked.now in
    let word = c.in-Some.word.now in
    let passes : word_matches asked word ≡ true = ap (λ (w : List ℕ). word_matches w word) (sym c.as_slice.ensures) ∙ sym c.if-word_matches.ensures in
    c.loop-word.invariant
    ∙ word_passes c.loop-word.left.now (words_in c.loop-word.rest.now) asked word c.in-Some-split_first.others.now (words_in c.in-Some.after.now) c.in-Some-split_first.ensures.cases.0 c.in-Some.ensures.words passes

pub returns-in_default-split_first : goal.returns-in_default-split_first
returns-in_default-split_first c =
    let asked = c.in-Some-split_first.asked.now in
    let word = c.in-Some.word.now in
    let fails : word_matches asked word ≡ false = ap (λ (w : List ℕ). word_matches w word) (sym c.as_slice.ensures) ∙ sym c.if-word_matches.ensures in
    sym (c.loop-word.invariant
    ∙ word_fails c.loop-word.left.now (words_in c.loop-word.rest.now) asked word c.in-Some-split_first.others.now (words_in c.in-Some.after.now) c.in-Some-split_first.ensures.cases.0 c.in-Some.ensures.words fails)

pub returns-in_default-split_first-2 : goal.returns-in_default-split_first-2
returns-in_default-split_first-2 c =
    let left = c.loop-word.left.now in
    let none = rw c.in_default-split_first.is at c.split_first.ensures.cases in
    sym (c.loop-word.invariant ∙ too_many_words left (words_in c.loop-word.rest.now) c.in-Some.word.now (words_in c.in-Some.after.now) (nil_from_length left none) c.in-Some.ensures.words)

pub returns : goal.returns
returns c =
    let left = c.loop-word.left.now in
    c.is_empty.ensures ∙ at_the_end left (words_in c.loop-word.rest.now) c.in_default.ensures.words ∙ sym c.loop-word.invariant
