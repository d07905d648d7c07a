use Rattle.std.proofs.lemmas.List.{nil_from_length}
use Rattle.pct_names.proofs.Names.{ap, sym, ◌∙◌}
use Rattle.pct_report_reader.specs.Forms.{words_left}
use Rattle.pct_report_reader.proofs.WordsLeft.{all_compared, word_fails, word_missing, word_passes}
use Rattle.pct_report_reader.proofs.text.are_words.Goals as goal

pub returns-in_default-rest : goal.returns-in_default-rest
returns-in_default-rest c =
    sym (c.loop-kind.invariant
    ∙ word_missing c.loop-kind.left.now c.in-Some.others.now (words_left c.loop-kind.rest) c.in-Some.kind.now c.in-Some.ensures.cases.0 (ap words_left c.in_default-rest.is))

pub returns-then-not-is_word : goal.returns-then-not-is_word
returns-then-not-is_word c =
    sym (c.loop-kind.invariant
    ∙ word_fails c.loop-kind.left.now c.in-Some.others.now (words_left c.loop-kind.rest) (words_left c.first_word.result.1) c.in-Some.kind.now c.first_word.result.0.now c.in-Some.ensures.cases.0
    (ap words_left c.in-Some-rest.is ∙ c.first_word.ensures) (sym c.if-not-is_word.ensures))

pub loop-kind-preserved : goal.loop-kind-preserved
loop-kind-preserved c =
    c.loop-kind.invariant
    ∙ word_passes c.loop-kind.left.now c.in-Some.others.now (words_left c.loop-kind.rest) (words_left c.first_word.result.1) c.in-Some.kind.now c.first_word.result.0.now c.in-Some.ensures.cases.0
    (ap words_left c.in-Some-rest.is ∙ c.first_word.ensures) (sym c.if-not-is_word.ensures)

pub returns : goal.returns
returns c = sym (c.loop-kind.invariant ∙ all_compared c.loop-kind.left.now c.loop-kind.rest c.is_none.result (nil_from_length c.loop-kind.left.now c.in_default.ensures.cases) c.is_none.ensures)
