use Rattle.pct_names.proofs.Names.{◌<◌, ◌≤◌, arith, length, ◌∙◌}
use Rattle.pct_io.specs.Fields.{field_text}
use Rattle.pct_survey.proofs.FieldMatches.{all_pass, differ, word_fails, word_passes}
use Rattle.pct_survey.proofs.matching.are_fields.Goals as goal

pub returns-then-pattern-fields : goal.returns-then-pattern-fields
returns-then-pattern-fields c = differ field_text c.args.pattern.now c.args.fields.now c.if-pattern-fields.true

pub returns-then-not-word_matches : goal.returns-then-not-word_matches
returns-then-not-word_matches c =
    let i = c.loop-index.index in
    let also : i < length c.args.fields.now = omega (arith, c.loop-index-test.true, c.if-pattern-fields.false) in
    word_fails field_text c.args.pattern.now c.args.fields.now i c.index-pattern-index.result _ c.loop-index-test.true also c.loop-index.invariant
    c.as_slice.result.now (c.as_slice.ensures ∙ c.index-pattern-index.is) c.if-not-word_matches.ensures

pub loop-index-preserved : goal.loop-index-preserved
loop-index-preserved c =
    let i = c.loop-index.index in
    let also : i < length c.args.fields.now = omega (arith, c.loop-index-test.true, c.if-pattern-fields.false) in
    word_passes field_text c.args.pattern.now c.args.fields.now i c.index-pattern-index.result _ c.loop-index-test.true also c.loop-index.invariant
    c.as_slice.result.now (c.as_slice.ensures ∙ c.index-pattern-index.is) c.if-not-word_matches.ensures

pub returns : goal.returns
returns c =
    let also : length c.args.fields.now ≤ c.loop-index.index = omega (arith, c.loop-index-test.false, c.if-pattern-fields.false) in
    all_pass field_text c.args.pattern.now c.args.fields.now c.loop-index.index c.loop-index-test.false also c.loop-index.invariant
