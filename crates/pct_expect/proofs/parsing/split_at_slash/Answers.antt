use Rattle.pct_names.proofs.Names.{ap, arith, option_map, sym, words_in, ◌∙◌}
use Rattle.pct_expect.specs.Rules.{sides}
use Rattle.pct_expect.proofs.Patterns.{sides_first, sides_later, sides_none, sized, sized_first, sized_later, sized_none}
use Rattle.pct_expect.proofs.parsing.split_at_slash.Goals as goal

pub loop-word-init : goal.loop-word-init
loop-word-init c = record { parts = sized_none (sides (words_in c.args.bytes.now)); few = omega arith }

pub returns-then-is_slash : goal.returns-then-is_slash
returns-then-is_slash c =
    let words = words_in c.loop-word.rest.now in
    let after = words_in c.in-Some.after.now in
    let here = sides_first words c.in-Some.word.now after c.in-Some.ensures.words (sym c.if-is_slash.ensures) in
    sym (c.loop-word.invariant.parts ∙ ap (option_map (sized c.loop-word.count)) here ∙ sized_first c.loop-word.count after)

pub loop-word-preserved : goal.loop-word-preserved
loop-word-preserved c =
    let words = words_in c.loop-word.rest.now in
    let after = words_in c.in-Some.after.now in
    let later = sides_later words c.in-Some.word.now after c.in-Some.ensures.words (sym c.if-is_slash.ensures) in
    record {
      parts = c.loop-word.invariant.parts ∙ ap (option_map (sized c.loop-word.count)) later ∙ sized_later c.loop-word.count c.in-Some.word.now (sides after);
      few = omega (arith, c.in-Some.ensures.shorter);
    }

pub returns : goal.returns
returns c =
    let none = sides_none (words_in c.loop-word.rest.now) c.in_default.ensures.words in
    sym (c.loop-word.invariant.parts ∙ ap (option_map (sized c.loop-word.count)) none)
