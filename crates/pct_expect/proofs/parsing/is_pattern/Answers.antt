use Rattle.pct_names.proofs.Names.{ap, arith, length, sym, true, words_in, ◌∙◌, ◌≡◌}
use Rattle.pct_expect.specs.Rules.{is_size}
use Rattle.pct_expect.proofs.Patterns.{no_pattern, no_slash, pattern_by_size, slash_first}
use Rattle.pct_expect.proofs.parsing.is_pattern.Goals as goal

pub returns-then-is_slash : goal.returns-then-is_slash
returns-then-is_slash c =
    let words = words_in c.loop-word.rest.now in
    let slash = slash_first words c.in-Some.word.now (words_in c.in-Some.after.now) c.in-Some.ensures.words (sym c.if-is_slash.ensures) in
    sym (no_pattern (words_in c.args.bytes.now) (c.loop-word.invariant.all ∙ slash))

pub returns : goal.returns
returns c =
    let words = words_in c.args.bytes.now in
    let none : no_slash words ≡ true = c.loop-word.invariant.all ∙ ap no_slash c.in_default.ensures.words in
    let count : c.loop-word.count ≡ length words = omega (arith, c.loop-word.invariant.count, ap length c.in_default.ensures.words) in
    c.is_size.ensures ∙ ap is_size count ∙ sym (pattern_by_size words none)
