use Rattle.pct_names.proofs.Names.{◌+◌, ap, arith, drop, Some, sym, syntax_of, tokens_at, words_in, ◌∙◌}
use Rattle.pct_script_lines.proofs.ResolvingTokens.{onto}
use Rattle.pct_script_lines.proofs.TokensOfWords.{words_past, word_wrong, word_right, words_end, words_missing}
use Rattle.pct_script_lines.proofs.arguments.tokens_at.Goals as goal

pub returns-in_default-argument_kind : goal.returns-in_default-argument_kind
returns-in_default-argument_kind c =
    let argument_kinds = (syntax_of c.args.line_kind).argument_kinds c.args.words in
    let items = c.loop-word.parsed.items in
    sym (ap (λ ws. onto items (tokens_at (drop c.loop-word.at argument_kinds) ws)) c.in-Some.ensures.words
    ∙ words_past items argument_kinds c.loop-word.at c.in-Some.word.now (words_in c.in-Some.after.now) (sym c.in_default-argument_kind.ensures))
    ∙ c.loop-word.invariant.all

pub returns-in_default-token_at : goal.returns-in_default-token_at
returns-in_default-token_at c =
    let argument_kinds = (syntax_of c.args.line_kind).argument_kinds c.args.words in
    let items = c.loop-word.parsed.items in
    sym (ap (λ ws. onto items (tokens_at (drop c.loop-word.at argument_kinds) ws)) c.in-Some.ensures.words
    ∙ word_wrong items argument_kinds c.loop-word.at c.in-Some-argument_kind.argument_kind c.in-Some.word.now (words_in c.in-Some.after.now) (sym c.in-Some-argument_kind.ensures) (sym c.in_default-token_at.ensures))
    ∙ c.loop-word.invariant.all

pub loop-word-preserved : goal.loop-word-preserved
loop-word-preserved c =
    let argument_kinds = (syntax_of c.args.line_kind).argument_kinds c.args.words in
    let items = c.loop-word.parsed.items in
    let after = words_in c.in-Some.after.now in record {
      all =
          ap (λ kept. onto kept (tokens_at (drop (c.loop-word.at + 1) argument_kinds) after)) c.in_ok-push.ensures.items
          ∙ sym (ap (λ ws. onto items (tokens_at (drop c.loop-word.at argument_kinds) ws)) c.in-Some.ensures.words
          ∙ word_right items argument_kinds c.loop-word.at c.in-Some-argument_kind.argument_kind c.in-Some.word.now after c.in-Some-token_at.first (sym c.in-Some-argument_kind.ensures) (sym c.in-Some-token_at.ensures))
          ∙ c.loop-word.invariant.all;
      few = omega (arith, c.loop-word.invariant.few, c.in-Some.ensures.shorter);
    }

pub returns-in-Some-argument_kind-2 : goal.returns-in-Some-argument_kind-2
returns-in-Some-argument_kind-2 c =
    let argument_kinds = (syntax_of c.args.line_kind).argument_kinds c.args.words in
    let items = c.loop-word.parsed.items in
    sym (ap (λ ws. onto items (tokens_at (drop c.loop-word.at argument_kinds) ws)) c.in_default.ensures.words
    ∙ words_missing items argument_kinds c.loop-word.at c.in-Some-argument_kind-2.field-0 (sym c.in-Some-argument_kind-2.ensures))
    ∙ c.loop-word.invariant.all

pub returns-in-None : goal.returns-in-None
returns-in-None c =
    let argument_kinds = (syntax_of c.args.line_kind).argument_kinds c.args.words in
    let items = c.loop-word.parsed.items in
    ap (λ words. Some words) c.of.ensures
    ∙ sym (ap (λ ws. onto items (tokens_at (drop c.loop-word.at argument_kinds) ws)) c.in_default.ensures.words ∙ words_end items argument_kinds c.loop-word.at (sym c.in-None.ensures))
    ∙ c.loop-word.invariant.all
