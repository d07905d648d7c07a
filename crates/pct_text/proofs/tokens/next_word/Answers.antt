use Rattle.pct_names.proofs.Names.{ap, length, sym, unwrap_or, ◌∙◌}
use Rattle.pct_text.proofs.WordsIn.{no_word, found_word, fewer_after}
use Rattle.pct_text.proofs.tokens.next_word.Goals as goal

pub returns-in_err-start-clause-words : goal.returns-in_err-start-clause-words
returns-in_err-start-clause-words c = rw c.from_residual.ensures (no_word c.args.bytes.now (sym c.in_err-start.ensures))

pub returns-clause-words : goal.returns-clause-words
returns-clause-words c =
    let rest = c.split_at.result.1.now in
    let end = c.unwrap_or.ensures ∙ ap (λ index. unwrap_or index (length rest)) c.word_end.ensures in
    found_word c.args.bytes.now rest c.split_at-2.result.0.now c.split_at-2.result.1.now c.in_ok-start.start c.unwrap_or.result
    (sym c.in_ok-start.ensures) c.split_at.ensures.back end c.split_at-2.ensures.front c.split_at-2.ensures.back

pub returns-clause-shorter : goal.returns-clause-shorter
returns-clause-shorter c =
    let rest = c.split_at.result.1.now in
    let end = c.unwrap_or.ensures ∙ ap (λ index. unwrap_or index (length rest)) c.word_end.ensures in
    fewer_after c.args.bytes.now rest c.split_at-2.result.1.now c.in_ok-start.start c.unwrap_or.result
    (sym c.in_ok-start.ensures) c.split_at.ensures.back end c.split_at-2.ensures.back
