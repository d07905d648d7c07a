use Rattle.pct_names.proofs.Names.{[], refl, sym, words_in, ◌∙◌, ◌∷◌}
use Rattle.pct_expect.proofs.RulesRead.{line_allowed, line_refused, rule_of_none}
use Rattle.pct_expect.proofs.parsing.parts_of.Goals as goal

pub returns-then-not-are_allowed : goal.returns-then-not-are_allowed
returns-then-not-are_allowed c = λ n. sym (line_refused n c.args.line.now (sym c.if-not-are_allowed.ensures))

pub returns-in_err-word : goal.returns-in_err-word
returns-in_err-word c = λ n.
    let none = line_allowed n c.args.line.now [] (sym c.if-not-are_allowed.ensures) c.in_err-word.ensures.words ∙ rule_of_none n [] refl in
    rw c.from_residual.ensures (sym none)

pub returns : goal.returns
returns c = λ n.
    let words = c.in_ok-word.word.now ∷ words_in c.in_ok-word.rest.now in
    c.parts_after.ensures n ∙ sym (line_allowed n c.args.line.now words (sym c.if-not-are_allowed.ensures) c.in_ok-word.ensures.words)
