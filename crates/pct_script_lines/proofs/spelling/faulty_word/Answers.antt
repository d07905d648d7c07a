use Rattle.pct_names.proofs.Names.{ap, arith, drop, false, faulty_word, is_some, List, not, Option, Some, sym, syntax_of, Token, token_at}
use Rattle.pct_names.proofs.Names.{true, words_in, ℕ, ◌∙◌, ◌≡◌}
use Rattle.pct_script_lines.proofs.FaultyWords.{faulty_word-nil, fault_after, fault_here, no_argument_kind}
use Rattle.pct_script_lines.proofs.spelling.faulty_word.Goals as goal

pub returns-in_err-argument_kind : goal.returns-in_err-argument_kind
returns-in_err-argument_kind c =
    let argument_kinds = (syntax_of c.args.line_kind).argument_kinds c.args.words in
    c.from_residual.ensures ∙ sym (no_argument_kind argument_kinds c.loop-word.at (words_in c.loop-word.rest.now) (sym c.in_err-argument_kind.ensures)) ∙ c.loop-word.invariant.fault

pub returns-then-is_none : goal.returns-then-is_none
returns-then-is_none c =
    let argument_kinds = (syntax_of c.args.line_kind).argument_kinds c.args.words in
    let fails : is_some (token_at c.in_ok-argument_kind.argument_kind c.in-Some.word.now) ≡ false = ap (λ (o : Option Token). is_some o) (sym c.token_at.ensures) ∙ c.is_none.ensures ∙ ap not c.if-is_none.true in
    ap Some c.why_not.ensures
    ∙ sym (fault_here argument_kinds c.loop-word.at c.in_ok-argument_kind.argument_kind c.in-Some.word.now (words_in c.in-Some.after.now) (sym c.in_ok-argument_kind.ensures) fails)
    ∙ sym (ap (λ (words : List (List ℕ)). faulty_word (drop c.loop-word.at argument_kinds) words) c.in-Some.ensures.words)
    ∙ c.loop-word.invariant.fault

pub loop-word-preserved : goal.loop-word-preserved
loop-word-preserved c =
    let argument_kinds = (syntax_of c.args.line_kind).argument_kinds c.args.words in
    let fits : is_some (token_at c.in_ok-argument_kind.argument_kind c.in-Some.word.now) ≡ true = ap (λ (o : Option Token). is_some o) (sym c.token_at.ensures) ∙ c.is_none.ensures ∙ ap not c.if-is_none.false in
    record {
      fault =
          fault_after argument_kinds c.loop-word.at c.in_ok-argument_kind.argument_kind c.in-Some.word.now (words_in c.in-Some.after.now) (sym c.in_ok-argument_kind.ensures) fits
          ∙ sym (ap (λ (words : List (List ℕ)). faulty_word (drop c.loop-word.at argument_kinds) words) c.in-Some.ensures.words)
          ∙ c.loop-word.invariant.fault;
      few = omega (arith, c.in-Some.ensures.shorter, c.loop-word.invariant.few);
    }

pub returns : goal.returns
returns c =
    let argument_kinds = (syntax_of c.args.line_kind).argument_kinds c.args.words in
    sym (faulty_word-nil (drop c.loop-word.at argument_kinds))
    ∙ sym (ap (λ (words : List (List ℕ)). faulty_word (drop c.loop-word.at argument_kinds) words) c.in_default.ensures.words)
    ∙ c.loop-word.invariant.fault
