use Rattle.pct_names.proofs.Names.{ap, List, Numbered, Ok, sym, ℕ, ◌∙◌}
use Rattle.pct_expect.specs.declared.rule.Rule.{Rule}
use Rattle.pct_expect.specs.Reading.{rules_in}
use Rattle.pct_expect.proofs.LinesRead.{fault_at, text_accepted, text_read, text_refused}
use Rattle.pct_expect.proofs.reader.read_expect.Goals as goal

pub returns-in-Some-clause-read : goal.returns-in-Some-clause-read
returns-in-Some-clause-read c = text_refused c.args.text.now (fault_at c.in-Some.line c.in-Some.why) (sym c.in-Some.ensures)

pub returns-in_err-rules-clause-memory : goal.returns-in_err-rules-clause-memory
returns-in_err-rules-clause-memory c = λ _. text_accepted c.args.text.now (sym c.in_default.ensures)

pub returns-clause-read : goal.returns-clause-read
returns-clause-read c =
    text_read c.args.text.now (sym c.in_default.ensures)
    ∙ ap (λ (ls : List (Numbered (List ℕ))). Ok (rules_in ls)) (sym c.of.ensures)
    ∙ ap (λ (rules : List Rule). Ok rules) (sym (c.of-2.ensures ∙ c.in_ok-rules.ensures))
