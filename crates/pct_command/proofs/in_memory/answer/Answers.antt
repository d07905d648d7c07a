use Rattle.pct_names.proofs.Names.{map, string_bytes}
use Rattle.pct_command.proofs.CompleteOutcomes.{valid_below_five, valid_is_audited, valid_is_judged}
use Rattle.pct_command.proofs.in_memory.answer.Goals as goal

pub returns-in_default-Ok-clause-complete : goal.returns-in_default-Ok-clause-complete
returns-in_default-Ok-clause-complete g c = λ accepted valid.
    let given = c.in_ok-answer.ensures in
    rw c.give_answer.ensures.status (valid_below_five (map string_bytes c.args.words.now) c.args.input.now given.schedule _ _ accepted valid given.is_outcome)

pub returns-in_default-Ok-clause-judged : goal.returns-in_default-Ok-clause-judged
returns-in_default-Ok-clause-judged g c = λ asked parts.
    let given = c.in_ok-answer.ensures in
    rw c.give_answer.ensures.status (valid_is_judged (map string_bytes c.args.words.now) c.args.input.now given.schedule _ _ asked parts given.is_outcome)

pub returns-in_default-Ok-clause-audited : goal.returns-in_default-Ok-clause-audited
returns-in_default-Ok-clause-audited g c = λ asked report.
    let given = c.in_ok-answer.ensures in
    rw c.give_answer.ensures.status (valid_is_audited (map string_bytes c.args.words.now) c.args.input.now given.schedule _ _ asked report given.is_outcome)
