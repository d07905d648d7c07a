use Rattle.pct_command.proofs.Outcomes.{sample-answer}
use Rattle.pct_command.proofs.sample_command.sample_script.Goals as goal

pub returns : goal.returns
returns g c = λ words input asked has.
    sample-answer words input c.args.seeds c.args.script.now c.in_ok-tally.tally asked has
    (rw (c.up_to.ensures, c.from.ensures) at c.in_ok-tally.ensures.tally) (rw (c.up_to.ensures, c.from.ensures) at c.in_ok-tally.ensures.first)
