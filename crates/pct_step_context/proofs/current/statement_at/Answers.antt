use Rattle.pct_names.proofs.Names.{arith}
use Rattle.pct_jumps.proofs.JumpTableFacts.{few_in}
use Rattle.pct_step_context.proofs.current.statement_at.Goals as goal

pub returns-then-pc-body-clause-pc : goal.returns-then-pc-body-clause-pc
returns-then-pc-body-clause-pc c =
    let found = c.in_ok-func.ensures.lookup in
    let few = few_in c.args.script.now c.as_slice.result.now c.func.result c.in_ok-func.func.now c.as_slice-body.result.now c.as_slice.ensures found.3.0 found.1 c.as_slice-body.ensures in
    omega (arith, few, c.if-pc-body.true)
