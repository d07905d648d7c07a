use Rattle.pct_names.proofs.Names.{ap, arith, ◌∙◌}
use Rattle.pct_jumps.specs.JumpTable.{jumps_of}
use Rattle.pct_step_context.specs.Programs.{ProgramValue}
use Rattle.pct_step_context.proofs.Bodies.{few_statements, is_opening}
use Rattle.pct_statements.proofs.script_statements.after_block.Goals as goal

pub close_of-requires : goal.close_of-requires
close_of-requires c =
    let made = c.program.invariant.made ∙ ap (λ (v : ProgramValue). jumps_of v.script.funcs) c.program.view_is in
    rw (c.func.ensures, c.pc.ensures)
    (is_opening c.args.program.now.script c.program.inside.jumps c.args.at.now.frame c.args.at.now.statement.now made c.requires.at c.requires.opens)

pub overflow_add-result : goal.overflow_add-result
overflow_add-result c =
    let made = c.program.invariant.made ∙ ap (λ (v : ProgramValue). jumps_of v.script.funcs) c.program.view_is in
    let few = few_statements c.args.program.now.script c.func.result in
    let within = (c.close_of.ensures.within c.args.program.now.script made).1 in
    omega (arith, few, within)
