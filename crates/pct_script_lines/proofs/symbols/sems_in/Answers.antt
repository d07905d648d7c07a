use Rattle.pct_names.proofs.Names.{nil_from_length, ◌∙◌}
use Rattle.pct_script_lines.proofs.DeclaredByLines.{sems_go_on, sems_end}
use Rattle.pct_script_lines.proofs.symbols.sems_in.Goals as goal

pub loop-line-preserved : goal.loop-line-preserved
loop-line-preserved c =
    sems_go_on c.loop-line.sems.items c.keep_sem.new.sems.items c.in-Some.line.now c.in-Some.after.now c.loop-line.rest.now _ c.in-Some.ensures.cases.0 c.in_ok-keep_sem.ensures c.loop-line.invariant

pub returns : goal.returns
returns c = c.of.ensures ∙ sems_end c.loop-line.sems.items c.loop-line.rest.now _ (nil_from_length c.loop-line.rest.now c.in_default.ensures.cases) c.loop-line.invariant
