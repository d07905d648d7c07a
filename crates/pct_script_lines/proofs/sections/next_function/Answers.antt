use Rattle.pct_names.proofs.Names.{ap, functions_in, sym, ◌∙◌}
use Rattle.pct_script_lines.proofs.FunctionSteps.{no_functions}
use Rattle.pct_script_lines.proofs.sections.next_function.Goals as goal

pub returns-clause-section : goal.returns-clause-section
returns-clause-section c = sym c.loop-header.invariant.functions ∙ ap functions_in c.in_default.ensures.section ∙ no_functions
