use Rattle.pct_names.proofs.Names.{ap, are_in_functions, arith, length, list_all, parsed_lines, same_Some, sym, ◌∙◌}
use Rattle.pct_script_lines.specs.SectionSteps.{is_ready}
use Rattle.pct_script.proofs.CheckOrder.{is_checked}
use Rattle.pct_script_lines.proofs.LimitsMakeReady.{few_lines}
use Rattle.pct_script.proofs.EmptyTexts.{spelled_unless}
use Rattle.pct_script.proofs.parser.read_checked.Goals as goal

pub read_lines-requires-clause-few : goal.read_lines-requires-clause-few
read_lines-requires-clause-few c = omega (arith, few_lines c.args.text.now, ap length (c.deref.ensures.value ∙ sym (same_Some (parsed_lines c.args.text.now) c.in_ok-lines.lines.items c.in_ok-lines.ensures.parsed.1)), c.requires)

pub read_lines-requires-clause-in_functions : goal.read_lines-requires-clause-in_functions
read_lines-requires-clause-in_functions c = ap are_in_functions (c.deref.ensures.value ∙ sym (same_Some (parsed_lines c.args.text.now) c.in_ok-lines.lines.items c.in_ok-lines.ensures.parsed.1)) ∙ (is_checked c.args.text.now c.in_ok-lines.ensures.parsed.0).in_functions

pub read_lines-requires-clause-ready : goal.read_lines-requires-clause-ready
read_lines-requires-clause-ready c = ap (list_all is_ready) (c.deref.ensures.value ∙ sym (same_Some (parsed_lines c.args.text.now) c.in_ok-lines.lines.items c.in_ok-lines.ensures.parsed.1)) ∙ (is_checked c.args.text.now c.in_ok-lines.ensures.parsed.0).ready

pub returns-clause-memory : goal.returns-clause-memory
returns-clause-memory c = spelled_unless c.args.text.now c.read_lines.result c.in_ok-lines.ensures.parsed.0
