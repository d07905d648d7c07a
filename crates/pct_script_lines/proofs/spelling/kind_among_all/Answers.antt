use Rattle.pct_names.proofs.Names.{◌∙◌}
use Rattle.pct_script_lines.proofs.Keywords.{kind_of_another}
use Rattle.pct_script_lines.proofs.spelling.kind_among_all.Goals as goal

pub returns-in-None : goal.returns-in-None
returns-in-None c = c.line_kind_with.ensures ∙ kind_of_another c.args.word.now c.in-None.ensures
