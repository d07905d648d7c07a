use Rattle.pct_names.proofs.Names.{sym, ◌∙◌}
use Rattle.pct_jumps.proofs.JumpTableFacts.{opening_is, opens_earlier, opens_unless_last}
use Rattle.pct_jumps.proofs.jump_table.Jumps.open_of.Goals as goal

pub returns-clause-opening : goal.returns-clause-opening
returns-clause-opening c = λ script made. sym (opening_is _ script c.args.func c.args.pc made) ∙ sym c.opening.ensures

pub returns-clause-before : goal.returns-clause-before
returns-clause-before c = λ script made. opens_earlier script c.args.func c.args.pc _ (sym (opening_is _ script c.args.func c.args.pc made) ∙ sym c.opening.ensures)

pub returns-clause-last : goal.returns-clause-last
returns-clause-last c = λ script made end. opens_unless_last script c.args.func c.args.pc _ (sym (opening_is _ script c.args.func c.args.pc made) ∙ sym c.opening.ensures) end
