use Rattle.pct_names.proofs.Names.{ap, is_some, sym, ◌∙◌}
use Rattle.std.proofs.lemmas.Bool.{true≢false}
use Rattle.pct_jumps.proofs.JumpTableFacts.{closing_is, is_closed_in, closes_inside}
use Rattle.pct_jumps.proofs.jump_table.Jumps.close_of.Goals as goal

pub unreachable-requires : goal.unreachable-requires
unreachable-requires c = true≢false (sym (is_closed_in c.args.self.now c.args.func c.args.pc c.requires) ∙ ap is_some (sym c.closing.ensures ∙ c.in-None.is))

pub returns-clause-close : goal.returns-clause-close
returns-clause-close c = λ script made. sym (closing_is c.args.self.now script c.args.func c.args.pc made) ∙ sym c.closing.ensures ∙ c.in-Some.is

pub returns-clause-within : goal.returns-clause-within
returns-clause-within c = λ script made. closes_inside script c.args.func c.args.pc _ (sym (closing_is c.args.self.now script c.args.func c.args.pc made) ∙ sym c.closing.ensures ∙ c.in-Some.is)
