-- The answer for `give_up`.
use Rattle.pct_audit.proofs.GivenUp.{given_up_told, if_ok}
use Rattle.pct_audit.proofs.controls.Controls.give_up.Goals as goal

pub returns : goal.returns
returns c =
    if_ok c.set.result (given_up_told c.args.self.now.states.items c.args.self.now.indexes c.args.self.now.ends c.set.new.self c.args.pid c.args.tid c.args.self.now.kept c.in_ok-count.count c.in_ok-count.ensures) c.set.ensures.ok
