-- The answers for `depth`.
use Rattle.std.proofs.Common.{length, sym, ap}
use Rattle.pct_audit.proofs.StackFacts.{none_at, depth_at, few_at}
use Rattle.pct_audit.proofs.stacks.Stacks.depth.Goals as goal

pub returns-then-stack-eq0-clause-depth : goal.returns-then-stack-eq0-clause-depth
returns-then-stack-eq0-clause-depth c = ap length (sym (none_at c.args.self.now c.self.inside.nodes.items c.self.view_is c.self.invariant c.args.stack c.if-stack-eq0.true))

pub returns-else-stack-eq0-clause-depth : goal.returns-else-stack-eq0-clause-depth
returns-else-stack-eq0-clause-depth c = depth_at c.args.self.now c.self.inside.nodes.items c.self.view_is c.self.invariant c.args.stack c.index.result.now c.if-stack-eq0.false c.requires c.index.ensures

pub returns-else-stack-eq0-clause-few : goal.returns-else-stack-eq0-clause-few
returns-else-stack-eq0-clause-few c = few_at c.args.self.now c.self.inside.nodes.items c.self.view_is c.self.invariant c.args.stack c.index.result.now c.if-stack-eq0.false c.requires c.index.ensures
