-- The answers for `top`.
use Rattle.std.proofs.Common.{sym, ap}
use Rattle.pct_audit.specs.Stacks.{newest}
use Rattle.pct_audit.proofs.StackFacts.{none_at, node_at}
use Rattle.pct_audit.proofs.stacks.Stacks.top.Goals as goal

pub returns-then-stack-eq0 : goal.returns-then-stack-eq0
returns-then-stack-eq0 c = ap newest (sym (none_at c.args.self.now c.self.inside.nodes.items c.self.view_is c.self.invariant c.args.stack c.if-stack-eq0.true))

pub returns-else-stack-eq0 : goal.returns-else-stack-eq0
returns-else-stack-eq0 c = ap newest (sym (node_at c.args.self.now c.self.inside.nodes.items c.self.view_is c.self.invariant c.args.stack c.index-node.result.now c.if-stack-eq0.false c.requires c.index-node.ensures))
