-- The answers for `below`.
use Rattle.std.proofs.Common.{refl, sym, ap, ◌∙◌, arith}
use Rattle.pct_model.specs.Actions.{without_first}
use Rattle.pct_audit.proofs.StackFacts.{none_at, node_at, low_at}
use Rattle.pct_audit.proofs.stacks.Stacks.below.Goals as goal

pub returns-then-stack-eq0-clause-stack : goal.returns-then-stack-eq0-clause-stack
returns-then-stack-eq0-clause-stack c =
    let none = none_at c.args.self.now c.self.inside.nodes.items c.self.view_is c.self.invariant in
    none 0 refl ∙ ap without_first (sym (none c.args.stack c.if-stack-eq0.true))

pub returns-else-stack-eq0-clause-number : goal.returns-else-stack-eq0-clause-number
returns-else-stack-eq0-clause-number c =
    omega (arith, c.requires, low_at c.args.self.now c.self.inside.nodes.items c.self.view_is c.self.invariant c.args.stack c.index.result.now c.if-stack-eq0.false c.requires c.index.ensures)

pub returns-else-stack-eq0-clause-stack : goal.returns-else-stack-eq0-clause-stack
returns-else-stack-eq0-clause-stack c =
    ap without_first (sym (node_at c.args.self.now c.self.inside.nodes.items c.self.view_is c.self.invariant c.args.stack c.index.result.now c.if-stack-eq0.false c.requires c.index.ensures))
