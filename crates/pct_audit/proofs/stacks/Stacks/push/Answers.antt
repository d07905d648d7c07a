-- The answers for `push`.
use Rattle.std.proofs.Common.{◌+◌, ◌≤◌, [], ◌∷◌, ◌++◌, length, sym, ap, ◌∙◌, arith}
use Rattle.pct_audit.specs.Stacks.{stack_at}
use Rattle.pct_audit.specs.StackNodes.{stacks_of}
use Rattle.pct_audit.proofs.StackFacts.{stacks-push, nodes-push}
use Rattle.pct_audit.proofs.stacks.Stacks.push.Goals as goal

pub invariant_of-self-2 : goal.invariant_of-self-2
invariant_of-self-2 c =
    let nodes = c.self.inside.nodes.items in
    let within : c.args.stack ≤ length nodes = omega (arith, c.requires, ap length c.self.view_is, c.self.invariant.count) in
    rw c.in_ok-push.ensures.items
    (nodes-push nodes _ within (ap (λ n. n + 1) c.depth-depth.ensures.depth ∙ ap (λ stacks. length (stack_at stacks c.args.stack) + 1) (sym c.self.view_is)) (omega (arith, c.depth-depth.ensures.few, within)) c.self.invariant)

pub returns-clause-ok : goal.returns-clause-ok
returns-clause-ok c =
    ap stacks_of c.in_ok-push.ensures.items ∙ stacks-push c.self.inside.nodes.items _
    ∙ ap (λ stacks. stacks ++ ((c.args.f, c.args.a) ∷ stack_at stacks c.args.stack) ∷ []) c.self.view_is
