-- The answers for `set`.
use Rattle.std.proofs.Common.{Bool, true, false, ◌&&◌, cond, sym, ap, ◌∙◌, nat_eq}
use Rattle.pct_holders.specs.Holds.{holds}
use Rattle.pct_holders.proofs.HolderOrder.{is_eq-holder_cmp}
use Rattle.pct_holders.proofs.holders.Holders.set.Goals as goal

pub returns-in_ok-insert-clause-ok : goal.returns-in_ok-insert-clause-ok
returns-in_ok-insert-clause-ok c = λ p s t.
    c.in_ok-insert.ensures.updates.0 ((p, s), t)
    ∙ ap (λ (same : Bool). cond same true (holds c.args.self.now p s t)) (is_eq-holder_cmp ((c.args.pid, c.args.slot), c.args.tid) ((p, s), t))
    ∙ ap (λ b. cond ((nat_eq c.args.pid p && nat_eq c.args.slot s) && nat_eq c.args.tid t) b (holds c.args.self.now p s t)) (sym c.if-is_holder.true)

pub returns-else-is_holder-clause-ok : goal.returns-else-is_holder-clause-ok
returns-else-is_holder-clause-ok c = λ p s t.
    c.remove.ensures.updates.0 ((p, s), t)
    ∙ ap (λ (same : Bool). cond same false (holds c.args.self.now p s t)) (is_eq-holder_cmp ((c.args.pid, c.args.slot), c.args.tid) ((p, s), t))
    ∙ ap (λ b. cond ((nat_eq c.args.pid p && nat_eq c.args.slot s) && nat_eq c.args.tid t) b (holds c.args.self.now p s t)) (sym c.if-is_holder.false)
