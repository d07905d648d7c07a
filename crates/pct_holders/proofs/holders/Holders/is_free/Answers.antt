-- The answers for `is_free`.
use Rattle.std.proofs.Common.{◌≡◌, ◌+◌, ◌<◌, Less, List, length, true, false, sym, ap, subst, arith, is_gt, get_or}
use Rattle.pct_holders.specs.Holds.{Holder, holder_cmp, holds}
use Rattle.pct_holders.proofs.HolderOrder.{after_first, before_next, between}
use Rattle.pct_holders.proofs.holders.Holders.is_free.Goals as goal

pub returns-in-None-clause-free : goal.returns-in-None-clause-free
returns-in-None-clause-free c = λ e tid.
    (c.range.ensures.in_range tt).5 c.in-None.ensures.steps.0 ((c.args.pid, c.args.slot), tid) (after_first c.args.pid c.args.slot tid, before_next c.args.pid c.args.slot tid)

pub returns-in-Some-clause-held : goal.returns-in-Some-clause-held
returns-in-Some-clause-held c = λ e.
    let holder : Holder = c.in-Some.field-0.now in
    let first = (c.range.ensures.in_range tt).0 0 holder (subst (λ (xs : List Holder). 0 < length xs) (sym c.in-Some.ensures.steps) (omega arith)) in
    let at = ap (λ (xs : List Holder). get_or xs 0 holder) c.in-Some.ensures.steps in
    let same = between c.args.pid c.args.slot holder
    (subst (λ (x : Holder). is_gt (holder_cmp ((c.args.pid, c.args.slot), 0) x) ≡ false) at first.0.0)
    (subst (λ (x : Holder). holder_cmp x ((c.args.pid, c.args.slot + 1), 0) ≡ Less) at first.0.1) in
    let read = subst (λ (x : Holder). holds c.args.self.now x.0.0 x.0.1 x.1 ≡ true) at first.1 in
    (holder.1, subst (λ s. holds c.args.self.now c.args.pid s holder.1 ≡ true) (sym same.1) (subst (λ p. holds c.args.self.now p holder.0.1 holder.1 ≡ true) (sym same.0) read))
