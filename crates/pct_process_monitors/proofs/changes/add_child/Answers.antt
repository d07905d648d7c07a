-- The answer for `add_child`.
use Rattle.std.proofs.Common.{◌≡◌, ℕ, Bool, true, false, ◌&&◌, ◌||◌, cond, refl, sym, ap, ◌∙◌, nat_eq}
use Rattle.std.specs.Cmp.{both_tied, unsigned_tied}
use Rattle.std.specs.Ordering.{is_eq, nat_cmp, ordering_then}
use Rattle.pct_laws.specs.KnownThreads.{makes_process}
use Rattle.pct_process_monitors.specs.ProcessSets.{has_child}
use Rattle.pct_process_monitors.proofs.changes.add_child.Goals as goal

either : (a b : Bool) → cond a true b ≡ (a || b)
either true b = refl
either false b = refl

pairs_tied : (a b c d : ℕ) → is_eq (ordering_then (nat_cmp a b) (nat_cmp c d)) ≡ (nat_eq a b && nat_eq c d)
pairs_tied a b c d = sym (both_tied (nat_eq a b) (nat_eq c d) (nat_cmp a b) (nat_cmp c d) (sym (unsigned_tied a b)) (sym (unsigned_tied c d)))

pub returns-in_ok-insert-in-Forked : goal.returns-in_ok-insert-in-Forked
returns-in_ok-insert-in-Forked c = λ p q.
    let old = has_child c.args.children.now p q in
    c.in_ok-insert-in-Forked.ensures.updates.0 (p, q) ∙ ap (λ same. cond same true old) (pairs_tied c.args.event.pid p c.in-Forked.child q)
    ∙ either (nat_eq c.args.event.pid p && nat_eq c.in-Forked.child q) old ∙ ap (λ w. (nat_eq c.args.event.pid p && makes_process q w) || old) (sym c.in-Forked.is)
