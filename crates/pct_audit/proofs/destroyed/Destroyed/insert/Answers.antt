-- The answer for `insert`.
use Rattle.std.proofs.Common.{◌≡◌, Bool, true, false, ◌&&◌, ◌||◌, cond, refl, nat_eq}
use Rattle.pct_audit.specs.DestroyedKeys.{is_destroyed}
use Rattle.pct_audit.proofs.PairKeys.{two_pairs_compare}
use Rattle.pct_audit.proofs.destroyed.Destroyed.insert.Goals as goal

either : (a b : Bool) → cond a true b ≡ (a || b)
either true b = refl
either false b = refl

pub returns : goal.returns
returns c = λ p t q k.
    rw (c.in_ok-insert.ensures.updates.0 ((p, t), (q, k)), two_pairs_compare c.args.pid p c.args.tid t c.args.pass q c.args.key k)
    (either ((nat_eq c.args.pid p && nat_eq c.args.tid t) && (nat_eq c.args.pass q && nat_eq c.args.key k)) (is_destroyed c.args.self.now p t q k))
