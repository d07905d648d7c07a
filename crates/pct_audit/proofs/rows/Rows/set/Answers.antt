-- The answer for `set`.
use Rattle.std.proofs.Common.{◌≡◌, refl, nat_eq, ◌&&◌, Bool, true, false, cond, Option, Some}
use Rattle.std.specs.Prelude.{unwrap_or}
use Rattle.pct_audit.specs.declared.rows.Row.{Row}
use Rattle.std.specs.BTreeMap.{get}
use Rattle.std.specs.Ordering.{nat_cmp, ordering_then}
use Rattle.pct_audit.specs.Rows.{no_events_row}
use Rattle.pct_audit.proofs.PairKeys.{pairs_compare}
use Rattle.pct_audit.proofs.rows.Rows.set.Goals as goal

chosen : (t : Bool) (row none : Row) (old : Option Row) → unwrap_or (cond t (Some row) old) none ≡ cond t row (unwrap_or old none)
chosen true row none old = refl
chosen false row none old = refl

pub returns : goal.returns
returns c = λ p t. rw (c.in_ok-insert.ensures.updates.0 (p, t), pairs_compare c.args.pid p c.args.tid t) (chosen (nat_eq c.args.pid p && nat_eq c.args.tid t) c.args.row (no_events_row p t) (get (λ x y. ordering_then (nat_cmp x.0 y.0) (nat_cmp x.1 y.1)) c.args.self.now.map (p, t)))
