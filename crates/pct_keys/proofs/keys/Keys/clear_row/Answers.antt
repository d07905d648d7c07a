use Rattle.pct_keys.proofs.SoundTables.{IsSound-row, FitsRow-no_values}
use Rattle.pct_keys.proofs.keys.Keys.clear_row.Goals as goal

pub invariant_of-self : goal.invariant_of-self
invariant_of-self c = rw c.clear_all.ensures (IsSound-row _ c.self.invariant.0 c.args.slot _ (FitsRow-no_values c.self.inside.places), c.self.invariant.1, c.self.invariant.2)
