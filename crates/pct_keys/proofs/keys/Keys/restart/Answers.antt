use Rattle.pct_names.proofs.Names.{arith}
use Rattle.pct_keys.proofs.SoundTables.{IsSound-new}
use Rattle.pct_keys.proofs.keys.Keys.restart.Goals as goal

pub invariant_of-self : goal.invariant_of-self
invariant_of-self c =
    rw (c.no_keys-self-inside.ensures, c.new_rows.ensures.rows)
    (IsSound-new c.args.slots, omega (arith, c.new_rows.ensures.count, c.requires), omega (arith, c.new_rows.ensures.room, c.self.invariant.2))
