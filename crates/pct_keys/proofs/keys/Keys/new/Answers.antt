use Rattle.pct_names.proofs.Names.{arith}
use Rattle.pct_keys.proofs.SoundTables.{IsSound-new}
use Rattle.pct_keys.proofs.keys.Keys.new.Goals as goal

pub invariant_of-result : goal.invariant_of-result
invariant_of-result c = rw (c.no_keys.ensures, c.loop.invariant.made) (IsSound-new c.loop.counter, omega (arith, c.loop.invariant.long, c.requires), c.loop.invariant.room)
