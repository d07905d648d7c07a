use Rattle.pct_set.proofs.KeyedSlots.{keyed_moved}
use Rattle.pct_set.proofs.keyed_sets.KeyedSets.put.Goals as goal

pub invariant_of-self : goal.invariant_of-self
invariant_of-self c =
    let s = c.self.inside in
    rw (c.put_in.ensures, c.take_out.ensures) (keyed_moved s.keys s.sets c.self.invariant c.args.slot c.args.key c.requires.slot c.requires.key)
