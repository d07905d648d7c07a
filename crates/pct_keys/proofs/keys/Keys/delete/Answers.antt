use Rattle.pct_names.proofs.Names.{arith, length, take_at, with_items_is, ◌≡◌}
use Rattle.pct_keys.proofs.SoundTables.{IsSound-without, deleted_at}
use Rattle.pct_keys.proofs.keys.Keys.delete.Goals as goal

pub invariant_of-self : goal.invariant_of-self
invariant_of-self c =
    let long : length c.clear_place.new.rows ≡ c.self.inside.rows.len = omega (arith, c.clear_place.auto.rows, c.deref_mut.ensures.len) in
    rw (take_at c.clear_place.new.rows _ c.self.inside.rows.len long, c.without_key-here.ensures, ← c.index-self-place.is, c.clear_place.ensures, c.deref_mut.ensures.value)
    (IsSound-without _ c.args.place c.index-self-place.result.made c.self.invariant.0, c.self.invariant.1, c.self.invariant.2)

pub returns : goal.returns
returns c =
    let long : length c.clear_place.new.rows ≡ c.self.inside.rows.len = omega (arith, c.clear_place.auto.rows, c.deref_mut.ensures.len) in
    rw (with_items_is c.self.inside.rows c.clear_place.new.rows long, c.without_key-here.ensures, ← c.index-self-place.is, ← c.self.view_is)
    (deleted_at _ c.args.place c.index-self-place.result (omega (arith, c.self.invariant.0.places)) c.index-self-place.is c.clear_place.new.rows (rw c.deref_mut.ensures.value at c.clear_place.ensures))
