use Rattle.pct_names.proofs.Names.{◌<◌, arith, get_or_read, length}
use Rattle.pct_keys.specs.Tables.{no_row}
use Rattle.pct_keys.proofs.SoundTables.{IsSound-row, IsSound-no_rows, FitsRow-without_pass}
use Rattle.pct_keys.proofs.keys.Keys.copy_from.Goals as goal

pub invariant_of-self : goal.invariant_of-self
invariant_of-self c =
    let inside : c.args.slot < length c.other.inside.rows.items = rw (← c.other.view_is) at c.requires in
    rw (c.new_rows.ensures.rows, c.values_alone-row.ensures, get_or_read c.other.inside.rows.items c.args.slot c.index.result.now inside c.index.ensures no_row)
    (IsSound-row _ (IsSound-no_rows _ c.other.invariant.0 _) c.args.slot _ (FitsRow-without_pass _ c.other.invariant.0 c.args.slot inside), omega (arith, c.new_rows.ensures.count, c.len.ensures, c.other.invariant.1), omega (arith, c.new_rows.ensures.room, c.self.invariant.2))
