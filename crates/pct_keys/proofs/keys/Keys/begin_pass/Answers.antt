use Rattle.pct_names.proofs.Names.{◌<◌, get_or_read, length}
use Rattle.pct_keys.specs.Tables.{no_row}
use Rattle.pct_keys.proofs.SoundTables.{IsSound-row, FitsRow-with_pass}
use Rattle.pct_keys.proofs.keys.Keys.begin_pass.Goals as goal

pub invariant_of-self : goal.invariant_of-self
invariant_of-self c =
    let inside : c.args.slot < length c.self.inside.rows.items = rw (← c.self.view_is) at c.requires in
    rw (c.begin_pass.ensures, get_or_read c.self.inside.rows.items c.args.slot c.index_mut.result.now inside c.index_mut.ensures.value no_row)
    (IsSound-row _ c.self.invariant.0 c.args.slot _ (FitsRow-with_pass _ c.self.invariant.0 c.args.slot inside), c.self.invariant.1, c.self.invariant.2)
