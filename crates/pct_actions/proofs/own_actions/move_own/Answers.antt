use Rattle.pct_names.proofs.Names.{◌∙◌}
use Rattle.pct_actions.proofs.OwnChanges.{own_parts, room_of_record}
use Rattle.pct_actions.proofs.Stands.{not_reclaimed, stand_framed}
use Rattle.pct_actions.proofs.own_actions.move_own.Goals as goal

pub move_record-requires-clause-fits : goal.move_record-requires-clause-fits
move_record-requires-clause-fits g c = room_of_record c.args.slot c.args.transition.now.own c.args.threads.now c.requires.occupied c.requires.fits _ c.move_frames.new.threads c.move_frames.ensures

pub returns-in-None-clause-table : goal.returns-in-None-clause-table
returns-in-None-clause-table g c =
    let recorded = c.move_record.new.threads in
    own_parts c.args.slot c.args.transition.now c.args.threads.now c.move_frames.new.threads recorded recorded c.move_frames.ensures c.move_record.ensures.table (not_reclaimed c.args.slot recorded c.in-None.ensures.stand.1)

pub returns-in-None-clause-stand : goal.returns-in-None-clause-stand
returns-in-None-clause-stand g c = (c.in-None.ensures.stand.0 ∙ stand_framed c.args.slot _ c.args.threads.now c.move_frames.new.threads c.requires.occupied c.move_frames.ensures, c.in-None.ensures.stand.1)

pub returns-in-Some-clause-table : goal.returns-in-Some-clause-table
returns-in-Some-clause-table g c = own_parts c.args.slot c.args.transition.now c.args.threads.now c.move_frames.new.threads c.move_record.new.threads c.settle.new.threads c.move_frames.ensures c.move_record.ensures.table c.settle.ensures.table
