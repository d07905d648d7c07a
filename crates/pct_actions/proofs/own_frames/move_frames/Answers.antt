use Rattle.pct_actions.proofs.OwnChanges.{frames_parts, length-gone, room_left, then_held}
use Rattle.pct_actions.proofs.own_frames.move_frames.Goals as goal

pub act_on_frames-requires-clause-fits : goal.act_on_frames-requires-clause-fits
act_on_frames-requires-clause-fits c =
    let o = c.args.transition.now in
    room_left c.args.slot o.own c.args.threads.now c.requires.occupied c.requires.fits _ c.write_locals.new.threads (length-gone o.next o.writes) (then_held c.args.slot _ _ c.args.threads.now c.go_on.new.threads c.write_locals.new.threads c.go_on.ensures c.write_locals.ensures)

pub returns : goal.returns
returns c = frames_parts c.args.slot c.args.transition.now c.args.threads.now c.go_on.new.threads c.write_locals.new.threads c.act_on_frames.new.threads c.go_on.ensures c.write_locals.ensures c.act_on_frames.ensures
