use Rattle.pct_actions.proofs.OwnChanges.{record_parts, room_gone}
use Rattle.pct_actions.proofs.own_record.change_record.Goals as goal

pub act_on_record-requires : goal.act_on_record-requires
act_on_record-requires c = room_gone c.args.transition.now.next c.args.transition.now.own c.args.thread.now c.go_on.new.thread c.go_on.ensures c.requires

pub returns : goal.returns
returns c = record_parts c.args.transition.now c.args.thread.now c.go_on.new.thread c.go_on.ensures c.act_on_record.new.thread c.act_on_record.ensures
