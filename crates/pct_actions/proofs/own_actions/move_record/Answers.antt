use Rattle.pct_actions.proofs.OwnChanges.{still_ended}
use Rattle.pct_actions.proofs.Stands.{told_recorded}
use Rattle.pct_actions.proofs.own_actions.move_record.Goals as goal

pub returns-clause-stand : goal.returns-clause-stand
returns-clause-stand g c = told_recorded c.args.slot c.write-thread.result.now c.change_record.new.thread c.args.threads.now c.is_running-ran.result c.stand_after.result c.requires.occupied c.write-thread.ensures.value c.is_running-ran.ensures (still_ended c.args.transition.now c.write-thread.result.now c.change_record.new.thread c.change_record.ensures) c.stand_after.ensures.none c.stand_after.ensures.some
