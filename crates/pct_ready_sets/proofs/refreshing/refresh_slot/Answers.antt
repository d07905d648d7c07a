use Rattle.pct_names.proofs.Names.{ap, has_timeouts, subst, sym}
use Rattle.pct_transitions.specs.ProcessSteps.{with_data}
use Rattle.pct_ready_sets.specs.ReadyConditions.{Follows}
use Rattle.pct_ready_sets.specs.ReadyGroups.{ReadyValue}
use Rattle.pct_ready_sets.proofs.FollowingSets.{put_follows}
use Rattle.pct_ready_sets.proofs.refreshing.refresh_slot.Goals as goal

pub returns-clause-follows : goal.returns-clause-follows
returns-clause-follows c =
    let script = c.args.program.now.script in
    let timeouts = has_timeouts c.args.program.now.config.format in
    let p = with_data c.args.process.now in
    subst (Follows script timeouts p) (sym c.put.ensures)
    (put_follows script timeouts p c.args.sets.now c.args.slot c.condition_of-condition.result c.stale-stale.ensures.all c.requires.slot c.condition_of-condition.ensures c.requires.follows)

pub returns-clause-stale : goal.returns-clause-stale
returns-clause-stale c = ap (λ (v : ReadyValue). v.stale) c.put.ensures
