use Rattle.pct_names.proofs.Names.{◌%◌, ◌∙◌}
use Rattle.pct_process.specs.Standings.{joins, target_key}
use Rattle.pct_process.proofs.StandingReads.{looked_through, target_covers}
use Rattle.pct_process.proofs.standings.Standings.joiners.Goals as goal

pub returns-clause-value : goal.returns-clause-value
returns-clause-value c =
    let s = c.self.inside in
    c.among.ensures
    ∙ looked_through s.of c.self.invariant.all s.unfinished c.args.self.now c.self.view_is target_key s.by_target c.self.invariant.targets (joins c.args.id) (c.args.id % 64) (target_covers c.args.id) c.with_key.result c.with_key.ensures
