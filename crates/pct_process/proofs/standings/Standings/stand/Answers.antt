use Rattle.pct_process.proofs.StandingReads.{indexed_put}
use Rattle.pct_process.proofs.standings.Standings.stand.Goals as goal

pub invariant_of-self : goal.invariant_of-self
invariant_of-self c =
    let s = c.self.inside in
    rw (c.put.ensures, c.put-2.ensures, c.put-3.ensures, c.cond_key.ensures.value, c.mutex_key.ensures.value, c.target_key.ensures.value)
    (indexed_put s.of s.by_cond s.by_mutex s.by_target c.self.invariant c.args.slot c.args.standing)
