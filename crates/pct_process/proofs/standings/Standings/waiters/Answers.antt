use Rattle.pct_names.proofs.Names.{◌∙◌, ap, nat_eq, ℕ}
use Rattle.pct_set.specs.Slots.{slots_where}
use Rattle.pct_set.specs.Keyed.{key_at}
use Rattle.pct_process.specs.Standings.{waits_on, cond_key, index_key}
use Rattle.pct_process.proofs.StandingReads.{exactly, looked_through, cond_exact, cond_covers}
use Rattle.pct_process.proofs.standings.Standings.waiters.Goals as goal

pub returns-then-cond-lt32 : goal.returns-then-cond-lt32
returns-then-cond-lt32 c =
    let s = c.self.inside in
    c.with_key-candidates.ensures
    ∙ ap (λ (n : ℕ). slots_where (λ k. nat_eq (key_at s.by_cond k) n)) c.index_key.ensures.value
    ∙ exactly s.of c.self.invariant.all s.unfinished c.args.self.now c.self.view_is cond_key s.by_cond c.self.invariant.conds (waits_on c.args.cond) (index_key c.args.cond) (cond_exact c.args.cond c.if-cond-lt32.true)

pub returns-else-cond-lt32 : goal.returns-else-cond-lt32
returns-else-cond-lt32 c =
    let s = c.self.inside in
    c.among.ensures
    ∙ looked_through s.of c.self.invariant.all s.unfinished c.args.self.now c.self.view_is cond_key s.by_cond c.self.invariant.conds (waits_on c.args.cond) (index_key c.args.cond) (cond_covers c.args.cond) c.with_key-candidates.result
    (c.with_key-candidates.ensures ∙ ap (λ (n : ℕ). slots_where (λ k. nat_eq (key_at s.by_cond k) n)) c.index_key.ensures.value)
