use Rattle.pct_names.proofs.Names.{◌∙◌, ap, nat_eq, ℕ}
use Rattle.pct_set.specs.Slots.{slots_where}
use Rattle.pct_set.specs.Keyed.{key_at}
use Rattle.pct_process.specs.Standings.{waits_with, mutex_key, index_key}
use Rattle.pct_process.proofs.StandingReads.{exactly, looked_through, mutex_exact, mutex_covers}
use Rattle.pct_process.proofs.standings.Standings.waiters_with.Goals as goal

pub returns-then-mutex-lt32-clause-value : goal.returns-then-mutex-lt32-clause-value
returns-then-mutex-lt32-clause-value c =
    let s = c.self.inside in
    c.with_key-candidates.ensures
    ∙ ap (λ (n : ℕ). slots_where (λ k. nat_eq (key_at s.by_mutex k) n)) c.index_key.ensures.value
    ∙ exactly s.of c.self.invariant.all s.unfinished c.args.self.now c.self.view_is mutex_key s.by_mutex c.self.invariant.mutexes (waits_with c.args.mutex) (index_key c.args.mutex) (mutex_exact c.args.mutex c.if-mutex-lt32.true)

pub returns-else-mutex-lt32-clause-value : goal.returns-else-mutex-lt32-clause-value
returns-else-mutex-lt32-clause-value c =
    let s = c.self.inside in
    c.among.ensures
    ∙ looked_through s.of c.self.invariant.all s.unfinished c.args.self.now c.self.view_is mutex_key s.by_mutex c.self.invariant.mutexes (waits_with c.args.mutex) (index_key c.args.mutex) (mutex_covers c.args.mutex) c.with_key-candidates.result
    (c.with_key-candidates.ensures ∙ ap (λ (n : ℕ). slots_where (λ k. nat_eq (key_at s.by_mutex k) n)) c.index_key.ensures.value)
