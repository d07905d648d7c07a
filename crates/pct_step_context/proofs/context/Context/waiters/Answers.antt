use Rattle.pct_names.proofs.Names.{All, ap, arith, List, subst, sym, true, ℕ, ◌∙◌, ◌≡◌}
use Rattle.pct_threads.specs.Tables.{is_occupied_at}
use Rattle.pct_step_context.specs.OtherThreads.{ids_on}
use Rattle.pct_step_context.proofs.StandingsRead.{waiting_slots}
use Rattle.pct_step_context.proofs.WaitersRead.{waiters_read, waiters_held}
use Rattle.pct_step_context.proofs.context.Context.waiters.Goals as goal

pub returns-clause-ids : goal.returns-clause-ids
returns-clause-ids c = λ others sees.
    let self = c.args.self.now in
    ap (ids_on self.threads.now) (c.waiters.ensures ∙ waiting_slots self.standings.now self.threads.now c.requires.standings_are c.args.cond)
    ∙ waiters_read self.position.keys.now self.threads.now c.requires.rows self.position.id _ _ others sees c.args.cond (omega (arith, c.slot_count-count.ensures.value, c.slot_count-count.ensures.few))

pub returns-clause-held : goal.returns-clause-held
returns-clause-held c =
    let self = c.args.self.now in
    subst (λ (waiting : List ℕ). All (λ s. is_occupied_at self.threads.now s ≡ true) waiting) (sym (c.waiters.ensures ∙ waiting_slots self.standings.now self.threads.now c.requires.standings_are c.args.cond)) (waiters_held self.threads.now c.args.cond)
