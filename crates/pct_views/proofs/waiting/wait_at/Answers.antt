use Rattle.pct_names.proofs.Names.{ap, Option, StatementIn, Stmt, sym, ◌∙◌}
use Rattle.pct_step_context.specs.declared.current.At.{At}
use Rattle.pct_step_context.specs.Positions.{next_at}
use Rattle.pct_view_laws.specs.Waits.{wait_at}
use Rattle.pct_views.proofs.Waits.{nothing_elsewhere}
use Rattle.pct_views.proofs.waiting.wait_at.Goals as goal

pub returns-in-None : goal.returns-in-None
unfolding wait_at
returns-in-None c = λ others. ap (λ (next : Option At). wait_at c.args.state.now.shared others (next_at next)) (sym c.in-None.is)

pub returns-in-Lock : goal.returns-in-Lock
unfolding wait_at
returns-in-Lock c = λ others.
    c.mutex_wait.ensures others
    ∙ ap (λ (s : Stmt). wait_at c.args.state.now.shared others (StatementIn c.in-Some.at.frame s)) (sym c.in-Lock.is)
    ∙ ap (λ (next : Option At). wait_at c.args.state.now.shared others (next_at next)) (sym c.in-Some.is)

pub returns-in-CallOnce : goal.returns-in-CallOnce
unfolding wait_at
returns-in-CallOnce c = λ others.
    c.once_wait.ensures others
    ∙ ap (λ (s : Stmt). wait_at c.args.state.now.shared others (StatementIn c.in-Some.at.frame s)) (sym c.in-CallOnce.is)
    ∙ ap (λ (next : Option At). wait_at c.args.state.now.shared others (next_at next)) (sym c.in-Some.is)

pub returns-in_default : goal.returns-in_default
returns-in_default c = λ others.
    sym (nothing_elsewhere c.args.state.now.shared others c.in-Some.at.frame c.in-Some.at.statement.now c.in_default.not-Lock c.in_default.not-CallOnce)
    ∙ ap (λ (next : Option At). wait_at c.args.state.now.shared others (next_at next)) (sym c.in-Some.is)
