use Rattle.pct_names.proofs.Names.{◌+◌, ◌++◌, [], ap, arith, length, refl, subst, sym, ◌∙◌, ◌∷◌, ◌≡◌}
use Rattle.std.proofs.Common.{length-append}
use Rattle.pct_engine.specs.EngineStates.{EngineValue}
use Rattle.pct_scheduled_run.specs.ScheduledRuns.{IsContinuedBy}
use Rattle.pct_scheduled_run.proofs.ContinuedRuns.{continued_more, continued_none, within_budget}
use Rattle.pct_scheduled_run.proofs.continuing.continue_run.Goals as goal

pub loop-init : goal.loop-init
loop-init g c = record { same = refl; goes_on = λ entries continued. continued }

pub loop-preserved : goal.loop-preserved
loop-preserved g c =
    let opened = c.args.engine.now in
    let e = c.in-Some.field-0 in
    let r = c.in-Some.ensures.run in
    let made = c.in-Some.ensures.made in
    record {
      same =
          made
          ∙ ap (λ (engine : EngineValue). record engine { history = c.loop.engine.history ++ e ∷ [] }) c.loop.invariant.same
          ∙ ap (λ (engine : EngineValue). record opened { history = engine.history }) (sym made);
      goes_on = λ entries continued.
          c.loop.invariant.goes_on entries
          (continued_more (g.S.Scheduler.draws c.loop.scheduler) (g.S.Scheduler.draws c.advance.new.scheduler) c.args.worker c.loop.engine r.0 e entries c.in-Some.ensures.rest r.1 r.2
          (subst (λ (x : EngineValue). IsContinuedBy (g.S.Scheduler.draws c.advance.new.scheduler) c.args.worker x.script x.config x.history entries) made continued));
    }

pub loop-smaller : goal.loop-smaller
loop-smaller g c =
    let old = c.loop.engine in
    let new = c.advance.new.engine in
    let e = c.in-Some.field-0 in
    let made = c.in-Some.ensures.made in
    let longer : length new.history ≡ length old.history + 1 = ap (λ (engine : EngineValue). length engine.history) made ∙ length-append old.history (e ∷ []) in
    let same : new.config.budget ≡ old.config.budget = ap (λ (engine : EngineValue). engine.config.budget) made in
    let room = within_budget old c.in-Some.ensures.run.0 c.args.worker _ _ e c.in-Some.ensures.run.2 in
    omega (arith, longer, same, room)

pub returns-clause-run : goal.returns-clause-run
returns-clause-run g c =
    let r = c.in_default.ensures.run in
    let opened = c.args.engine.now in
    subst (λ (x : EngineValue). IsContinuedBy (g.S.Scheduler.draws c.args.scheduler.now) c.args.worker opened.script opened.config opened.history x.history) (sym c.in_default.ensures.same)
    (c.loop.invariant.goes_on c.loop.engine.history (continued_none (g.S.Scheduler.draws c.loop.scheduler) c.args.worker _ _ c.loop.engine r.0 r.1 r.2))
