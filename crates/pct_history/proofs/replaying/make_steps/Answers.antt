use Rattle.pct_names.proofs.Names.{◌+◌, ap, arith, Entry, false≢true, is_some, List, refl, Run, subst, sym, ◌∙◌}
use Rattle.pct_engine_laws.proofs.LongerRuns.{run_none}
use Rattle.pct_engine.specs.EngineStates.{IsRunOf}
use Rattle.pct_engine.specs.PlannedRuns.{PlannedValue}
use Rattle.pct_history.proofs.IllegalEntries.{follows-until, follows-all}
use Rattle.pct_history.proofs.PlannedSteps.{illegal-next, legal-next, made-next, planned-next, run-there}
use Rattle.pct_history.proofs.replaying.make_steps.Goals as goal

pub loop-index-init : goal.loop-index-init
loop-index-init g c =
    let engine = c.args.run.now.engine in
    record {
      made = ap (λ (history : List Entry). record engine { history = history }) c.requires.opened;
      planned = refl;
      legal = ap is_some (run_none engine.script engine.config c.requires.config);
    }

pub loop-index-preserved : goal.loop-index-preserved
loop-index-preserved g c =
    let opened = c.args.run.now.engine in
    let planned = c.args.run.now.planned in
    let run = c.loop-index.run in
    let so_far = c.loop-index.invariant in
    record {
      made = made-next run opened.script opened.config planned c.loop-index.index so_far.made so_far.planned c.step.new.self c.in_default.ensures.made;
      planned = planned-next run opened.script opened.config planned c.loop-index.index so_far.made so_far.planned c.step.new.self c.in_default.ensures.made;
      legal = legal-next run opened.script opened.config planned c.loop-index.index so_far.made so_far.planned (c.in_default.ensures.legal.0 refl);
    }

pub returns-in-Err-clause-follows : goal.returns-in-Err-clause-follows
returns-in-Err-clause-follows g c =
    let opened = c.args.run.now.engine in
    let planned = c.args.run.now.planned in
    let so_far = c.loop-index.invariant in
    follows-until c.step.new.self.engine opened.script opened.config planned c.loop-index.index (c.loop-index.index + 1) (ap (λ (r : PlannedValue). r.engine) c.in-Err.ensures.same ∙ so_far.made) refl
    (illegal-next c.loop-index.run opened.script opened.config planned c.loop-index.index so_far.made so_far.planned (omega (arith, c.loop-index-test.true, c.requires.all)) (omega (arith, c.requires.all, c.requires.few)) so_far.legal
    (λ legal. false≢true (c.in-Err.ensures.legal.1 legal)))

pub returns-in-Err-clause-runs : goal.returns-in-Err-clause-runs
returns-in-Err-clause-runs g c =
    let opened = c.args.run.now.engine in
    let so_far = c.loop-index.invariant in
    subst (λ (r : PlannedValue). (after : Run) × IsRunOf r.engine after) (sym c.in-Err.ensures.same)
    (run-there c.loop-index.run opened.script opened.config c.args.run.now.planned c.loop-index.index so_far.made so_far.planned so_far.legal)

pub returns-clause-follows : goal.returns-clause-follows
returns-clause-follows g c =
    let opened = c.args.run.now.engine in
    let so_far = c.loop-index.invariant in
    follows-all c.loop-index.run.engine opened.script opened.config c.args.run.now.planned c.loop-index.index so_far.made (omega (arith, c.loop-index-test.false, c.requires.all)) so_far.legal

pub returns-clause-runs : goal.returns-clause-runs
returns-clause-runs g c =
    let opened = c.args.run.now.engine in
    let so_far = c.loop-index.invariant in
    run-there c.loop-index.run opened.script opened.config c.args.run.now.planned c.loop-index.index so_far.made so_far.planned so_far.legal
