use Rattle.pct_names.proofs.Names.{[], ap, arith, has_timeouts, List, refl, subst, sym, ◌∙◌}
use Rattle.pct_engine_laws.proofs.LongerRuns.{run_parts}
use Rattle.pct_machine.proofs.ConfigLimits.{slots_within}
use Rattle.pct_machine.proofs.FollowingLists.{follow_stale}
use Rattle.pct_ready_sets.specs.ReadyConditions.{FollowAll}
use Rattle.pct_ready_sets.specs.ReadyGroups.{ReadyValue}
use Rattle.pct_engine.specs.EngineStates.{EngineValue}
use Rattle.pct_engine.specs.Traces.{TraceValue}
use Rattle.pct_engine.proofs.EngineRuns.{stands-first}
use Rattle.pct_engine.proofs.engine.Engine.restart.Goals as goal

pub restart-requires-clause-some : goal.restart-requires-clause-some
restart-requires-clause-some c =
    let s = c.self.inside in
    let stands = c.self.invariant.0 in
    omega (arith, (slots_within s.program.config (run_parts s.program.script s.program.config s.trace.history stands.after stands.is_run).limits).0)

pub restart-requires-clause-few : goal.restart-requires-clause-few
restart-requires-clause-few c =
    let s = c.self.inside in
    let stands = c.self.invariant.0 in
    omega (arith, (slots_within s.program.config (run_parts s.program.script s.program.config s.trace.history stands.after stands.is_run).limits).1)

pub returns : goal.returns
returns c =
    let program = c.self.inside.program in
    ap (λ (t : TraceValue). record { script = program.script; config = program.config; history = t.history }) c.restart-2.ensures
    ∙ ap (λ (v : EngineValue). record v { history = [] }) c.self.view_is

pub invariant_of-self : goal.invariant_of-self
invariant_of-self c =
    let s = c.self.inside in
    let program = s.program in
    let stands = c.self.invariant.0 in
    let timeouts = has_timeouts program.config.format in
    let machine = c.restart.new.self in
    let limits = (run_parts program.script program.config s.trace.history stands.after stands.is_run).limits in
    let emptied = c.restart-2.ensures ∙ (λ i. record { budget = stands.budget_is i; history = []; planned = []; events = [] }) in (
      stands-first program c.restart-2.new.self machine program.script program.config [] limits refl emptied c.restart.ensures,
      subst (λ (vs : List ReadyValue). FollowAll program.script timeouts machine.processes vs) (sym c.mark_all.ensures) (follow_stale program.script timeouts machine.processes s.work.sets),
    )
