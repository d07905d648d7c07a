use Rattle.pct_names.proofs.Names.{drop, ◌+◌, ◌++◌, ◌<◌, [], ap, event_of, false≢true, is_some, length, map, option_map, refl, subst, sym, ◌∙◌, ◌∷◌}
use Rattle.pct_names.proofs.Names.{ℕ, ◌≡◌, ◌≤◌}
use Rattle.std.proofs.lemmas.Bool.{ltb-true, ltb-false}
use Rattle.pct_engine_laws.specs.Seen.{Seen, seen}
use Rattle.pct_engine_laws.proofs.LongerRuns.{run_full, run_parts}
use Rattle.pct_engine.specs.Traces.{TraceValue}
use Rattle.pct_engine.specs.EngineStates.{StandsFor}
use Rattle.pct_machine.proofs.ConfigLimits.{slots_within}
use Rattle.pct_engine.proofs.WokenThreads.{woken_legal}
use Rattle.pct_engine.proofs.EngineChoices.{state_after}
use Rattle.pct_engine.proofs.EngineRuns.{run_moved, next_run, stands-more}
use Rattle.pct_engine.proofs.ReachedStates.{stands_can_step}
use Rattle.pct_engine.proofs.engine.step_with.Goals as goal

pub returns-then-not-has_room-clause-legal : goal.returns-then-not-has_room-clause-legal
returns-then-not-has_room-clause-legal g c =
    let program = c.args.program.now in
    let trace = c.args.trace.now in
    let full : trace.budget ≤ length trace.history = ltb-false (length trace.history) trace.budget (sym c.has_room.ensures ∙ c.if-not-has_room.true) in
    (λ ok. absurd (false≢true ok), λ some. absurd (false≢true (sym (ap is_some (run_full program.script program.config trace.history c.args.entry (subst (λ n. n ≤ length trace.history) c.requires.stands.budget_is full))) ∙ some)))

pub step-requires : goal.step-requires
step-requires g c = stands_can_step c.args.program.now c.args.trace.now c.args.machine.now c.requires.stands

pub returns-then-not-step-clause-legal : goal.returns-then-not-step-clause-legal
returns-then-not-step-clause-legal g c =
    let program = c.args.program.now in
    let trace = c.args.trace.now in
    let stands = c.requires.stands in
    let left : length trace.history < program.config.budget = subst (λ n. length trace.history < n) stands.budget_is (ltb-true (length trace.history) trace.budget (sym c.has_room.ensures ∙ c.if-not-has_room.false)) in
    let none = next_run program.script program.config trace.history c.args.entry stands.after c.args.machine.now left stands.is_run stands.state_is ∙ ap (option_map (run_moved stands.after c.args.entry)) c.if-not-step.ensures.legal in
    (λ ok. absurd (false≢true ok), λ some. absurd (false≢true (sym (ap is_some none) ∙ some)))

pub returns-clause-legal : goal.returns-clause-legal
returns-clause-legal g c =
    let program = c.args.program.now in
    let trace = c.args.trace.now in
    let stands = c.requires.stands in
    let left : length trace.history < program.config.budget = subst (λ n. length trace.history < n) stands.budget_is (ltb-true (length trace.history) trace.budget (sym c.has_room.ensures ∙ c.if-not-has_room.false)) in
    let more = next_run program.script program.config trace.history c.args.entry stands.after c.args.machine.now left stands.is_run stands.state_is ∙ ap (option_map (run_moved stands.after c.args.entry)) c.if-not-step.ensures.legal in
    (λ ok. ap is_some more, λ some. refl)

pub returns-clause-stands : goal.returns-clause-stands
returns-clause-stands g c =
    let program = c.args.program.now in
    let trace = c.args.trace.now in
    let left : length trace.history < trace.budget = ltb-true (length trace.history) trace.budget (sym c.has_room.ensures ∙ c.if-not-has_room.false) in
    let moved : TraceValue = record trace { history = trace.history ++ c.args.entry ∷ []; planned = drop 1 trace.planned; events = trace.events ++ map (event_of c.args.entry) c.step.new.transition.events } in
    subst (λ (t : TraceValue). StandsFor program t c.step.new.self) (sym c.record_step.ensures)
    (subst (λ (v : Seen). StandsFor program moved v) (sym c.if-not-step.ensures.made)
    (stands-more program trace c.args.machine.now c.args.entry c.step.new.transition left c.requires.stands c.if-not-step.ensures.legal))

pub returns-clause-count : goal.returns-clause-count
returns-clause-count g c = λ before is.
    let program = c.args.program.now in
    let trace = c.args.trace.now in
    let e = c.args.entry in
    let o = c.step.new.transition in
    let machine : Seen = c.args.machine.now in
    let some : 0 < program.config.slots = (slots_within program.config (run_parts program.script program.config trace.history before is).limits).0 in
    let state : machine ≡ seen program.config.slots before.world = state_after program trace machine c.requires.stands before is in
    subst (λ (n : ℕ). c.step.new.steps ≤ c.args.steps.now + 4 + n) (woken_legal program.script program.config before.world e o machine some state c.if-not-step.ensures.legal) c.if-not-step.ensures.count
