use Rattle.pct_names.proofs.Names.{ap, length, option_map, slice_get, ◌∙◌}
use Rattle.pct_engine_laws.specs.Seen.{Seen, seen, family_in}
use Rattle.pct_engine_laws.specs.SeenSteps.{thread_with}
use Rattle.pct_process.specs.ProcessViews.{ProcessData}
use Rattle.pct_step_context.specs.Programs.{ProgramValue}
use Rattle.pct_view_laws.specs.TracedSteps.{start_of}
use Rattle.pct_views.proofs.FoundProcesses.{none_shown, one_shown, none_found, found_here, later, live_by, other_by, over_by, starts_nowhere, starts_in}
use Rattle.pct_views.proofs.start.start_kept.Goals.{else-process-entry-via-then-process-entry+else-not-process, else-process-entry-via-else-process-entry}
use Rattle.pct_views.proofs.start.start_kept.Goals as goal

pub returns-in_err-process : goal.returns-in_err-process
returns-in_err-process c = λ after is.
    let engine = c.args.engine.now in
    let v : Seen = seen engine.config.slots after.world in
    let program : ProgramValue = record { script = engine.script; config = engine.config } in
    let none = none_shown program v (slice_get v.processes c.loop-index.index) (c.in_err-process.ensures.shown after is) in
    c.from_residual.ensures
    ∙ starts_nowhere engine.config.slots v c.args.entry.now (none_found c.args.entry.now.pid c.loop-index.index v.processes (c.loop-index.invariant after is) none)

pub returns-then-not-process : goal.returns-then-not-process
returns-then-not-process c = λ after is.
    let engine = c.args.engine.now in
    let e = c.args.entry.now in
    let view = c.in_ok-process.process in
    let v : Seen = seen engine.config.slots after.world in
    let program : ProgramValue = record { script = engine.script; config = engine.config } in
    let one = one_shown program v (slice_get v.processes c.loop-index.index) view (c.in_ok-process.ensures.shown after is) in
    let p = one.0 in
    let found = found_here e.pid c.loop-index.index v.processes (c.loop-index.invariant after is) p one.1 (live_by program (family_in v p.pid) p view one.2 e.pid c.if-process-entry.true c.if-not-process.true) in
    c.start_with.ensures
    ∙ ap (λ (d : ProcessData). option_map start_of (thread_with (length d.slots) e.tid d.slots)) one.2.state_is
    ∙ starts_in engine.config.slots v e p found one.2.can_step.all

pub loop-index-preserved : goal.loop-index-preserved
loop-index-preserved c = λ after is.
    let engine = c.args.engine.now in
    let e = c.args.entry.now in
    let view = c.in_ok-process.process in
    let v : Seen = seen engine.config.slots after.world in
    let program : ProgramValue = record { script = engine.script; config = engine.config } in
    let one = one_shown program v (slice_get v.processes c.loop-index.index) view (c.in_ok-process.ensures.shown after is) in
    let p = one.0 in
    let few = c.in_ok-process.ensures.few after is in
    let go = later e.pid c.loop-index.index v.processes (c.loop-index.invariant after is) p one.1 in
    elim c.else-process-entry.branch [
      | else-process-entry-via-then-process-entry+else-not-process w ↦ go (over_by program (family_in v p.pid) p view one.2 e.pid w.if-not-process.false) few
      | else-process-entry-via-else-process-entry w ↦ go (other_by program (family_in v p.pid) p view one.2 e.pid w.if-process-entry.false) few
    ]
