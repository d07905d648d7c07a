use Rattle.pct_names.proofs.Names.{◌<◌, All, ap, length, List, slice_index_or, subst, sym, with_items_is, ℕ, ◌∙◌, ◌≡◌}
use Rattle.rand_pcg.specs.Lcg.{Lcg}
use Rattle.pct_scheduled_run.specs.ScheduledRuns.{IsContinuedBy}
use Rattle.pct_scheduled_run.specs.Streams.{draws}
use Rattle.pct_shared.specs.declared.worker.Worker.{Worker}
use Rattle.pct_shared.specs.Hosts.{AreAllWorkers, IsClosing}
use Rattle.pct_workers.specs.Work.{Worked}
use Rattle.pct_shared.specs.Passes.{IsPassOf}
use Rattle.pct_workers.proofs.WorkedRuns.{all_new, all_worked, schedule_of_workers}
use Rattle.pct_workers.proofs.run.run_shared.Goals as goal

pub run_workers-requires-after_bounds : goal.run_workers-requires-after_bounds
run_workers-requires-after_bounds g c κs within =
    let shared = c.in_ok-shared.shared in
    subst (All (λ w. IsPassOf shared w.pass)) (sym c.as_mut_slice.ensures.value) (all_new shared c.args.options.workers c.args.options.seed c.in_ok-shared.workers.items c.in_ok-shared.ensures.new)

-- there are as many workers after their turns, and each has worked
as_many : (before shown after : List Worker) → shown ≡ before → length after ≡ length shown → length after ≡ length before
as_many before shown after same count = count ∙ ap (λ (workers : List Worker). length workers) same

each : (turns : ℕ) (before shown after : List Worker) → shown ≡ before → ((index : ℕ) (d : Worker) → index < length shown → Worked turns (slice_index_or shown index d) (slice_index_or after index d))
    → (index : ℕ) (d : Worker) → index < length before → Worked turns (slice_index_or before index d) (slice_index_or after index d)
each turns before shown after same worked = subst (λ (workers : List Worker). (index : ℕ) (d : Worker) → index < length workers → Worked turns (slice_index_or workers index d) (slice_index_or after index d)) same worked

pub close-made-requires : goal.close-made-requires
close-made-requires g c =
    let before = c.in_ok-shared.workers.items in
    let shown = c.as_mut_slice.result.now in
    let after = c.run_workers.new.workers in
    let shared = c.in_ok-shared.shared in
    let opening = c.in_ok-shared.ensures in
    subst (AreAllWorkers shared) (sym (with_items_is c.in_ok-shared.workers after (c.run_workers.ensures.count ∙ c.as_mut_slice.ensures.len)))
    (all_worked shared c.args.options.workers c.args.options.seed c.args.options.turns before after opening.count_is opening.new (as_many before shown after c.as_mut_slice.ensures.value c.run_workers.ensures.count)
    (each c.args.options.turns before shown after c.as_mut_slice.ensures.value c.run_workers.ensures.each))

pub returns : goal.returns
returns g c =
    let before = c.in_ok-shared.workers.items in
    let shown = c.as_mut_slice.result.now in
    let after = c.run_workers.new.workers in
    let closed = c.close-made.result in
    let closing = subst (λ (workers : List Worker). IsClosing c.in_ok-shared.shared.opening workers closed) (with_items_is c.in_ok-shared.workers after (c.run_workers.ensures.count ∙ c.as_mut_slice.ensures.len)) c.close-made.ensures in
    let ended = subst (λ (words : Lcg). IsContinuedBy (draws words) 0 closed.script closed.config closed.history c.continue_run.new.engine.history) c.stream_of.ensures c.continue_run.ensures.run in
    schedule_of_workers c.args.engine c.continue_run.new.engine c.args.options c.in_ok-shared.shared before after closed
    c.requires.0 c.requires.1 c.if-options-eq-LONE_WORKER.false c.in_ok-shared.ensures (as_many before shown after c.as_mut_slice.ensures.value c.run_workers.ensures.count)
    (each c.args.options.turns before shown after c.as_mut_slice.ensures.value c.run_workers.ensures.each) closing c.continue_run.ensures.same ended
