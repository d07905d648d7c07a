use Rattle.pct_names.proofs.Names.{◌+◌, ◌-◌, arith, false, sym, true, ◌∙◌, ◌≡◌}
use Rattle.pct_inspection.specs.Selections.{is_thread}
use Rattle.pct_inspection.proofs.Selections.{last_thread, next_thread, no_threads}
use Rattle.pct_inspection.proofs.selecting.are_threads.Goals as goal

pub returns-in-None : goal.returns-in-None
returns-in-None c =
    c.is_thread.ensures
    ∙ sym (last_thread (64 - c.loop.counter) c.loop.rest.now (omega (arith, c.loop-test.true)) c.in-None.ensures)
    ∙ c.loop.invariant

pub returns-then-not-is_thread : goal.returns-then-not-is_thread
returns-then-not-is_thread c =
    let is : false ≡ is_thread c.in-Some.first.now = c.if-not-is_thread.ensures in
    let next = next_thread (64 - c.loop.counter) (64 - (c.loop.counter + 1)) c.loop.rest.now c.in-Some.first.now c.in-Some.after.now (omega (arith, c.loop-test.true)) c.in-Some.ensures in
    sym (rw (sym is) at next) ∙ c.loop.invariant

pub loop-preserved : goal.loop-preserved
loop-preserved c =
    let is : true ≡ is_thread c.in-Some.first.now = c.if-not-is_thread.ensures in
    let next = next_thread (64 - c.loop.counter) (64 - (c.loop.counter + 1)) c.loop.rest.now c.in-Some.first.now c.in-Some.after.now (omega (arith, c.loop-test.true)) c.in-Some.ensures in
    sym (rw (sym is) at next) ∙ c.loop.invariant

pub returns : goal.returns
returns c = no_threads (64 - c.loop.counter) c.loop.rest.now (omega (arith, c.loop-test.false)) ∙ c.loop.invariant
