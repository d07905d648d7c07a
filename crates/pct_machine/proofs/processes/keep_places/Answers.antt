use Rattle.pct_names.proofs.Names.{◌<◌, arith, length}
use Rattle.pct_place.specs.ProcessSteps.{process_changed}
use Rattle.pct_machine.proofs.KeptPlaces.{none_kept, one_kept}
use Rattle.pct_machine.proofs.processes.keep_places.Goals.{then-change, else-change}
use Rattle.pct_machine.proofs.processes.keep_places.Goals as goal

pub loop-index-preserved : goal.loop-index-preserved
loop-index-preserved c =
    let l = c.loop-index in
    let within : l.index < length l.places.items = omega (arith, c.requires, c.loop-index-test.true, l.invariant.all) in
    elim c.if-change.branch [
      | then-change w ↦
          rw (w.kept-is, w.places-is, w.swap.ensures.items)
          (one_kept (process_changed c.args.pid c.args.change) l.kept l.index c.args.places.now.items l.places.items c.index_mut.result.now c.change.new.self within l.invariant c.index_mut.ensures.value w.if-change.ensures)
      | else-change w ↦
          rw (w.kept-is, w.places-is)
          (none_kept (process_changed c.args.pid c.args.change) l.kept l.index c.args.places.now.items l.places.items c.index_mut.result.now c.change.new.self within l.invariant c.index_mut.ensures.value w.if-change.ensures)
    ]
