use Rattle.pct_names.proofs.Names.{◌++◌, All, length, List, map, ◌≡◌}
use Rattle.pct_shared.specs.declared.view.View.{View}
use Rattle.pct_shared.specs.TurnSteps.{IsSeatOf}
use Rattle.pct_shared.specs.declared.worker.Worker.{Worker}
use Rattle.pct_shared.proofs.shared.join_passes.Given as goal

-- the passes of the last workers are taken in
abbrev pub invariant-loop-worker : goal.invariant-loop-worker
invariant-loop-worker l = record {
  table : l.seat.table_id ≡ l.desk.shared.table_id;
  passes : All (λ w. w.pass.host ≡ l.desk.shared.table_id) l.workers.items;
  joined : List Worker;
  all : l.initial.workers.items ≡ l.workers.items ++ joined;
  olds : (v : View) → IsSeatOf l.initial.seat.me v → IsSeatOf l.seat.me (record v { olds = map (λ w. w.pass.view.known) joined ++ v.olds });
}

abbrev pub decreases-loop-worker : goal.decreases-loop-worker
decreases-loop-worker l = length l.workers.items
