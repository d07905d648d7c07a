use Rattle.pct_names.proofs.Names.{◌-◌, ◌<◌, [], length, slice_get, Some, suc, vec_capacity, ℕ, ◌≡◌, ◌≤◌}
use Rattle.pct_shared.specs.declared.worker.Worker.{Worker}
use Rattle.pct_shared.specs.Hosts.{IsNewWorker}
use Rattle.pct_shared.specs.Views.{new_view}
use Rattle.pct_shared.proofs.shared.make_workers.Given as goal

-- the workers before the newest pass are made, and the newest pass may split
abbrev pub invariant-loop-number : goal.invariant-loop-number
invariant-loop-number l = record {
  some : 0 < l.number;
  within : l.number ≤ l.host.opening.now.workers;
  room : l.host.opening.now.workers ≤ vec_capacity l.workers;
  made : suc (length l.workers.items) ≡ l.number;
  each : (index : ℕ) (w : Worker) → slice_get l.workers.items index ≡ Some w → IsNewWorker (record { host = l.host.desk.now.shared.table_id; opening = l.host.opening.now }) l.seed (suc index) w;
  table : l.newest.table_id ≡ l.host.desk.now.shared.table_id;
  newest : l.newest.me ≡ (Some (new_view l.host.opening.now l.number), []);
}

abbrev pub decreases-loop-number : goal.decreases-loop-number
decreases-loop-number l = l.host.opening.now.workers - l.number
