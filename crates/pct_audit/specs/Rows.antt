-- Rows by the ids of processes and threads.
use Rattle.std.specs.Prelude.{ℕ, ◌&&◌, false, None, unwrap_or, nat_eq}
use Rattle.std.specs.Ordering.{nat_cmp, ordering_then}
use Rattle.std.specs.BTreeMap.{BTreeMap, get}
use Rattle.pct_model.specs.declared.state.Reason.TheVariants as reason
use Rattle.pct_laws.specs.declared.stage.WaitStage.TheVariants.{NoWait}
use Rattle.pct_audit.specs.declared.rows.Row.{Row}
use Rattle.pct_audit.specs.declared.rows.Rows.{Rows}

-- the row of a thread without events
abbrev pub no_events_row : ℕ → ℕ → Row
no_events_row pid tid = record {
  handlers = 0;
  left = 0;
  reason = reason.None;
  ended = None;
  passes = 0;
  known = nat_eq 1 pid && nat_eq 1 tid;
  detached = false;
  joined = false;
  joining = false;
  stage = NoWait;
}

-- the row of a thread in a map
abbrev pub row_in : BTreeMap (ℕ × ℕ) Row → ℕ → ℕ → Row
row_in map pid tid = unwrap_or (get (λ x y. ordering_then (nat_cmp x.0 y.0) (nat_cmp x.1 y.1)) map (pid, tid)) (no_events_row pid tid)

-- the row of a thread
abbrev pub row_of : Rows → ℕ → ℕ → Row
row_of rows = row_in rows.map
