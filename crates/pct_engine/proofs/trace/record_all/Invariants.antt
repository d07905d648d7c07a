use Rattle.pct_names.proofs.Names.{◌+◌, ◌++◌, event_of, map, take, ◌≡◌, ◌≤◌}
use Rattle.std.specs.Prelude.{vec_len, vec_capacity}
use Rattle.pct_engine.proofs.trace.record_all.Given as goal

abbrev pub invariant-loop-what : goal.invariant-loop-what
invariant-loop-what l = record {
  items : l.events.items ≡ l.initial.events.items ++ map (event_of l.entry) (take l.what-index l.what-items);
  few : vec_len l.events ≤ vec_len l.initial.events + l.what-index;
  capacity : vec_capacity l.events ≡ vec_capacity l.initial.events;
}
