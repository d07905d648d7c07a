use Rattle.pct_names.proofs.Names.{◌++◌, abandoned, drop, map, take, ◌≡◌}
use Rattle.pct_process.proofs.values.Values+OnceState.abandon.Given as goal

abbrev pub invariant-loop-state : goal.invariant-loop-state
invariant-loop-state l = l.state-items ≡ map (abandoned l.tid) (take l.state-index l.fn.self) ++ drop l.state-index l.fn.self
