use Rattle.std.proofs.Common.{◌≡◌, length, ◌+◌, ◌-◌, ◌≤◌}
use Rattle.std.specs.Io.KnownBytes.{Consumes}
use Rattle.pct_io.proofs.read_write.read_all.Given as goal

abbrev pub invariant-loop-all : goal.invariant-loop-all
invariant-loop-all g l = record {
  within : length l.all.items ≤ l.limit;
  prefix : Consumes (g.S.Source.left l.initial.source) (g.S.Source.left l.source) l.all.items;
  no_error : g.S.Source.errors l.source ≡ g.S.Source.errors l.initial.source;
}

abbrev pub decreases-loop-all : goal.decreases-loop-all
decreases-loop-all g l = l.limit + 1 - length l.all.items
