use Rattle.std.proofs.Common.{◌≡◌, take}
use Rattle.pct_model.proofs.name.Name.of.Given as goal

abbrev pub invariant-loop-byte : goal.invariant-loop-byte
invariant-loop-byte l = l.kept.items ≡ take l.byte-index l.bytes
