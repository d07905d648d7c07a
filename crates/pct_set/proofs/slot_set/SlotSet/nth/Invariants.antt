use Rattle.std.proofs.Common.{◌≡◌, ◌<◌, ◌^◌, drop, length}
use Rattle.pct_set.specs.Layout.{slots_of}
use Rattle.pct_set.proofs.slot_set.SlotSet.nth.Given as goal

abbrev pub invariant-loop : goal.invariant-loop
invariant-loop l = record {
  small : l.rest < 2 ^ 64;
  after : slots_of l.rest ≡ drop l.counter l.self;
  inside : l.n < length l.self;
}
