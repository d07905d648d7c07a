use Rattle.std.proofs.Common.{◌≡◌, ◌<◌, ◌≤◌, sym, length, arith, lt_of_le_of_lt}
use Rattle.std.proofs.lemmas.Nat.{and_le_l}
use Rattle.std.proofs.lemmas.Option.{slice_get_past}
use Rattle.pct_set.specs.Layout.{slots_of}
use Rattle.pct_set.proofs.BitLemmas.{counted, next_slot}
use Rattle.pct_set.proofs.slot_set.SlotSet.nth.Goals as goal

pub returns-then-n-self-clause-value : goal.returns-then-n-self-clause-value
returns-then-n-self-clause-value c =
    let few : length (slots_of c.self.inside.bits) ≤ c.args.n = omega (arith, counted _ c.self.invariant, c.if-n-self.true) in
    rw (← c.self.view_is) (sym (slice_get_past _ _ few))

pub loop-init : goal.loop-init
loop-init c =
    let inside : c.args.n < length (slots_of c.self.inside.bits) = omega (arith, counted _ c.self.invariant, c.if-n-self.false) in
    record { small = c.self.invariant; after = c.self.view_is; inside = rw c.self.view_is at inside }

pub overflow_shl-rest : goal.overflow_shl-rest
overflow_shl-rest c =
    let loop = c.loop.invariant in
    (next_slot c.loop.rest c.loop.counter c.args.self.now loop.small loop.after (omega (arith, loop.inside, c.loop-test.true))).0

pub loop-preserved : goal.loop-preserved
loop-preserved c =
    let loop = c.loop.invariant in
    let next = next_slot c.loop.rest c.loop.counter c.args.self.now loop.small loop.after (omega (arith, loop.inside, c.loop-test.true)) in
    record { small = lt_of_le_of_lt (and_le_l c.loop.rest _) loop.small; after = next.2; inside = loop.inside }

pub returns-clause-value : goal.returns-clause-value
returns-clause-value c =
    let loop = c.loop.invariant in
    let last : c.args.n ≡ c.loop.counter = omega (arith, c.loop-test.false, c.loop.auto.counter-end) in
    rw last (sym (next_slot c.loop.rest c.loop.counter c.args.self.now loop.small loop.after (omega (arith, loop.inside, last))).1)

pub returns-clause-below : goal.returns-clause-below
returns-clause-below c =
    let loop = c.loop.invariant in
    (next_slot c.loop.rest c.loop.counter c.args.self.now loop.small loop.after (omega (arith, loop.inside, c.loop-test.false))).0
