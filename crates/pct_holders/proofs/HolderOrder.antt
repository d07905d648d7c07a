-- The order of threads: those of one slot are between the slot and the next one, and no others.
use Rattle.std.proofs.Common.{◌≡◌, ℕ, ◌+◌, ◌<◌, Bool, false, ◌&&◌, refl, sym, ap, ◌∙◌, nat_eq, arith, Less, Equal, Greater}
use Rattle.std.specs.declared.cmp.Ordering.{Ordering}
use Rattle.std.specs.Cmp.{ranks, nat_cmp_is, unsigned_tied}
use Rattle.std.specs.Ordering.{is_eq, is_gt, nat_cmp, ordering_then, MatchOrdering}
use Rattle.pct_holders.specs.Holds.{Holder, holder_cmp}

-- ---- equal threads

is_eq-then : (x y : Ordering) (s t : Bool) → is_eq x ≡ s → is_eq y ≡ t → is_eq (ordering_then x y) ≡ (s && t)
is_eq-then Less y s t e f = ap (λ b. b && t) e
is_eq-then Equal y s t e f = f ∙ ap (λ b. b && t) e
is_eq-then Greater y s t e f = ap (λ b. b && t) e

pub is_eq-holder_cmp : (x y : Holder) → is_eq (holder_cmp x y) ≡ ((nat_eq x.0.0 y.0.0 && nat_eq x.0.1 y.0.1) && nat_eq x.1 y.1)
is_eq-holder_cmp x y =
    is_eq-then (ordering_then (nat_cmp x.0.0 y.0.0) (nat_cmp x.0.1 y.0.1)) (nat_cmp x.1 y.1) (nat_eq x.0.0 y.0.0 && nat_eq x.0.1 y.0.1) (nat_eq x.1 y.1)
    (is_eq-then (nat_cmp x.0.0 y.0.0) (nat_cmp x.0.1 y.0.1) (nat_eq x.0.0 y.0.0) (nat_eq x.0.1 y.0.1) (unsigned_tied x.0.0 y.0.0) (unsigned_tied x.0.1 y.0.1)) (unsigned_tied x.1 y.1)

-- ---- the threads of one slot

not_greater : (order : Ordering) (b : ℕ) → MatchOrdering order (0 < b) (0 ≡ b) (b < 0) → is_gt order ≡ false
not_greater Less b says = refl
not_greater Equal b says = refl
not_greater Greater b says = absurd (omega (arith, says))

-- a thread of the slot is not before the first one that the slot can have
pub after_first : (pid slot tid : ℕ) → is_gt (holder_cmp ((pid, slot), 0) ((pid, slot), tid)) ≡ false
after_first pid slot tid =
    ap (λ order. is_gt (ordering_then (ordering_then order (nat_cmp slot slot)) (nat_cmp 0 tid))) (sym (nat_cmp_is pid pid Equal refl))
    ∙ ap (λ order. is_gt (ordering_then order (nat_cmp 0 tid))) (sym (nat_cmp_is slot slot Equal refl)) ∙ not_greater (nat_cmp 0 tid) tid (ranks 0 tid)

-- it is before the first one that the next slot can have
pub before_next : (pid slot tid : ℕ) → holder_cmp ((pid, slot), tid) ((pid, slot + 1), 0) ≡ Less
before_next pid slot tid =
    ap (λ order. ordering_then (ordering_then order (nat_cmp slot (slot + 1))) (nat_cmp tid 0)) (sym (nat_cmp_is pid pid Equal refl))
    ∙ ap (λ order. ordering_then order (nat_cmp tid 0)) (sym (nat_cmp_is slot (slot + 1) Less (omega arith)))

-- no others are between these
slot_by : (slot s tid : ℕ) (low high last rest : Ordering) → MatchOrdering low (slot < s) (slot ≡ s) (s < slot) → MatchOrdering high (s < slot + 1) (s ≡ slot + 1) (slot + 1 < s) → MatchOrdering last (tid < 0) (tid ≡ 0) (0 < tid)
    → is_gt (ordering_then low rest) ≡ false → ordering_then high last ≡ Less → slot ≡ s
slot_by slot s tid Less Less last rest a b c e f = absurd (omega (arith, a, b))
slot_by slot s tid Less Equal Less rest a b c e f = absurd (omega (arith, c))
slot_by slot s tid Less Equal Equal rest a b c e f = absurd cc
slot_by slot s tid Less Equal Greater rest a b c e f = absurd cc
slot_by slot s tid Less Greater last rest a b c e f = absurd cc
slot_by slot s tid Equal high last rest a b c e f = a
slot_by slot s tid Greater high last rest a b c e f = absurd cc

between_by : (pid slot p s tid : ℕ) (first low start high last rest : Ordering) → MatchOrdering first (pid < p) (pid ≡ p) (p < pid) → MatchOrdering start (p < pid) (p ≡ pid) (pid < p)
    → MatchOrdering low (slot < s) (slot ≡ s) (s < slot) → MatchOrdering high (s < slot + 1) (s ≡ slot + 1) (slot + 1 < s) → MatchOrdering last (tid < 0) (tid ≡ 0) (0 < tid)
    → is_gt (ordering_then (ordering_then first low) rest) ≡ false → ordering_then (ordering_then start high) last ≡ Less → (pid ≡ p) × (slot ≡ s)
between_by pid slot p s tid Less low Less high last rest a b c d e f g = absurd (omega (arith, a, b))
between_by pid slot p s tid Less low Equal high last rest a b c d e f g = absurd (omega (arith, a, b))
between_by pid slot p s tid Less low Greater high last rest a b c d e f g = absurd cc
between_by pid slot p s tid Equal low Less high last rest a b c d e f g = absurd (omega (arith, a, b))
between_by pid slot p s tid Equal low Equal high last rest a b c d e f g = (a, slot_by slot s tid low high last rest c d e f g)
between_by pid slot p s tid Equal low Greater high last rest a b c d e f g = absurd cc
between_by pid slot p s tid Greater low start high last rest a b c d e f g = absurd cc

pub between : (pid slot : ℕ) (holder : Holder) → is_gt (holder_cmp ((pid, slot), 0) holder) ≡ false → holder_cmp holder ((pid, slot + 1), 0) ≡ Less → (pid ≡ holder.0.0) × (slot ≡ holder.0.1)
between pid slot holder low high =
    between_by pid slot holder.0.0 holder.0.1 holder.1 (nat_cmp pid holder.0.0) (nat_cmp slot holder.0.1) (nat_cmp holder.0.0 pid) (nat_cmp holder.0.1 (slot + 1)) (nat_cmp holder.1 0) (nat_cmp 0 holder.1)
    (ranks pid holder.0.0) (ranks holder.0.0 pid) (ranks slot holder.0.1) (ranks holder.0.1 (slot + 1)) (ranks holder.1 0) low high
