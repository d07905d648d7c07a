-- Pairs of numbers as keys.
use Rattle.std.proofs.Common.{◌≡◌, ℕ, Bool, ◌&&◌, ap, ◌∙◌, nat_eq, Less, Equal, Greater}
use Rattle.std.specs.declared.cmp.Ordering.{Ordering}
use Rattle.std.specs.Cmp.{unsigned_tied}
use Rattle.std.specs.Ordering.{is_eq, nat_cmp, ordering_then}

is_eq-then : (x y : Ordering) (s t : Bool) → is_eq x ≡ s → is_eq y ≡ t → is_eq (ordering_then x y) ≡ (s && t)
is_eq-then Less y s t e f = ap (λ b. b && t) e
is_eq-then Equal y s t e f = f ∙ ap (λ b. b && t) e
is_eq-then Greater y s t e f = ap (λ b. b && t) e

pub pairs_compare : (a b c d : ℕ) → is_eq (ordering_then (nat_cmp a b) (nat_cmp c d)) ≡ (nat_eq a b && nat_eq c d)
pairs_compare a b c d = is_eq-then (nat_cmp a b) (nat_cmp c d) (nat_eq a b) (nat_eq c d) (unsigned_tied a b) (unsigned_tied c d)

pub two_pairs_compare : (a b c d e f g h : ℕ) → is_eq (ordering_then (ordering_then (nat_cmp a b) (nat_cmp c d)) (ordering_then (nat_cmp e f) (nat_cmp g h))) ≡ ((nat_eq a b && nat_eq c d) && (nat_eq e f && nat_eq g h))
two_pairs_compare a b c d e f g h =
    is_eq-then (ordering_then (nat_cmp a b) (nat_cmp c d)) (ordering_then (nat_cmp e f) (nat_cmp g h)) (nat_eq a b && nat_eq c d) (nat_eq e f && nat_eq g h)
    (pairs_compare a b c d) (pairs_compare e f g h)
