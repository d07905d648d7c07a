-- The law of the inverse of the model of `SlotSet`, which makes the type `Copy`: the set determines the bits.
use Rattle.std.specs.Prelude.{◌≡◌, ℕ, zero, suc, ◌+◌, ◌*◌, ◌/◌, ◌%◌, ◌^◌, ◌<◌, filter}
use Rattle.std.specs.Int.{bit_at}
use Rattle.std.specs.List.{range_with_len}
use Rattle.std.proofs.Common.{refl, sym, ap, ◌∙◌, inl, inr, arith, zero-mul, one-mul, add-mul, mul_assoc, add-one}
use Rattle.std.proofs.lemmas.Bool.{cases_Bool, eqb-true, eqb-false}
use Rattle.std.proofs.lemmas.Nat.{mod-pow-add, shr-shr, pow-add}
use Rattle.std.proofs.lemmas.Nat.Bits.{bit_at-lt}
use Rattle.pct_set.specs.Slots.{slots_where}
use Rattle.pct_set.specs.Layout.{has_bit, slots_of, bits_of}

-- the number of the bits from a on is bit a and twice the number of the bits after it
pub bits_from : (bits a n : ℕ) → bits / 2 ^ a % 2 ^ suc n ≡ bits / 2 ^ (a + 1) % 2 ^ n * 2 + bit_at bits a
bits_from bits a n =
    let split : bits / 2 ^ a % 2 ^ (n + 1) ≡ bits / 2 ^ a / 2 ^ 1 % 2 ^ n * 2 ^ 1 + bits / 2 ^ a % 2 ^ 1 = mod-pow-add (bits / 2 ^ a) n 1 in
    rw (← add-one n, ← shr-shr bits a 1) split

-- a range of slots determines those bits
bits_of_range : (bits a n : ℕ) → bits_of (filter (has_bit bits) (range_with_len a n)) ≡ bits / 2 ^ a % 2 ^ n * 2 ^ a
bits_of_range bits a zero =
    let none : bits / 2 ^ a % 1 ≡ 0 = omega arith in
    rw (none, zero-mul) refl
bits_of_range bits a (suc n) =
    let high : ℕ = bits / 2 ^ (a + 1) % 2 ^ n in
    let rest : bits_of (filter (has_bit bits) (range_with_len (a + 1) n)) ≡ high * 2 ^ (a + 1) = bits_of_range bits (a + 1) n in
    let power : 2 ^ (a + 1) ≡ 2 * 2 ^ a = omega (arith, pow-add 2 a 1) in
    let whole : bits / 2 ^ a % 2 ^ suc n * 2 ^ a ≡ high * 2 ^ (a + 1) + bit_at bits a * 2 ^ a =
    ap (λ x. x * 2 ^ a) (bits_from bits a n) ∙ add-mul (high * 2) (bit_at bits a) (2 ^ a)
    ∙ ap (λ x. x + bit_at bits a * 2 ^ a) (mul_assoc high 2 (2 ^ a) ∙ ap (λ x. high * x) (sym power)) in
    elim (cases_Bool (has_bit bits a)) [
      | inl set ↦
          let here : bit_at bits a * 2 ^ a ≡ 2 ^ a = rw (eqb-true (bit_at bits a) 1 set) (one-mul (2 ^ a)) in
          rw set (omega (arith, rest, whole, here))
      | inr clear ↦
          let zero_bit : bit_at bits a ≡ 0 = omega (arith, bit_at-lt bits a, eqb-false (bit_at bits a) 1 clear) in
          let here : bit_at bits a * 2 ^ a ≡ 0 = rw zero_bit (zero-mul (2 ^ a)) in
          rw clear (omega (arith, rest, whole, here))
    ]

-- the bits that represent the set of some bits are those bits
pub bits_of-slots_of : (bits : ℕ) → bits < 2 ^ 64 → bits_of (slots_of bits) ≡ bits
unfolding slots_where
bits_of-slots_of bits small =
    let whole : bits / 2 ^ 0 % 2 ^ 64 * 2 ^ 0 ≡ bits = omega arith in
    bits_of_range bits 0 64 ∙ whole
