-- A number of one digit before a space.
use Rattle.pct_names.proofs.Names.{◌+◌, ◌*◌, ◌-◌, ◌&&◌, ◌>>=◌, ap, arith, is_digit, List, nat_le, None, Option, Some, sym, true, ℕ, ◌∙◌, ◌∷◌, ◌≡◌, ◌≤◌}
use Rattle.std.proofs.lemmas.Bool.{and_parts, and_from, cond-true, leb-true, le-leb}
use Rattle.pct_text.specs.FirstNumber.{split_number}
use Rattle.pct_text.specs.Digits.{with_digit, number_until, split_number_in}
use Rattle.pct_text.proofs.FirstNumbers.{split_number_as_read}

digit_value : (d : ℕ) → is_digit d ≡ true → with_digit 0 d ≡ Some (d - 48)
unfolding with_digit
digit_value d is =
    let small : d ≤ 57 = leb-true d 57 (and_parts (nat_le 48 d) (nat_le d 57) is).1 in
    cond-true (is_digit d && nat_le (0 * 10 + (d - 48)) 4294967295) (Some (0 * 10 + (d - 48))) None
    (and_from (is_digit d) (nat_le (0 * 10 + (d - 48)) 4294967295) is (le-leb (0 * 10 + (d - 48)) 4294967295 (omega (arith, small))))
    ∙ ap Some {x = 0 * 10 + (d - 48)} {y = d - 48} (omega arith)

pub digit_first : (d : ℕ) (rest : List ℕ) → is_digit d ≡ true → split_number (d ∷ 32 ∷ rest) ≡ Some (d - 48, rest)
unfolding split_number_in number_until
digit_first d rest is = sym (split_number_as_read (d ∷ 32 ∷ rest)) ∙ ap (λ (o : Option ℕ). o >>= λ n. number_until n (32 ∷ rest)) (digit_value d is)
