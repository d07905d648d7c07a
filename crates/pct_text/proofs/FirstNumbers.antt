-- The loop over bytes reads the number before the first space.
use Rattle.pct_names.proofs.Names.{◌>>=◌, [], ap, Bool, cond, false, List, nat_eq, None, number_of, Option, option_map, refl, Some}
use Rattle.pct_names.proofs.Names.{split_once, sym, true, ℕ, ◌∙◌, ◌∷◌, ◌≡◌}
use Rattle.std.proofs.Common.{eqb-true}
use Rattle.pct_text.specs.FirstNumber.{split_number}
use Rattle.pct_text.specs.Digits.{with_digit, with_next, number_from, number_in, number_until, split_number_in}
use Rattle.pct_text.proofs.Numbers.{number_as_read}

-- the number that a word is read as, with the bytes after the word
abbrev with_rest : Option ℕ → List ℕ → Option (ℕ × List ℕ)
with_rest o bytes = o >>= λ n. Some (n, bytes)

-- the number of a word, and the bytes after the word, where a line is split
abbrev number_by : (List ℕ → Option ℕ) → Option (List ℕ × List ℕ) → Option (ℕ × List ℕ)
number_by read o = o >>= λ parts. with_rest (read parts.0) parts.1

-- a first byte that is not the space, whose value is o, before a line that is split
split_step : (o : Option ℕ) (later : Option (List ℕ × List ℕ)) (until : ℕ → Option (ℕ × List ℕ)) → ((n : ℕ) → until n ≡ number_by (number_from n) later)
    → (o >>= until) ≡ number_by (λ digits. o >>= λ n. number_from n digits) later
split_step None None until each = refl
split_step None (Some parts) until each = refl
split_step (Some n) later until each = each n

first_step : (read : List ℕ → Option ℕ) (b : ℕ) (later : Option (List ℕ × List ℕ)) → number_by read (option_map (λ parts. (b ∷ parts.0, parts.1)) later) ≡ number_by (λ digits. read (b ∷ digits)) later
first_step read b None = refl
first_step read b (Some parts) = refl

until_step : (space : Bool) (n b : ℕ) (bytes : List ℕ) → ((m : ℕ) → number_until m bytes ≡ number_by (number_from m) (split_once 32 bytes))
    → cond space (Some (n, bytes)) (with_next n b >>= λ m. number_until m bytes) ≡ number_by (number_from n) (cond space (Some ([], bytes)) (option_map (λ parts. (b ∷ parts.0, parts.1)) (split_once 32 bytes)))
unfolding number_from
until_step true n b bytes each = refl
until_step false n b bytes each = split_step (with_next n b) (split_once 32 bytes) (λ m. number_until m bytes) each ∙ sym (first_step (number_from n) b (split_once 32 bytes))

until_space : (n : ℕ) (bytes : List ℕ) → number_until n bytes ≡ number_by (number_from n) (split_once 32 bytes)
unfolding number_until split_once
until_space n [] = refl
until_space n (b ∷ bytes) = until_step (nat_eq b 32) n b bytes (λ m. until_space m bytes)

space_first : (b : ℕ) (bytes : List ℕ) → b ≡ 32 → (with_digit 0 b >>= λ n. number_until n bytes) ≡ None
unfolding with_digit
space_first b bytes e = ap (λ (c : ℕ). with_digit 0 c >>= λ n. number_until n bytes) e

in_step : (space : Bool) (b : ℕ) (bytes : List ℕ) → nat_eq b 32 ≡ space
    → split_number_in (b ∷ bytes) ≡ number_by number_in (cond space (Some ([], bytes)) (option_map (λ parts. (b ∷ parts.0, parts.1)) (split_once 32 bytes)))
unfolding split_number_in number_in
in_step true b bytes e = space_first b bytes (eqb-true b 32 e)
in_step false b bytes e =
    split_step (with_digit 0 b) (split_once 32 bytes) (λ n. number_until n bytes) (λ n. until_space n bytes) ∙ sym (first_step number_in b (split_once 32 bytes))

by_split : (bytes : List ℕ) → split_number_in bytes ≡ number_by number_in (split_once 32 bytes)
unfolding split_number_in split_once
by_split [] = refl
by_split (b ∷ bytes) = in_step (nat_eq b 32) b bytes refl

as_number : (o : Option (List ℕ × List ℕ)) → number_by number_in o ≡ number_by number_of o
as_number None = refl
as_number (Some parts) = ap (λ n. with_rest n parts.1) (number_as_read parts.0)

-- the loop gives the number before the first space, and the bytes after it
pub split_number_as_read : (bytes : List ℕ) → split_number_in bytes ≡ split_number bytes
unfolding split_number
split_number_as_read bytes = by_split bytes ∙ as_number (split_once 32 bytes)
