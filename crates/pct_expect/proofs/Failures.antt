-- The search for the first event at which a rule fails. M says which events ask for another event, and H which of them have it.
use Rattle.pct_names.proofs.Names.{◌+◌, ◌<◌, arith, cases_lt, inl, inr, le_refl, None, Option, refl, Some, subst, ℕ, ◌≡◌, ◌≤◌}
use Rattle.pct_expect.specs.Answers.{IsFirst}

-- n is the number of the first event, from index k on, that asks and has not
pub record IsFirstFrom (M H : ℕ → Type 0) (k n : ℕ) : Type 0 where
  pub index : ℕ
  pub number : n ≡ index + 1
  pub past : k ≤ index
  pub asks : M index
  pub lacks : H index → ⊥
  pub served : (i : ℕ) → k ≤ i → i < index → M i → H i

-- the number of the first such event, or none if there is no such event
abbrev pub FoundFrom : (ℕ → Type 0) → (ℕ → Type 0) → ℕ → Option ℕ → Type 0
FoundFrom M H k None = (i : ℕ) → k ≤ i → M i → H i
FoundFrom M H k (Some n) = IsFirstFrom M H k n

-- one more index before the others
pub from_one_less : (P : ℕ → Type 0) (j k : ℕ) → k ≡ j + 1 → P j → ((i : ℕ) → k ≤ i → P i) → (i : ℕ) → j ≤ i → P i
from_one_less P j k next here more i after =
    elim (cases_lt j i) [
      | inl later ↦ more i (omega arith)
      | inr same ↦ let is : j ≡ i = omega arith in subst P is here
    ]

-- one more index at the end
pub to_one_more : (P : ℕ → Type 0) (k : ℕ) → ((i : ℕ) → i < k → P i) → P k → (i : ℕ) → i < k + 1 → P i
to_one_more P k before here i below =
    elim (cases_lt i k) [
      | inl earlier ↦ before i earlier
      | inr same ↦ let is : k ≡ i = omega arith in subst P is here
    ]

-- ---- backwards

pub found_here : (M H : ℕ → Type 0) (j : ℕ) → M j → (H j → ⊥) → FoundFrom M H j (Some (j + 1))
found_here M H j asks lacks = record { index = j; number = refl; past = le_refl j; asks = asks; lacks = lacks; served = λ i after before m. absurd (omega arith) }

pub found_more : (M H : ℕ → Type 0) (j k : ℕ) (found : Option ℕ) → k ≡ j + 1 → FoundFrom M H k found → (M j → H j) → FoundFrom M H j found
found_more M H j k None next more here = from_one_less (λ i. M i → H i) j k next here more
found_more M H j k (Some n) next more here = record {
  index = more.index;
  number = more.number;
  past = omega (arith, more.past);
  asks = more.asks;
  lacks = more.lacks;
  served = from_one_less (λ i. i < more.index → M i → H i) j k next (λ before. here) more.served;
}

pub found_none : (M H : ℕ → Type 0) (k : ℕ) → ((i : ℕ) → k ≤ i → M i → ⊥) → FoundFrom M H k None
found_none M H k none = λ i after m. absurd (none i after m)

-- all events before index k have what they ask for
pub found_all : (M H : ℕ → Type 0) (k : ℕ) (found : Option ℕ) → FoundFrom M H k found → ((i : ℕ) → i < k → M i → H i) → FoundFrom M H 0 found
found_all M H k None more before = λ i after.
    elim (cases_lt i k) [
      | inl earlier ↦ before i earlier
      | inr later ↦ more i later
    ]
found_all M H k (Some n) more before = record {
  index = more.index;
  number = more.number;
  past = omega arith;
  asks = more.asks;
  lacks = more.lacks;
  served = λ i after below.
      elim (cases_lt i k) [
        | inl earlier ↦ before i earlier
        | inr later ↦ more.served i later below
      ];
}

-- ---- what was found

pub first_of_all : (M H : ℕ → Type 0) (n : ℕ) → IsFirstFrom M H 0 n → IsFirst (λ i. M i × (H i → ⊥)) n
first_of_all M H n f = record { index = f.index; number = f.number; found = (f.asks, f.lacks); first = λ i below p. p.1 (f.served i (omega arith) below p.0) }

pub refuted : (M H : ℕ → Type 0) (k n : ℕ) → IsFirstFrom M H k n → ((i : ℕ) → M i → H i) → ⊥
refuted M H k n f holds = f.lacks (holds f.index f.asks)

pub all_served : (M H : ℕ → Type 0) → FoundFrom M H 0 None → (i : ℕ) → M i → H i
all_served M H more i m = more i (omega arith) m
