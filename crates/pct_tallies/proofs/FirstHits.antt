-- The first item of a numbered list that has a property.
use Rattle.std.proofs.Common.{◌≡◌, ℕ, zero, suc, ◌+◌, ◌<◌, ◌≤◌, Bool, true, false, List, [], ◌∷◌, find, refl, sym, subst, ap, arith, ◌⊎◌, inl, inr, cond, ◌∙◌}
use Rattle.std.proofs.lemmas.Bool.{cases_order}
use Rattle.std.specs.List.{AllZip, range_with_len, count_by}
use Rattle.std.specs.Prelude.{option_map, unwrap_or}
use Rattle.std.proofs.lemmas.List.Sums.{sum_by-cons}

module _ {X : Type 0} (has : X → Bool) (number_of : X → ℕ) (P : ℕ → X → Type 0) (numbered : (n : ℕ) (x : X) → P n x → number_of x ≡ n) where
  -- no item of the numbers from one on has it
  pub record NoneHas (from count : ℕ) (xs : List X) : Type 0 where
    pub runs : count_by has xs ≡ 0
    pub first : unwrap_or (option_map number_of (find has xs)) 0 ≡ 0
    pub each : (n : ℕ) → from ≤ n → n < from + count → (x : X) × P n x × (has x ≡ false)

  -- the item of a number has it, and none before that
  pub record OneHas (from count : ℕ) (xs : List X) : Type 0 where
    pub number : ℕ
    pub item : X
    pub runs : 0 < count_by has xs
    pub first : unwrap_or (option_map number_of (find has xs)) 0 ≡ number
    pub least : from ≤ number
    pub most : number < from + count
    pub of_number : P number item
    pub has_it : has item ≡ true
    pub before : (n : ℕ) → from ≤ n → n < number → (x : X) × P n x × (has x ≡ false)

  cases_has : (x : X) → (has x ≡ true) ⊎ (has x ≡ false)
  cases_has x = by_value (has x)
    where
      by_value : (b : Bool) → (b ≡ true) ⊎ (b ≡ false)
      by_value true = inl refl
      by_value false = inr refl

  counted : (x : X) (xs : List X) (b : Bool) → has x ≡ b → count_by has (x ∷ xs) ≡ cond b 1 0 + count_by has xs
  counted x xs b is = sum_by-cons (λ y. cond (has y) 1 0) x xs ∙ ap (λ (c : Bool). cond c 1 0 + count_by has xs) is

  counted_more : (x : X) (xs : List X) → has x ≡ false → count_by has (x ∷ xs) ≡ count_by has xs
  counted_more x xs lacks = let sum : count_by has (x ∷ xs) ≡ 0 + count_by has xs = counted x xs false lacks in omega (arith, sum)

  counted_one : (x : X) (xs : List X) → has x ≡ true → 0 < count_by has (x ∷ xs)
  counted_one x xs it = let sum : count_by has (x ∷ xs) ≡ 1 + count_by has xs = counted x xs true it in omega (arith, sum)

  found : (x : X) (xs : List X) (b : Bool) → has x ≡ b → unwrap_or (option_map number_of (find has (x ∷ xs))) 0 ≡ cond b (number_of x) (unwrap_or (option_map number_of (find has xs)) 0)
  found x xs true is = rw is refl
  found x xs false is = rw is refl

  none_more : (from count : ℕ) (x : X) (xs : List X) → P from x → has x ≡ false → NoneHas (from + 1) count xs → NoneHas from (suc count) (x ∷ xs)
  none_more from count x xs at lacks more = record {
    runs = counted_more x xs lacks ∙ more.runs;
    first = found x xs false lacks ∙ more.first;
    each = λ n low high. elim (cases_order from n) [
      | inr (inl later) ↦ more.each n (omega (arith, later)) (omega (arith, high))
      | inl equal ↦ (x, subst (λ (i : ℕ). P i x) equal at, lacks)
      | inr (inr before) ↦ absurd (omega (arith, low, before))
    ];
  }

  none_then_one : (from count : ℕ) (x : X) (xs : List X) → P from x → has x ≡ false → OneHas (from + 1) count xs → OneHas from (suc count) (x ∷ xs)
  none_then_one from count x xs at lacks more = record {
    number = more.number;
    item = more.item;
    runs = subst (λ (n : ℕ). 0 < n) (sym (counted_more x xs lacks)) more.runs;
    first = found x xs false lacks ∙ more.first;
    least = omega (arith, more.least);
    most = omega (arith, more.most);
    of_number = more.of_number;
    has_it = more.has_it;
    before = λ n low below. elim (cases_order from n) [
      | inr (inl later) ↦ more.before n (omega (arith, later)) below
      | inl equal ↦ (x, subst (λ (i : ℕ). P i x) equal at, lacks)
      | inr (inr before) ↦ absurd (omega (arith, low, before))
    ];
  }

  first_has : (from count : ℕ) (x : X) (xs : List X) → P from x → has x ≡ true → OneHas from (suc count) (x ∷ xs)
  first_has from count x xs at it = record {
    number = from;
    item = x;
    runs = counted_one x xs it;
    first = found x xs true it ∙ numbered from x at;
    least = omega arith;
    most = omega arith;
    of_number = at;
    has_it = it;
    before = λ n low below. absurd (omega (arith, low, below));
  }

  -- the items of the numbers from one on: none has it, or there is a first that has
  pub first_hit : (from count : ℕ) (xs : List X) → AllZip P (range_with_len from count) xs → NoneHas from count xs ⊎ OneHas from count xs
  first_hit from zero [] h = inl (record { runs = refl; first = refl; each = λ n low high. absurd (omega (arith, low, high)) })
  first_hit from zero (x ∷ xs) h = absurd h
  first_hit from (suc count) [] h = absurd h
  first_hit from (suc count) (x ∷ xs) h = elim (cases_has x) [
    | inl it ↦ inr (first_has from count x xs h.0 it)
    | inr lacks ↦ elim (first_hit (from + 1) count xs h.1) [
      | inl none ↦ inl (none_more from count x xs h.0 lacks none)
      | inr one ↦ inr (none_then_one from count x xs h.0 lacks one)
    ]
  ]
