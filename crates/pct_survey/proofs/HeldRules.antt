-- Which rules hold, by what their loops have found.
use Rattle.std.proofs.lemmas.Bool.{eqb-true, eq-eqb}
use Rattle.std.specs.Bool.{Decides}
use Rattle.pct_names.proofs.Names.{◌==◌, [], ap, ap₂, arith, Bool, count_by, cond, false, false≢true, List, list_any, map, not}
use Rattle.pct_names.proofs.Names.{refl, slice_get, suc, sym, true, zero, ℕ, ◌∙◌, ◌∷◌, ◌≡◌, ◌+◌, ◌≤◌, bytes_eq, option_map_or, sum_by-cons}
use Rattle.pct_expect.specs.declared.rule.Rule.{Rule}
use Rattle.pct_expect.specs.declared.rule.RuleKind.TheVariants as kind
use Rattle.pct_expect.specs.Answers.{HasLater, HasLaterInThread, HoldsAs}
use Rattle.pct_expect.specs.Events.{MatchesAt, thread_at}
use Rattle.pct_expect.proofs.Failures.{refuted}
use Rattle.pct_expect.proofs.RuleFailures.{AreFollowed, after_here, thread_here}

-- a test that is passed, and one that is not
pub yes : {P : Type 0} → P → Decides true P
yes p = ((λ _. p), (λ _. refl))

pub no : {P : Type 0} → (P → ⊥) → Decides false P
no refutes = ((λ e. absurd (false≢true e)), (λ p. absurd (refutes p)))

pub tested : {P : Type 0} (r t : Bool) → r ≡ t → Decides t P → Decides r P
tested r t same d = ((λ e. d.0 (sym same ∙ e)), (λ p. same ∙ d.1 p))

-- ---- never

module _ {X Y : Type 0} (line : X → Y) (test : Y → Bool) where
  -- an item of the list passes, by its index
  abbrev At : List X → ℕ → Type 0
  At xs i = option_map_or test (slice_get (map line xs) i) false ≡ true

  counted_none : (xs : List X) → count_by (λ x. test (line x)) xs ≡ 0 → (i : ℕ) → At xs i → ⊥
  counted_none [] is i at = false≢true at
  counted_none (x ∷ xs) is zero at =
      let one : ◌≡◌ {A = ℕ} (cond (test (line x)) 1 0) 1 = ap (λ (t : Bool). cond t 1 0) at in
      let all : count_by (λ y. test (line y)) (x ∷ xs) ≡ cond (test (line x)) 1 0 + count_by (λ y. test (line y)) xs = sum_by-cons (λ y. cond (test (line y)) 1 0) x xs in
      absurd (omega (arith, is, one, all))
  counted_none (x ∷ xs) is (suc i) at =
      let all : count_by (λ y. test (line y)) (x ∷ xs) ≡ cond (test (line x)) 1 0 + count_by (λ y. test (line y)) xs = sum_by-cons (λ y. cond (test (line y)) 1 0) x xs in
      counted_none xs (omega (arith, is, all)) i at

  none_counts : (xs : List X) → ((i : ℕ) → At xs i → ⊥) → count_by (λ x. test (line x)) xs ≡ 0
  none_counts [] none = refl
  none_counts (x ∷ xs) none =
      let here : ◌≡◌ {A = ℕ} (cond (test (line x)) 1 0) 0 = fails (test (line x)) (none 0) in
      let more = none_counts xs (λ i. none (suc i)) in
      sum_by-cons (λ y. cond (test (line y)) 1 0) x xs ∙ ap₂ ◌+◌ here more
    where
      fails : (b : Bool) → (b ≡ true → ⊥) → ◌≡◌ {A = ℕ} (cond b 1 0) 0
      fails true not = absurd (not refl)
      fails false not = refl

  -- none is counted exactly if no event matches
  pub never_counted : (xs : List X) (n : ℕ) → n ≡ count_by (λ x. test (line x)) xs → Decides (n == 0) ((i : ℕ) → At xs i → ⊥)
  never_counted xs n is = ((λ e. counted_none xs (sym is ∙ eqb-true n 0 e)), (λ none. eq-eqb n 0 (is ∙ none_counts xs none)))

  pub count_mapped : (xs : List X) → count_by test (map line xs) ≡ count_by (λ x. test (line x)) xs
  count_mapped [] = refl
  count_mapped (x ∷ xs) =
      sum_by-cons (λ y. cond (test y) 1 0) (line x) (map line xs) ∙ ap (λ (n : ℕ). cond (test (line x)) 1 0 + n) (count_mapped xs) ∙ sym (sum_by-cons (λ y. cond (test (line y)) 1 0) x xs)

-- ---- count

pub count_tested : (n m k : ℕ) → n ≡ m → k ≡ m → (asked : ℕ) → Decides (n == asked) (k ≡ asked)
count_tested n m k is same asked = ((λ e. same ∙ sym is ∙ eqb-true n asked e), (λ e. eq-eqb n asked (is ∙ sym same ∙ e)))

-- ---- after, thread

pub after_fails : (rule : Rule) (events : List (List (List ℕ))) (j k : ℕ) → k ≡ j + 1 → ((i : ℕ) → k ≤ i → MatchesAt rule.second events i → ⊥) → MatchesAt rule.first events j → HoldsAs kind.After rule events → ⊥
after_fails rule events j k next none m = refuted (MatchesAt rule.first events) (HasLater rule.second events) j (j + 1) (after_here rule events j k next none m)

pub thread_fails : (rule : Rule) (events : List (List (List ℕ))) (j k : ℕ) (names : List (List ℕ)) → k ≡ j + 1 → AreFollowed rule.second events k names → list_any (bytes_eq (thread_at events j)) names ≡ false
    → MatchesAt rule.first events j → HoldsAs kind.Thread rule events → ⊥
thread_fails rule events j k names next followed out m = refuted (MatchesAt rule.first events) (HasLaterInThread rule.second events) j (j + 1) (thread_here rule events j k names next followed out m)
