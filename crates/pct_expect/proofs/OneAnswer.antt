-- Rules have one list of answers for a list of events.
use Rattle.pct_names.proofs.Names.{◌+◌, [], ap, Bool, cases_order, false, inl, inr, List, refl, sym, true, ℕ, ◌∙◌, ◌∷◌, ◌≡◌}
use Rattle.std.specs.Bool.{MatchBool}
use Rattle.pct_expect.specs.declared.rule.Rule.{Rule}
use Rattle.pct_expect.specs.declared.rule.RuleKind.{RuleKind}
use Rattle.pct_expect.specs.declared.rule.RuleKind.TheVariants as kind
use Rattle.pct_expect.specs.declared.verdict.Judged.{Judged}
use Rattle.pct_expect.specs.Answers.{AreAnswers, HasEarlier, HasLater, HasLaterInThread, Holds, IsAnswer, IsFirst, Miss, MissAs}
use Rattle.pct_expect.specs.Events.{MatchesAt}

-- one event is the first
first_is_one : (P : ℕ → Type 0) (n m : ℕ) → IsFirst P n → IsFirst P m → n ≡ m
first_is_one P n m f g =
    let same : f.index ≡ g.index =
    elim (cases_order f.index g.index) [
      | inl is ↦ is
      | inr other ↦
          absurd (elim other [
            | inl before ↦ g.first f.index before f.found
            | inr after ↦ f.first g.index after g.found
          ])
    ] in
    f.number ∙ ap (λ (i : ℕ). i + 1) same ∙ sym g.number

miss_is_one : (rule_kind : RuleKind) (rule : Rule) (events : List (List (List ℕ))) (n m : ℕ) → MissAs rule_kind rule events n → MissAs rule_kind rule events m → n ≡ m
miss_is_one kind.Never rule events n m f g = first_is_one (MatchesAt rule.first events) n m f g
miss_is_one kind.Count rule events n m f g = f ∙ sym g
miss_is_one kind.Before rule events n m f g = first_is_one (λ i. MatchesAt rule.second events i × (HasEarlier rule.first events i → ⊥)) n m f g
miss_is_one kind.After rule events n m f g = first_is_one (λ i. MatchesAt rule.first events i × (HasLater rule.second events i → ⊥)) n m f g
miss_is_one kind.Thread rule events n m f g = first_is_one (λ i. MatchesAt rule.first events i × (HasLaterInThread rule.second events i → ⊥)) n m f g

-- whether the rule holds, with the number, are one
abbrev IsVerdict : Rule → List (List (List ℕ)) → Bool → ℕ → Type 0
IsVerdict rule events holds n = MatchBool holds (Holds rule events × (n ≡ 0)) ((Holds rule events → ⊥) × Miss rule events n)

same_test : (rule : Rule) (events : List (List (List ℕ))) (a b : Bool) (n m : ℕ) → IsVerdict rule events a n → IsVerdict rule events b m → a ≡ b
same_test rule events true true n m f g = refl
same_test rule events true false n m f g = absurd (g.0 f.0)
same_test rule events false true n m f g = absurd (f.0 g.0)
same_test rule events false false n m f g = refl

same_number : (rule : Rule) (events : List (List (List ℕ))) (a b : Bool) (n m : ℕ) → IsVerdict rule events a n → IsVerdict rule events b m → n ≡ m
same_number rule events true true n m f g = f.1 ∙ sym g.1
same_number rule events true false n m f g = absurd (g.0 f.0)
same_number rule events false true n m f g = absurd (f.0 g.0)
same_number rule events false false n m f g = miss_is_one rule.kind rule events n m f.1 g.1

abbrev answer_as : ℕ → Bool → ℕ → Judged
answer_as line holds number = record { line = line; holds = holds; number = number }

answer_is_one : (events : List (List (List ℕ))) (rule : Rule) (a b : Judged) → IsAnswer events rule a → IsAnswer events rule b → a ≡ b
answer_is_one events rule a b f g =
    ap (λ (n : ℕ). answer_as n a.holds a.number) (f.line ∙ sym g.line)
    ∙ ap (λ (t : Bool). answer_as b.line t a.number) (same_test rule events a.holds b.holds a.number b.number f.verdict g.verdict)
    ∙ ap (answer_as b.line b.holds) (same_number rule events a.holds b.holds a.number b.number f.verdict g.verdict)

pub answers_are_one : (events : List (List (List ℕ))) (rules : List Rule) (xs ys : List Judged) → AreAnswers events rules xs → AreAnswers events rules ys → xs ≡ ys
answers_are_one events [] [] [] f g = refl
answers_are_one events [] [] (y ∷ ys) f g = absurd g
answers_are_one events [] (x ∷ xs) ys f g = absurd f
answers_are_one events (rule ∷ rules) [] ys f g = absurd f
answers_are_one events (rule ∷ rules) (x ∷ xs) [] f g = absurd g
answers_are_one events (rule ∷ rules) (x ∷ xs) (y ∷ ys) f g =
    ap (λ (first : Judged). first ∷ xs) (answer_is_one events rule x y f.0 g.0) ∙ ap (λ (others : List Judged). y ∷ others) (answers_are_one events rules xs ys f.1 g.1)
