-- Which rules hold of a list of events, and which number is reported of a rule that does not.
use Rattle.std.specs.Prelude.{◌≡◌, ℕ, ◌+◌, ◌<◌, List, count_by}
use Rattle.std.specs.Bool.{MatchBool}
use Rattle.std.specs.List.{AllZip}
use Rattle.pct_expect.specs.declared.rule.Rule.{Rule}
use Rattle.pct_expect.specs.declared.rule.RuleKind.{RuleKind}
use Rattle.pct_expect.specs.declared.rule.RuleKind.TheVariants as kind
use Rattle.pct_expect.specs.declared.verdict.Judged.{Judged}
use Rattle.pct_expect.specs.Events.{MatchesAt, matches, thread_at}

-- an event before event i matches the pattern
abbrev pub HasEarlier : List (List ℕ) → List (List (List ℕ)) → ℕ → Type 0
HasEarlier pattern events i = (j : ℕ) × (j < i) × MatchesAt pattern events j

-- an event after event i matches the pattern
abbrev pub HasLater : List (List ℕ) → List (List (List ℕ)) → ℕ → Type 0
HasLater pattern events i = (j : ℕ) × (i < j) × MatchesAt pattern events j

-- an event after event i, of its thread, matches the pattern
abbrev pub HasLaterInThread : List (List ℕ) → List (List (List ℕ)) → ℕ → Type 0
HasLaterInThread pattern events i = (j : ℕ) × (i < j) × (thread_at events j ≡ thread_at events i) × MatchesAt pattern events j

-- ---- rules

-- a rule of a kind holds of the events
abbrev pub HoldsAs : RuleKind → Rule → List (List (List ℕ)) → Type 0
HoldsAs kind.Never rule events = (i : ℕ) → MatchesAt rule.first events i → ⊥
HoldsAs kind.Count rule events = count_by (matches rule.first) events ≡ rule.number
HoldsAs kind.Before rule events = (i : ℕ) → MatchesAt rule.second events i → HasEarlier rule.first events i
HoldsAs kind.After rule events = (i : ℕ) → MatchesAt rule.first events i → HasLater rule.second events i
HoldsAs kind.Thread rule events = (i : ℕ) → MatchesAt rule.first events i → HasLaterInThread rule.second events i

-- the rule holds of the events
abbrev pub Holds : Rule → List (List (List ℕ)) → Type 0
Holds rule events = HoldsAs rule.kind rule events

-- n is the number, counted from 1, of the first event with a property
pub record IsFirst (P : ℕ → Type 0) (n : ℕ) : Type 0 where
  pub index : ℕ
  pub number : n ≡ index + 1
  pub found : P index
  pub first : (i : ℕ) → i < index → P i → ⊥

-- the number that is reported of a rule of a kind that does not hold
abbrev pub MissAs : RuleKind → Rule → List (List (List ℕ)) → ℕ → Type 0
MissAs kind.Never rule events n = IsFirst (MatchesAt rule.first events) n
MissAs kind.Count rule events n = n ≡ count_by (matches rule.first) events
MissAs kind.Before rule events n = IsFirst (λ i. MatchesAt rule.second events i × (HasEarlier rule.first events i → ⊥)) n
MissAs kind.After rule events n = IsFirst (λ i. MatchesAt rule.first events i × (HasLater rule.second events i → ⊥)) n
MissAs kind.Thread rule events n = IsFirst (λ i. MatchesAt rule.first events i × (HasLaterInThread rule.second events i → ⊥)) n

-- n is the number that is reported of the rule, which does not hold of the events
abbrev pub Miss : Rule → List (List (List ℕ)) → ℕ → Type 0
Miss rule events n = MissAs rule.kind rule events n

-- ---- answers

-- the answer to a rule: whether it holds, and the number that is reported if it does not, else 0
pub record IsAnswer (events : List (List (List ℕ))) (rule : Rule) (answer : Judged) : Type 0 where
  pub line : answer.line ≡ rule.line
  pub verdict : MatchBool answer.holds (Holds rule events × (answer.number ≡ 0)) ((Holds rule events → ⊥) × Miss rule events answer.number)

-- one answer for each rule, in order
abbrev pub AreAnswers : List (List (List ℕ)) → List Rule → List Judged → Type 0
AreAnswers events rules answers = AllZip (IsAnswer events) rules answers
