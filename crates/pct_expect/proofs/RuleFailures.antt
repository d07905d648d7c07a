-- Where a rule of each kind fails.
use Rattle.pct_names.proofs.Names.{◌+◌, ◌<◌, ◌||◌, arith, ap, Bool, bytes_eq, cases_lt, false, false≢true, inl, inr, le_refl, List, list_any, None, Option, or_cases}
use Rattle.pct_names.proofs.Names.{or-true, Some, subst, sym, true, ℕ, ◌∙◌, ◌≡◌, ◌≤◌}
use Rattle.pct_model.proofs.Bytes.{bytes_eq-refl, same_bytes}
use Rattle.pct_expect.specs.declared.rule.Rule.{Rule}
use Rattle.pct_expect.specs.declared.rule.RuleKind.TheVariants as kind
use Rattle.pct_expect.specs.Answers.{HasLater, HasLaterInThread}
use Rattle.pct_expect.specs.Events.{MatchesAt, thread_at}
use Rattle.pct_expect.specs.Searches.{IsFailure}
use Rattle.pct_expect.proofs.Failures.{FoundFrom, all_served, first_of_all, found_all, found_here, found_more, from_one_less, refuted}

-- no event before index k matches the pattern
abbrev pub NoneBefore : List (List ℕ) → List (List (List ℕ)) → ℕ → Type 0
NoneBefore pattern events k = (i : ℕ) → i < k → MatchesAt pattern events i → ⊥

-- no event from index k on matches the pattern
abbrev pub NoneFrom : List (List ℕ) → List (List (List ℕ)) → ℕ → Type 0
NoneFrom pattern events k = (i : ℕ) → k ≤ i → MatchesAt pattern events i → ⊥

-- ---- never

pub never_fails : (rule : Rule) (events : List (List (List ℕ))) (k n : ℕ) → NoneBefore rule.first events k → n ≡ k + 1 → MatchesAt rule.first events k → IsFailure kind.Never rule events (Some n)
never_fails rule events k n none is m = (λ holds. holds k m, record { index = k; number = is; found = m; first = none })

pub never_holds : (rule : Rule) (events : List (List (List ℕ))) (k : ℕ) → NoneBefore rule.first events k → ((i : ℕ) → MatchesAt rule.first events i → i < k) → IsFailure kind.Never rule events None
never_holds rule events k none inside = λ i m. none i (inside i m) m

-- ---- before

pub before_fails : (rule : Rule) (events : List (List (List ℕ))) (k n : ℕ) → NoneBefore rule.first events k → NoneBefore rule.second events k → n ≡ k + 1 → MatchesAt rule.second events k
    → IsFailure kind.Before rule events (Some n)
before_fails rule events k n no_first no_second is m = (
  λ holds. let h = holds k m in no_first h.0 h.1 h.2,
  record { index = k; number = is; found = (m, λ h. no_first h.0 h.1 h.2); first = λ i below p. no_second i below p.0 },
)

-- event k matches the first pattern, and no event up to it the second
pub before_holds : (rule : Rule) (events : List (List (List ℕ))) (k : ℕ) → NoneBefore rule.second events (k + 1) → MatchesAt rule.first events k → IsFailure kind.Before rule events None
before_holds rule events k no_second m = λ i asks.
    elim (cases_lt k i) [
      | inl later ↦ (k, later, m)
      | inr earlier ↦ absurd (no_second i (omega arith) asks)
    ]

pub before_never_asks : (rule : Rule) (events : List (List (List ℕ))) (k : ℕ) → NoneBefore rule.second events k → ((i : ℕ) → MatchesAt rule.second events i → i < k) → IsFailure kind.Before rule events None
before_never_asks rule events k no_second inside = λ i asks. absurd (no_second i (inside i asks) asks)

-- ---- after

abbrev pub FoundAfter : Rule → List (List (List ℕ)) → ℕ → Option ℕ → Type 0
FoundAfter rule events k found = FoundFrom (MatchesAt rule.first events) (HasLater rule.second events) k found

pub after_here : (rule : Rule) (events : List (List (List ℕ))) (j k : ℕ) → k ≡ j + 1 → NoneFrom rule.second events k → MatchesAt rule.first events j → FoundAfter rule events j (Some (j + 1))
after_here rule events j k next none m = found_here (MatchesAt rule.first events) (HasLater rule.second events) j m (λ h. none h.0 (omega (arith, h.1)) h.2)

pub after_more : (rule : Rule) (events : List (List (List ℕ))) (j k : ℕ) (found : Option ℕ) → k ≡ j + 1 → FoundAfter rule events k found → (MatchesAt rule.first events j → ⊥) → FoundAfter rule events j found
after_more rule events j k found next more none = found_more (MatchesAt rule.first events) (HasLater rule.second events) j k found next more (λ m. absurd (none m))

after_done : (rule : Rule) (events : List (List (List ℕ))) (found : Option ℕ) → FoundAfter rule events 0 found → IsFailure kind.After rule events found
after_done rule events None more = all_served (MatchesAt rule.first events) (HasLater rule.second events) more
after_done rule events (Some n) more =
    (refuted (MatchesAt rule.first events) (HasLater rule.second events) 0 n more, first_of_all (MatchesAt rule.first events) (HasLater rule.second events) n more)

-- event k matches the second pattern
pub after_stops : (rule : Rule) (events : List (List (List ℕ))) (k : ℕ) (found : Option ℕ) → FoundAfter rule events k found → MatchesAt rule.second events k → IsFailure kind.After rule events found
after_stops rule events k found more m =
    after_done rule events found (found_all (MatchesAt rule.first events) (HasLater rule.second events) k found more (λ i below asks. (k, below, m)))

pub after_ends : (rule : Rule) (events : List (List (List ℕ))) (k : ℕ) (found : Option ℕ) → k ≡ 0 → FoundAfter rule events k found → IsFailure kind.After rule events found
after_ends rule events k found zero more = after_done rule events found (subst (λ (i : ℕ). FoundAfter rule events i found) zero more)

-- ---- thread

abbrev pub FoundInThread : Rule → List (List (List ℕ)) → ℕ → Option ℕ → Type 0
FoundInThread rule events k found = FoundFrom (MatchesAt rule.first events) (HasLaterInThread rule.second events) k found

-- the names are those of the threads with an event, from index k on, that matches the pattern
pub record AreFollowed (pattern : List (List ℕ)) (events : List (List (List ℕ))) (k : ℕ) (names : List (List ℕ)) : Type 0 where
  pub has : (name : List ℕ) → list_any (bytes_eq name) names ≡ true → (i : ℕ) × (k ≤ i) × (thread_at events i ≡ name) × MatchesAt pattern events i
  pub all : (i : ℕ) → k ≤ i → MatchesAt pattern events i → list_any (bytes_eq (thread_at events i)) names ≡ true

pub none_followed : (pattern : List (List ℕ)) (events : List (List (List ℕ))) (k : ℕ) (names : List (List ℕ)) → ((name : List ℕ) → list_any (bytes_eq name) names ≡ false) → NoneFrom pattern events k → AreFollowed pattern events k names
none_followed pattern events k names empty none = record {
  has = λ name is. absurd (false≢true (sym (empty name) ∙ is));
  all = λ i after m. absurd (none i after m);
}

pub thread_here : (rule : Rule) (events : List (List (List ℕ))) (j k : ℕ) (names : List (List ℕ)) → k ≡ j + 1 → AreFollowed rule.second events k names → list_any (bytes_eq (thread_at events j)) names ≡ false
    → MatchesAt rule.first events j → FoundInThread rule events j (Some (j + 1))
thread_here rule events j k names next followed out m =
    found_here (MatchesAt rule.first events) (HasLaterInThread rule.second events) j m
    (λ h. let has = followed.all h.0 (omega (arith, h.1)) h.3 in
    let same = ap (λ (name : List ℕ). list_any (bytes_eq name) names) h.2 in
    false≢true (sym out ∙ sym same ∙ has))

pub thread_more : (rule : Rule) (events : List (List (List ℕ))) (j k : ℕ) (found : Option ℕ) → k ≡ j + 1 → FoundInThread rule events k found
    → (MatchesAt rule.first events j → HasLaterInThread rule.second events j) → FoundInThread rule events j found
thread_more rule events j k found next more here = found_more (MatchesAt rule.first events) (HasLaterInThread rule.second events) j k found next more here

-- a thread whose name is there has a later event
pub thread_followed : (pattern : List (List ℕ)) (events : List (List (List ℕ))) (j k : ℕ) (names : List (List ℕ)) → k ≡ j + 1 → AreFollowed pattern events k names → list_any (bytes_eq (thread_at events j)) names ≡ true
    → HasLaterInThread pattern events j
thread_followed pattern events j k names next followed is =
    let h = followed.has (thread_at events j) is in
    (h.0, omega (arith, h.1), h.2, h.3)

-- event j does not match the pattern
pub followed_same : (pattern : List (List ℕ)) (events : List (List (List ℕ))) (j k : ℕ) (names : List (List ℕ)) → k ≡ j + 1 → AreFollowed pattern events k names → (MatchesAt pattern events j → ⊥) → AreFollowed pattern events j names
followed_same pattern events j k names next followed none = record {
  has = λ name is. let h = followed.has name is in (h.0, omega (arith, h.1), h.2, h.3);
  all = from_one_less (λ i. MatchesAt pattern events i → list_any (bytes_eq (thread_at events i)) names ≡ true) j k next (λ m. absurd (none m)) followed.all;
}

-- event j matches the pattern, and the name of its thread is added
pub followed_more : (pattern : List (List ℕ)) (events : List (List (List ℕ))) (j k : ℕ) (names more : List (List ℕ)) (added : List ℕ) → k ≡ j + 1 → AreFollowed pattern events k names
    → ((name : List ℕ) → list_any (bytes_eq name) more ≡ (bytes_eq name added || list_any (bytes_eq name) names)) → thread_at events j ≡ added → MatchesAt pattern events j → AreFollowed pattern events j more
followed_more pattern events j k names more added next followed puts name_is m = record {
  has = λ name is.
      elim (or_cases (bytes_eq name added) (list_any (bytes_eq name) names) (sym (puts name) ∙ is)) [
        | inl same ↦ (j, le_refl j, name_is ∙ sym (same_bytes name added same), m)
        | inr old ↦ let h = followed.has name old in (h.0, omega (arith, h.1), h.2, h.3)
      ];
  all = from_one_less (λ i. MatchesAt pattern events i → list_any (bytes_eq (thread_at events i)) more ≡ true) j k next
      (λ asks.
      puts (thread_at events j)
      ∙ ap (λ (t : Bool). t || list_any (bytes_eq (thread_at events j)) names) (ap (bytes_eq (thread_at events j)) (sym name_is) ∙ bytes_eq-refl (thread_at events j)))
      (λ i after asks.
      puts (thread_at events i)
      ∙ ap (λ (t : Bool). bytes_eq (thread_at events i) added || t) (followed.all i after asks)
      ∙ or-true (bytes_eq (thread_at events i) added));
}

pub thread_ends : (rule : Rule) (events : List (List (List ℕ))) (k : ℕ) (found : Option ℕ) → k ≡ 0 → FoundInThread rule events k found → IsFailure kind.Thread rule events found
thread_ends rule events k None zero more = all_served (MatchesAt rule.first events) (HasLaterInThread rule.second events) (subst (λ (i : ℕ). FoundInThread rule events i None) zero more)
thread_ends rule events k (Some n) zero more =
    let first = subst (λ (i : ℕ). FoundInThread rule events i (Some n)) zero more in
    (refuted (MatchesAt rule.first events) (HasLaterInThread rule.second events) 0 n first, first_of_all (MatchesAt rule.first events) (HasLaterInThread rule.second events) n first)
