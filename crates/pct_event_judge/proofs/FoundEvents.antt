-- The first event that a law does not allow.
use Rattle.std.proofs.Common.{◌≡◌, ℕ, ◌+◌, ◌-◌, ◌<◌, ◌≤◌, Bool, true, List, [], ◌∷◌, ◌++◌, length, take, drop, reverse, get_or, Option, Some, None, refl, sym, ap, ◌∙◌, subst, arith, ◌⊎◌, inl, inr, true≢false}
use Rattle.std.proofs.lemmas.Bool.{and_parts, cases_lt}
use Rattle.std.proofs.lemmas.List.{reverse-append, take-append-drop, take-take, take_more}
use Rattle.pct_model.specs.declared.event.Event.{Event}
use Rattle.pct_laws.specs.Each.{each}
use Rattle.pct_audit.specs.AuditOf.{first_events}
use Rattle.pct_event_judge.specs.Findings.{IsFound, IsFirstRefused}

-- the first events, and one more
pub one_more : (events : List Event) (i : ℕ) (d : Event) → i < length events → first_events (i + 1) events ≡ get_or events i d ∷ first_events i events
one_more events i d within = ap reverse (take_more events i d within) ∙ reverse-append (take i events) (get_or events i d ∷ [])

module _ (allows : Event → List Event → Bool) where
  each_later : (newer older : List Event) → each allows (newer ++ older) ≡ true → each allows older ≡ true
  each_later [] older kept = kept
  each_later (e ∷ newer) older kept = each_later newer older (and_parts (allows e (newer ++ older)) (each allows (newer ++ older)) kept).1

  -- where the first n events keep the law, so do fewer
  pub kept_before : (events : List Event) (k n : ℕ) → k ≤ n → each allows (first_events n events) ≡ true → each allows (first_events k events) ≡ true
  kept_before events k n low kept =
      let first : List Event = take n events in
      let split : reverse first ≡ reverse (drop k first) ++ reverse (take k first) =
      ap (λ (all : List Event). reverse all) (sym (take-append-drop k first)) ∙ reverse-append (take k first) (drop k first) in
      subst (λ (all : List Event). each allows (reverse all) ≡ true) (take-take k n events low)
      (each_later (reverse (drop k first)) (reverse (take k first)) (subst (λ (all : List Event). each allows all ≡ true) split kept))

  -- no event is refused where all keep the law
  not_refused : (events : List Event) (n k : ℕ) → each allows (first_events n events) ≡ true → IsFirstRefused allows events n k → ⊥
  not_refused events n k kept is = absurd (true≢false (sym (kept_before events k n is.within kept) ∙ is.refused))

  not_before : (events : List Event) (n k j : ℕ) → IsFirstRefused allows events n k → IsFirstRefused allows events n j → j ≤ k
  not_before events n k j one other = by_place (cases_lt k j)
    where
      by_place : (k < j) ⊎ (j ≤ k) → j ≤ k
      by_place (inl earlier) =
          absurd (true≢false (sym (kept_before events k (j - 1) (omega (arith, earlier)) other.kept) ∙ one.refused))
      by_place (inr later) = later

  -- at most one event is the first that is not allowed
  pub found_is_one : (events : List Event) (n : ℕ) (one other : Option ℕ) → IsFound allows events n one → IsFound allows events n other → one ≡ other
  found_is_one events n None None is also = refl
  found_is_one events n None (Some k) is also = absurd (not_refused events n k is also)
  found_is_one events n (Some k) None is also = absurd (not_refused events n k also is)
  found_is_one events n (Some k) (Some j) is also =
      ap (λ (x : ℕ). Some x) (omega (arith, not_before events n k j is also, not_before events n j k also is))
