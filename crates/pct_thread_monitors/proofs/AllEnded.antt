-- Each known thread of a process has ended exactly if none is held as one that has not.
use Rattle.std.proofs.Common.{◌≡◌, ℕ, Bool, true, false, not, ◌&&◌, List, refl, sym, ◌∙◌, true≢false}
use Rattle.std.proofs.lemmas.Bool.{and_parts, false_from_ne_true}
use Rattle.pct_model.specs.declared.event.Event.{Event}
use Rattle.pct_laws.specs.AfterEnd.{all_have_ended}
use Rattle.pct_laws.specs.KnownIds.{known_ids}
use Rattle.pct_laws.specs.KnownThreads.{is_known}
use Rattle.pct_laws.specs.ThreadSummary.{thread_ended}
use Rattle.pct_thread_monitors.proofs.KnownIds.{among_known, all_from_members, member_passes}

ended_by : (known ended : Bool) → (known && not ended) ≡ false → known ≡ true → ended ≡ true
ended_by true true none is = refl
ended_by true false none is = absurd (true≢false none)
ended_by false ended none is = absurd (true≢false (sym is))

not_both : (ended : Bool) → ended ≡ true → not ended ≡ true → ⊥
not_both true is other = true≢false (sym other)
not_both false is other = true≢false (sym is)

module _ (pid : ℕ) (events : List Event) (unended : ℕ → Bool)
    (told : (tid : ℕ) → unended tid ≡ (is_known pid tid events && not (thread_ended pid tid events))) where
  abbrev has_ended : ℕ → Bool
  has_ended tid = thread_ended pid tid events

  all_end : ((tid : ℕ) → unended tid ≡ false) → all_have_ended pid events ≡ true
  all_end none =
      all_from_members has_ended (known_ids pid events)
      (λ tid among.
      ended_by (is_known pid tid events) (has_ended tid) (sym (told tid) ∙ none tid) (sym (among_known tid pid events) ∙ among))

  one_goes_on : (tid : ℕ) → unended tid ≡ true → all_have_ended pid events ≡ false
  one_goes_on tid goes_on =
      let parts = and_parts (is_known pid tid events) (not (has_ended tid)) (sym (told tid) ∙ goes_on) in
      false_from_ne_true (all_have_ended pid events)
      (λ all.
      not_both (has_ended tid) (member_passes has_ended (known_ids pid events) tid all (among_known tid pid events ∙ parts.0)) parts.1)

  pub ended_told : (free : Bool) → (free ≡ true → (tid : ℕ) → unended tid ≡ false) → (free ≡ false → (tid : ℕ) × (unended tid ≡ true))
      → free ≡ all_have_ended pid events
  ended_told true none some = sym (all_end (none refl))
  ended_told false none some = sym (one_goes_on (some refl).0 (some refl).1)
