-- The first law that is broken, after an event more.
use Rattle.std.proofs.Common.{◌≡◌, ℕ, ◌+◌, ◌<◌, ◌≤◌, Bool, true, false, not, ◌&&◌, cond, List, [], ◌∷◌, length, take, reverse, get_or, Option, Some, None, refl, ap, ◌∙◌, subst, arith, ◌⊎◌, inl, inr}
use Rattle.std.specs.Prelude.{find}
use Rattle.std.proofs.lemmas.Bool.{cases_lt}
use Rattle.std.proofs.lemmas.List.{take_more, reverse-append}
use Rattle.pct_model.specs.declared.event.Event.{Event}
use Rattle.pct_audit.specs.declared.law.Law.{Law}
use Rattle.pct_audit.specs.AuditOf.{judged_laws, allows, keeps, first_broken, first_broken_by, first_events}

found_by : (kept allowed : Bool) (law : Law) (rest with_event with_past : Option Law) → cond (not kept) (Some law) rest ≡ None → (rest ≡ None → with_past ≡ with_event)
    → cond (not (allowed && kept)) (Some law) with_past ≡ cond (not allowed) (Some law) with_event
found_by true true law rest with_event with_past none same = same none
found_by true false law rest with_event with_past none same = refl
found_by false allowed law rest with_event with_past none same = absurd cc

-- where the events before keep the laws, the first law that fails is the first that does not allow the event
found_told : (passes slots : ℕ) (e : Event) (events : List Event) (laws : List Law) → find (λ law. not (keeps law passes slots events)) laws ≡ None
    → find (λ law. not (keeps law passes slots (e ∷ events))) laws ≡ find (λ law. not (allows law passes slots e events)) laws
found_told passes slots e events [] none = refl
found_told passes slots e events (law ∷ laws) none =
    found_by (keeps law passes slots events) (allows law passes slots e events) law (find (λ law. not (keeps law passes slots events)) laws) _ _ none (found_told passes slots e events laws)

pub broken_told : (passes slots : ℕ) (e : Event) (events : List Event) → first_broken passes slots events ≡ None → first_broken passes slots (e ∷ events) ≡ first_broken_by passes slots e events
broken_told passes slots e events none = found_told passes slots e events judged_laws none

pub first_more : (events : List Event) (i : ℕ) (d : Event) → i < length events → first_events (i + 1) events ≡ get_or events i d ∷ first_events i events
first_more events i d within = ap reverse (take_more events i d within) ∙ reverse-append (take i events) (get_or events i d ∷ [])

-- what holds of the numbers up to one, and of the next one, holds of the numbers up to that
pub kept_up_to : (P : ℕ → Type 0) (i : ℕ) → ((k : ℕ) → k ≤ i → P k) → P (i + 1) → (k : ℕ) → k ≤ i + 1 → P k
kept_up_to P i before last k low = by_place (cases_lt i k)
  where
    by_place : (i < k) ⊎ (k ≤ i) → P k
    by_place (inl later) = subst P (omega (arith, later, low)) last
    by_place (inr earlier) = before k earlier
