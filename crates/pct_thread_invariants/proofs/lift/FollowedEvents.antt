-- Events that directly follow others, after the events of a step.
use Rattle.pct_names.proofs.Names.{◌&&◌, ◌++◌, [], and_from, and_parts, ap, Bool, Entry, Event, event_of, false, List, map, nat_eq, not}
use Rattle.pct_names.proofs.Names.{not-true, refl, true, What, ◌||◌, ◌∙◌, ◌∷◌, ◌≡◌}
use Rattle.std.proofs.Common.{eq-eqb}
use Rattle.pct_laws.specs.Each.{each}
use Rattle.pct_laws.specs.FollowedEvents.{newest_passes, follows, are_followed}
use Rattle.pct_laws.specs.KnownThreads.{is_own}

-- ---- the events of a step, newest first

-- the newest passes a test
abbrev newest_is : (What → Bool) → List What → Bool
newest_is test [] = false
newest_is test (w ∷ added) = test w

module _ (first second : What → Bool) where
  -- each of them is of the second kind, if the one before it is of the first
  abbrev all_follow : List What → Bool
  all_follow [] = true
  all_follow (w ∷ added) = (not (newest_is first added) || second w) && all_follow added

  -- and the newest is not of the first kind
  abbrev pub step_follows : List What → Bool
  step_follows added = all_follow added && not (newest_is first added)

  -- ---- the events of a run

  module _ (e : Entry) (earlier : List Event) (closed : newest_passes first earlier ≡ false) where
    -- any event may follow those before the step
    first_follows : (w : What) (events : List Event) → newest_passes first events ≡ false → follows first second (event_of e w) events ≡ true
    first_follows w [] none = refl
    first_follows w (x ∷ events) none = ap (λ (b : Bool). not b || (is_own x.pid x.tid (event_of e w) && second w)) none

    next_follows : (w : What) (added : List What) → (not (newest_is first added) || second w) ≡ true → follows first second (event_of e w) (map (event_of e) added ++ earlier) ≡ true
    next_follows w [] ok = first_follows w earlier closed
    next_follows w (x ∷ added) ok = ap (λ (own : Bool). not (first x) || (own && second w)) (and_from (nat_eq e.pid e.pid) (nat_eq e.tid e.tid) (eq-eqb e.pid e.pid refl) (eq-eqb e.tid e.tid refl)) ∙ ok

    all_later : each (follows first second) earlier ≡ true → (added : List What) → all_follow added ≡ true → each (follows first second) (map (event_of e) added ++ earlier) ≡ true
    all_later law [] ok = law
    all_later law (w ∷ added) ok = let parts = and_parts (not (newest_is first added) || second w) (all_follow added) ok in and_from _ _ (next_follows w added parts.0) (all_later law added parts.1)

    closed_later : (added : List What) → newest_is first added ≡ false → newest_passes first (map (event_of e) added ++ earlier) ≡ false
    closed_later [] none = closed
    closed_later (w ∷ added) none = none

  -- after the events of a step
  pub followed_later : (e : Entry) (earlier : List Event) → are_followed first second earlier ≡ true → (added : List What) → step_follows added ≡ true → are_followed first second (map (event_of e) added ++ earlier) ≡ true
  followed_later e earlier law added ok =
      let before = and_parts (each (follows first second) earlier) (not (newest_passes first earlier)) law in
      let step = and_parts (all_follow added) (not (newest_is first added)) ok in
      let closed = not-true (newest_passes first earlier) before.1 in
      and_from _ _ (all_later e earlier closed before.0 added step.0) (ap not (closed_later e earlier closed added (not-true (newest_is first added) step.1)))
