-- The events that values are left, oldest first and newest first.
use Rattle.pct_names.proofs.Names.{◌≡◌, ℕ, zero, suc, ◌+◌, ◌-◌, ◌<◌, ◌≤◌, Bool, true, false, not, ◌&&◌, ◌||◌, List, [], ◌∷◌, ◌++◌, length}
use Rattle.pct_names.proofs.Names.{reverse, Option, Some, None, slice_get, refl, sym, ap, ap₂, ◌∙◌, subst, arith, ◌⊎◌, inl, inr}
use Rattle.pct_names.proofs.Names.{and_comm, and_from, and_parts, cases_lt, cases_order, false≢true, not-true, option_map_or, reverse-append}
use Rattle.pct_names.proofs.Names.{slice_get_past}
use Rattle.std.proofs.Math.Bool.{and_assoc}
use Rattle.pct_model.specs.declared.event.Event.{Event}
use Rattle.pct_laws.specs.Each.{each}
use Rattle.pct_laws.specs.Ends.{is_leftover}
use Rattle.pct_laws.specs.FollowedEvents.{follows, are_followed}
use Rattle.pct_laws.specs.KnownThreads.{is_own, reports_end}
use Rattle.pct_process_monitors.specs.UnfollowedEvents.{is_left_open, is_unfollowed, IsFirstOpen, IsFirstUnfollowed}

-- ---- newest first

-- none of some events, newest first, is left open, where the newest is followed by another one
abbrev are_closed : Option Event → List Event → Bool
are_closed next [] = true
are_closed next (e ∷ earlier) = not (is_left_open e next) && are_closed (Some e) earlier

not_open : (left end : Bool) → not (left && not end) ≡ (not left || end)
not_open true true = refl
not_open true false = refl
not_open false end = refl

not_open_last : (left : Bool) → not (left && not false) ≡ not left
not_open_last true = refl
not_open_last false = refl

-- each event after the oldest one follows the one before it
closed_after : (e : Event) (earlier : List Event) → each (follows is_leftover reports_end) (e ∷ earlier) ≡ are_closed (Some e) earlier
closed_after e [] = refl
closed_after e (x ∷ earlier) = ap₂ (λ a b. a && b) (sym (not_open (is_leftover x.what) (is_own x.pid x.tid e && reports_end e.what))) (closed_after x earlier)

followed_closed : (events : List Event) → are_followed is_leftover reports_end events ≡ are_closed None events
followed_closed [] = refl
followed_closed (e ∷ earlier) =
    and_comm (each (follows is_leftover reports_end) (e ∷ earlier)) (not (is_leftover e.what))
    ∙ ap₂ (λ a b. a && b) (sym (not_open_last (is_leftover e.what))) (closed_after e earlier)

-- the oldest of some events, newest first, or the one that follows them
abbrev oldest_or : Option Event → List Event → Option Event
oldest_or next [] = next
oldest_or next (e ∷ earlier) = oldest_or (Some e) earlier

oldest-more : (next : Option Event) (events : List Event) (e : Event) → oldest_or next (events ++ e ∷ []) ≡ Some e
oldest-more next [] e = refl
oldest-more next (x ∷ events) e = oldest-more (Some x) events e

closed-more : (next : Option Event) (events : List Event) (e : Event) → are_closed next (events ++ e ∷ []) ≡ (are_closed next events && not (is_left_open e (oldest_or next events)))
closed-more next [] e = and_comm (not (is_left_open e next)) true
closed-more next (x ∷ events) e =
    ap (λ b. not (is_left_open x next) && b) (closed-more (Some x) events e) ∙ sym (and_assoc (not (is_left_open x next)) (are_closed (Some x) events) (not (is_left_open e (oldest_or (Some x) events))))

-- ---- oldest first

-- none of some events, oldest first, is left open
abbrev are_ended : List Event → Bool
are_ended [] = true
are_ended (e ∷ later) = not (is_left_open e (slice_get later 0)) && are_ended later

reverse-cons : (e : Event) (later : List Event) → reverse (e ∷ later) ≡ reverse later ++ e ∷ []
reverse-cons e later = reverse-append (e ∷ []) later

oldest-reverse : (later : List Event) → oldest_or None (reverse later) ≡ slice_get later 0
oldest-reverse [] = refl
oldest-reverse (e ∷ later) = ap (oldest_or None) (reverse-cons e later) ∙ oldest-more None (reverse later) e

closed_ended : (events : List Event) → are_closed None (reverse events) ≡ are_ended events
closed_ended [] = refl
closed_ended (e ∷ later) =
    ap (are_closed None) (reverse-cons e later) ∙ closed-more None (reverse later) e
    ∙ and_comm (are_closed None (reverse later)) (not (is_left_open e (oldest_or None (reverse later))))
    ∙ ap₂ (λ next b. not (is_left_open e next) && b) (oldest-reverse later) (closed_ended later)

-- ---- by places

unfollowed-later : (e : Event) (later : List Event) (place : ℕ) → is_unfollowed (e ∷ later) (suc place) ≡ is_unfollowed later place
unfollowed-later e later place =
    let same : suc place + 1 ≡ suc (place + 1) = omega arith in
    ap (λ (next : ℕ). option_map_or (λ x. is_left_open x (slice_get (e ∷ later) next)) (slice_get later place) false) same

ended_at : (events : List Event) → are_ended events ≡ true → (place : ℕ) → is_unfollowed events place ≡ false
ended_at [] ended place = refl
ended_at (e ∷ later) ended zero = not-true (is_left_open e (slice_get later 0)) (and_parts (not (is_left_open e (slice_get later 0))) (are_ended later) ended).0
ended_at (e ∷ later) ended (suc place) = unfollowed-later e later place ∙ ended_at later (and_parts (not (is_left_open e (slice_get later 0))) (are_ended later) ended).1 place

at_each : (events : List Event) → ((place : ℕ) → is_unfollowed events place ≡ false) → are_ended events ≡ true
at_each [] none = refl
at_each (e ∷ later) none = and_from _ _ (ap not (none 0)) (at_each later (λ place. sym (unfollowed-later e later place) ∙ none (suc place)))

-- where each event that values are left is directly followed by the end of its thread, none is unfollowed
pub followed_at : (events : List Event) → are_followed is_leftover reports_end (reverse events) ≡ true → (place : ℕ) → is_unfollowed events place ≡ false
followed_at events followed = ended_at events (sym (followed_closed (reverse events) ∙ closed_ended events) ∙ followed)

-- where none is unfollowed, each is directly followed by the end of its thread
pub followed_by_all : (events : List Event) → ((place : ℕ) → is_unfollowed events place ≡ false) → are_followed is_leftover reports_end (reverse events) ≡ true
followed_by_all events none = followed_closed (reverse events) ∙ closed_ended events ∙ at_each events none

-- ---- one answer

-- no event is unfollowed past the last one
unfollowed_past : (events : List Event) (place : ℕ) → length events ≤ place → is_unfollowed events place ≡ false
unfollowed_past events place past = ap (λ found. option_map_or (λ e. is_left_open e (slice_get events (place + 1))) found false) (slice_get_past events place past)

-- what is said of the places before a number and of the next place is said of the places before the next number
pub ended_more : (events : List Event) (number : ℕ) → ((place : ℕ) → place < number → is_unfollowed events place ≡ false) → is_unfollowed events number ≡ false
    → (place : ℕ) → place < number + 1 → is_unfollowed events place ≡ false
ended_more events number before last place low = by_place (cases_lt place number)
  where
    by_place : (place < number) ⊎ (number ≤ place) → is_unfollowed events place ≡ false
    by_place (inl earlier) = before place earlier
    by_place (inr later) = subst (λ n. is_unfollowed events n ≡ false) (omega (arith, low, later)) last

-- what is said of the places of all events is said of each place
pub ended_by_all : (events : List Event) → ((place : ℕ) → place < length events → is_unfollowed events place ≡ false) → (place : ℕ) → is_unfollowed events place ≡ false
ended_by_all events each_one place = by_place (cases_lt place (length events))
  where
    by_place : (place < length events) ⊎ (length events ≤ place) → is_unfollowed events place ≡ false
    by_place (inl within) = each_one place within
    by_place (inr past) = unfollowed_past events place past

-- one of two numbers is not below the other one
not_below : (events : List Event) (n m : ℕ) → IsFirstOpen events n → IsFirstOpen events m → n < m → ⊥
not_below events n m first second below = false≢true (sym (second.before (n - 1) (omega (arith, below, first.counted))) ∙ first.unfollowed)

-- at most one answer is right
pub first_unfollowed_once : (events : List Event) (a b : Option ℕ) → IsFirstUnfollowed events a → IsFirstUnfollowed events b → a ≡ b
first_unfollowed_once events None None first second = refl
first_unfollowed_once events None (Some m) first second = absurd (false≢true (sym (first (m - 1)) ∙ second.unfollowed))
first_unfollowed_once events (Some n) None first second = absurd (false≢true (sym (second (n - 1)) ∙ first.unfollowed))
first_unfollowed_once events (Some n) (Some m) first second = by_order (cases_order n m)
  where
    by_order : (n ≡ m) ⊎ ((n < m) ⊎ (m < n)) → Some n ≡ Some m
    by_order (inl same) = ap Some same
    by_order (inr (inl below)) = absurd (not_below events n m first second below)
    by_order (inr (inr above)) = absurd (not_below events m n second first above)
