-- The sets of all processes follow them through a step.
use Rattle.pct_names.proofs.Names.{◌+◌, ◌<◌, ap, arith, Bool, cases_eq, cond, false, inl, inr, length, List, map, None, none-some, Option, option_map, refl, same_Some}
use Rattle.pct_names.proofs.Names.{Script, slice_get, slice_get-map, slice_get_within, Some, subst, sym, Transition, true, ℕ, ◌∙◌, ◌≡◌, ◌≢◌}
use Rattle.pct_set.specs.Slots.{slots_where}
use Rattle.pct_engine_laws.specs.Seen.{SeenProcess, process_seen, is_live_seen}
use Rattle.pct_place.specs.ProcessSteps.{CanStep}
use Rattle.pct_machine.specs.ListChanges.{process_moved}
use Rattle.pct_machine.specs.ProcessSteps.{EachCanStep}
use Rattle.pct_ready_sets.specs.ReadyConditions.{AreFresh, Follows, FollowsAt, FollowAll, IsFreshAt, touches}
use Rattle.pct_ready_sets.specs.ReadyGroups.{ReadyValue, with_stale, all_stale}
use Rattle.pct_ready_sets.proofs.FollowingSets.{all_stale_follow, with_stale_follow, step_follow}

-- an item that was mapped, by the item that it was
before_item : {A B : Type 0} (f : A → B) (found : Option A) (y : B) → option_map f found ≡ Some y → (x : A) × (found ≡ Some x) × (f x ≡ y)
before_item f None y is = absurd (none-some y is)
before_item f (Some x) y is = (x, refl, same_Some (f x) y is)

before_map : {A B : Type 0} (f : A → B) (xs : List A) (i : ℕ) (y : B) → slice_get (map f xs) i ≡ Some y → (x : A) × (slice_get xs i ≡ Some x) × (f x ≡ y)
before_map f xs i y at = before_item f (slice_get xs i) y (sym (slice_get-map f xs i) ∙ at)

module _ (script : Script) (timeouts : Bool) (slots pid tid : ℕ) (o : Transition) where
  abbrev touched : List ℕ
  touched = slots_where (touches slots tid o)

  -- a process, where the list stays
  one_moved : (p : SeenProcess) (v : ReadyValue) → CanStep slots p → Follows script timeouts p v → Follows script timeouts (process_moved slots pid tid o p) (with_stale touched v)
  one_moved p v can follows = by (is_live_seen pid p) where
    by : (live : Bool) → Follows script timeouts (cond live (process_seen slots tid o p) p) (with_stale touched v)
    by true = subst (λ (n : ℕ). Follows script timeouts (process_seen n tid o p) (with_stale (slots_where (touches n tid o)) v)) can.all (step_follow script timeouts p v tid o can.on_slots follows)
    by false = with_stale_follow script timeouts p v touched follows

  -- all processes, where the list stays
  pub follow_moved : (ps : List SeenProcess) (before after : List ReadyValue) → EachCanStep slots ps → FollowAll script timeouts ps before → ((i : ℕ) → i < length ps → slice_get after i ≡ option_map (with_stale touched) (slice_get before i))
      → FollowAll script timeouts (map (process_moved slots pid tid o) ps) after
  follow_moved ps before after can follow marks = λ i q here w at.
      let was = before_map (process_moved slots pid tid o) ps i q here in
      let known = before_item (with_stale touched) (slice_get before i) w (sym (marks i (slice_get_within ps i was.0 was.1)) ∙ at) in
      subst (λ (p : SeenProcess). Follows script timeouts p w) was.2
      (subst (Follows script timeouts (process_moved slots pid tid o was.0)) known.2 (one_moved was.0 known.0 (can i was.0 was.1) (follow i was.0 was.1 known.0 known.1)))

-- any processes, where each slot is stale
pub follow_stale : (script : Script) (timeouts : Bool) (ps : List SeenProcess) (before : List ReadyValue) → FollowAll script timeouts ps (map all_stale before)
follow_stale script timeouts ps before = λ i q here w at.
    let known = before_map all_stale before i w at in
    subst (Follows script timeouts q) known.2 (all_stale_follow script timeouts q known.0)

-- the sets of the process on a place were refreshed
pub follow_refreshed : (script : Script) (timeouts : Bool) (ps : List SeenProcess) (before after : List ReadyValue) (place : ℕ) (p : SeenProcess) → slice_get ps place ≡ Some p → FollowsAt script timeouts p place after
    → ((i : ℕ) → i ≢ place → slice_get after i ≡ slice_get before i) → FollowAll script timeouts ps before → FollowAll script timeouts ps after
follow_refreshed script timeouts ps before after place p here follows others follow = λ i q there.
    elim (cases_eq i place) [
      | inl same ↦
          let is : p ≡ q = same_Some p q (sym here ∙ ap (slice_get ps) (sym same) ∙ there) in
          subst (λ (x : SeenProcess). FollowsAt script timeouts x i after) is (subst (λ (k : ℕ). FollowsAt script timeouts p k after) (sym same) follows)
      | inr other ↦ λ v at. follow i q there v (sym (others i other) ∙ at)
    ]

-- then no slot is stale on one place more
pub fresh_refreshed : (before after : List ReadyValue) (place : ℕ) → IsFreshAt place after → ((i : ℕ) → i ≢ place → slice_get after i ≡ slice_get before i) → AreFresh place before → AreFresh (place + 1) after
fresh_refreshed before after place here others fresh = λ i less.
    elim (cases_eq i place) [
      | inl same ↦ subst (λ (k : ℕ). IsFreshAt k after) (sym same) here
      | inr other ↦ λ v at. fresh i (omega (arith, less, other)) v (sym (others i other) ∙ at)
    ]
