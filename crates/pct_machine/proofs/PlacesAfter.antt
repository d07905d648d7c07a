-- The places of the processes after a step of a thread.
use Rattle.pct_names.proofs.Names.{◌<◌, [], ap, arith, Bool, cond, false, List, map, none-some, refl, Relative, same_Some, set-get_or}
use Rattle.pct_names.proofs.Names.{slice_get, slice_set, Some, subst, suc, sym, take, take-set-lt, Transition, true, zero, ℕ, ◌∙◌, ◌∷◌, ◌≡◌}
use Rattle.pct_names.proofs.Names.{◌≤◌, and_from, Entry, find, get_or, get_or-take, get_or_from_slice_get, IfSome, is_some, length-take, nat_eq}
use Rattle.pct_names.proofs.Names.{None, not, Option, slice_get_within}
use Rattle.std.proofs.lemmas.Bool.{eq-eqb}
use Rattle.std.proofs.lemmas.List.{length-set}
use Rattle.pct_engine_laws.specs.Seen.{SeenProcess, process_seen, is_live_seen, relative_in}
use Rattle.pct_place.specs.ProcessSteps.{process_after_entry}
use Rattle.pct_machine.specs.declared.scheduler.Seat.{Seat}
use Rattle.pct_machine.specs.Candidates.{IsSeat}
use Rattle.pct_machine.specs.Places.{ProcessList, RiseWithin, AreSound}
use Rattle.pct_machine.specs.ListChanges.{process_moved, list_moved, list_after_entry}
use Rattle.pct_machine.proofs.LegalEntries.{not_live, named, IsFound}

-- ---- ids that rise

-- a process with an id is above those before it
above : (low high i : ℕ) (ps : List SeenProcess) (p : SeenProcess) → RiseWithin low high ps → slice_get ps i ≡ Some p → low < p.pid
above low high zero (q ∷ ps) p rise at = subst (λ (x : SeenProcess). low < x.pid) (same_Some q p at) rise.0
above low high (suc i) (q ∷ ps) p rise at = let later : q.pid < p.pid = above q.pid high i ps p rise.1 at in omega (arith, rise.0)
above low high i [] p rise at = absurd (none-some p at)

-- the process with an id is not among those above it, nor is it the first one, if it is a later one
module _ (pid high : ℕ) (q : SeenProcess) (ps : List SeenProcess) (rise : RiseWithin q.pid high ps) where
  pub past : (p : SeenProcess) → q ≡ p → is_live_seen pid p ≡ true → pid ≤ q.pid
  past p same live = omega (arith, ap (λ (x : SeenProcess). x.pid) same, named pid p live)

  pub not_first : (i : ℕ) (p : SeenProcess) → slice_get ps i ≡ Some p → is_live_seen pid p ≡ true → is_live_seen pid q ≡ false
  not_first i p at live = let later : q.pid < p.pid = above q.pid high i ps p rise at in not_live pid q (λ same. omega (arith, later, same, named pid p live))

-- ---- a step of a thread

module _ (slots pid tid : ℕ) (o : Transition) where
  abbrev next : SeenProcess → SeenProcess
  next p = process_moved slots pid tid o p

  moved_if : (p : SeenProcess) (live : Bool) → relative_in (cond live (process_seen slots tid o p) p) ≡ relative_in p
  moved_if p true = refl
  moved_if p false = refl

  stays_if : (p : SeenProcess) → is_live_seen pid p ≡ false → next p ≡ p
  stays_if p other = ap (λ (b : Bool). cond b (process_seen slots tid o p) p) other

  others_stay : (low high : ℕ) (ps : List SeenProcess) → RiseWithin low high ps → pid ≤ low → map next ps ≡ ps
  others_stay low high [] rise past = refl
  others_stay low high (p ∷ ps) rise past =
      let first : next p ≡ p = stays_if p (not_live pid p (λ same. omega (arith, rise.0))) in
      let rest : map next ps ≡ ps = others_stay p.pid high ps rise.1 (omega (arith, rise.0)) in
      λ i. first i ∷ rest i

  -- it changes its process alone
  pub one_moved : (low high i : ℕ) (ps : List SeenProcess) (p : SeenProcess) → RiseWithin low high ps → slice_get ps i ≡ Some p → is_live_seen pid p ≡ true → slice_set ps i (process_seen slots tid o p) ≡ map next ps
  one_moved low high zero (q ∷ ps) p rise at live =
      let same : q ≡ p = same_Some q p at in
      let first : process_seen slots tid o p ≡ next q = sym (ap (λ (b : Bool). cond b (process_seen slots tid o p) p) live) ∙ ap next (sym same) in
      let rest : ps ≡ map next ps = sym (others_stay q.pid high ps rise.1 (past pid high q ps rise.1 p same live)) in
      λ i. first i ∷ rest i
  one_moved low high (suc i) (q ∷ ps) p rise at live =
      let first : q ≡ next q = sym (stays_if q (not_first pid high q ps rise.1 i p at live)) in
      let rest : slice_set ps i (process_seen slots tid o p) ≡ map next ps = one_moved q.pid high i ps p rise.1 at live in
      λ j. first j ∷ rest j
  one_moved low high i [] p rise at live = absurd (none-some p at)

  rise_moved : (low high : ℕ) (ps : List SeenProcess) → RiseWithin low high ps → RiseWithin low high (map next ps)
  rise_moved low high [] rise = rise
  rise_moved low high (p ∷ ps) rise =
      subst (λ (n : ℕ). (low < n) × RiseWithin n high (map next ps)) (sym (ap (λ (r : Relative). r.pid) (moved_if p (is_live_seen pid p)))) (rise.0, rise_moved p.pid high ps rise.1)

  same_relatives : (ps : List SeenProcess) → map relative_in (map next ps) ≡ map relative_in ps
  same_relatives [] = refl
  same_relatives (p ∷ ps) =
      let first : relative_in (next p) ≡ relative_in p = moved_if p (is_live_seen pid p) in
      let rest = same_relatives ps in
      λ i. first i ∷ rest i

  module _ (i live made : ℕ) (relatives : List Relative) (places : List SeenProcess) (p : SeenProcess) (found : IsFound pid i live places p) (sound : AreSound live made relatives places) where
    abbrev before : ProcessList
    before = record { processes = take live places; made = made }

    -- the processes after it
    places_moved : take live (slice_set places i (process_seen slots tid o p)) ≡ map next (take live places)
    places_moved =
        take-set-lt live places i (process_seen slots tid o p) found.within
        ∙ one_moved 0 made i (take live places) p sound.rising found.at found.has_id

    same_places : slice_set places i p ≡ places
    same_places = ap (slice_set places i) found.here ∙ set-get_or places i p

    sound_if : (moves : Bool) → AreSound live made relatives (slice_set places i (cond moves (process_seen slots tid o p) p))
    sound_if true = record {
      all = length-set places i (process_seen slots tid o p) ∙ sound.all;
      within = sound.within;
      rising = subst (RiseWithin 0 made) (sym places_moved) (rise_moved 0 made (take live places) sound.rising);
      known = sound.known ∙ sym (same_relatives (take live places)) ∙ ap (map relative_in) (sym places_moved);
    }
    sound_if false = subst (AreSound live made relatives) (sym same_places) sound

    list_if : (moves : Bool) → take live (slice_set places i (cond moves (process_seen slots tid o p) p)) ≡ (cond moves (list_moved slots pid tid o before) before).processes
    list_if true = places_moved
    list_if false = ap (take live) same_places

    made_if : (moves : Bool) → made ≡ (cond moves (list_moved slots pid tid o before) before).made
    made_if true = refl
    made_if false = refl

    module _ (moves : Bool) (q : SeenProcess) (after : q ≡ cond moves (process_seen slots tid o p) p) where
      -- the places after it, if it was made
      pub sound_after_step : AreSound live made relatives (slice_set places i q)
      sound_after_step = subst (λ (x : SeenProcess). AreSound live made relatives (slice_set places i x)) (sym after) (sound_if moves)

      -- and the processes on them
      pub list_after_step : record { processes = take live (slice_set places i q); made = made } ≡ cond moves (list_moved slots pid tid o before) before
      list_after_step = λ j. record { processes = (ap (λ (x : SeenProcess). take live (slice_set places i x)) after ∙ list_if moves) j; made = made_if moves j }

-- ---- the step of the entry that was chosen

-- the process at an index is the first one that is found by its id
first_at : (pid low high i : ℕ) (ps : List SeenProcess) (p : SeenProcess) → RiseWithin low high ps → slice_get ps i ≡ Some p → is_live_seen pid p ≡ true → find (is_live_seen pid) ps ≡ Some p
first_at pid low high zero (q ∷ ps) p rise at live = ap (λ (b : Bool). cond b (Some q) (find (is_live_seen pid) ps)) (ap (is_live_seen pid) (same_Some q p at) ∙ live) ∙ at
first_at pid low high (suc i) (q ∷ ps) p rise at live =
    ap (λ (b : Bool). cond b (Some q) (find (is_live_seen pid) ps)) (not_first pid high q ps rise.1 i p at live) ∙ first_at pid q.pid high i ps p rise.1 at live
first_at pid low high i [] p rise at live = absurd (none-some p at)

module _ (live made : ℕ) (relatives : List Relative) (places : List SeenProcess) (sound : AreSound live made relatives places) (seat : Seat) (is : IsSeat (take live places) seat) where
  -- its place is one of those of the processes
  pub seat_within : seat.place < live
  seat_within = omega (arith, slice_get_within (take live places) seat.place is.process is.here, length-take live places)

  -- the process on it is found there
  pub on_seat : (p : SeenProcess) → p ≡ get_or places seat.place p → is.process ≡ p
  on_seat p here = sym (get_or_from_slice_get (take live places) seat.place is.process p is.here) ∙ get_or-take live places seat.place p seat_within ∙ sym here

  pub seat_found : (p : SeenProcess) → p ≡ get_or places seat.place p → IsFound p.pid seat.place live places p
  seat_found p here =
      let same : is.process ≡ p = on_seat p here in
      let at : slice_get (take live places) seat.place ≡ Some p = is.here ∙ ap (λ (q : SeenProcess). Some q) same in
      let has_id : is_live_seen p.pid p ≡ true = and_from (nat_eq p.pid p.pid) (not (is_some p.ended)) (eq-eqb p.pid p.pid refl) (ap (λ (q : SeenProcess). not (is_some q.ended)) (sym same) ∙ ap not is.live) in
      record {
        within = seat_within;
        here = here;
        at = at;
        has_id = has_id;
        first = first_at p.pid 0 made seat.place (take live places) p sound.rising at has_id;
      }

module _ (slots : ℕ) (o : Transition) (i live made : ℕ) (relatives : List Relative) (places : List SeenProcess) (p : SeenProcess) (found : IsFound p.pid i live places p) (sound : AreSound live made relatives places) where
  -- the places after it
  pub sound_after_entry : (chosen : Option Entry) (q : SeenProcess) → q ≡ process_after_entry slots o chosen p → AreSound live made relatives (slice_set places i q)
  sound_after_entry None q after = sound_after_step slots p.pid 0 o i live made relatives places p found sound false q after
  sound_after_entry (Some e) q after = sound_after_step slots p.pid e.tid o i live made relatives places p found sound true q after

  -- and the processes on them
  pub places_after_entry : (chosen : Option Entry) (q : SeenProcess) → IfSome chosen (λ e. e.pid ≡ p.pid) → q ≡ process_after_entry slots o chosen p
      → record { processes = take live (slice_set places i q); made = made } ≡ list_after_entry slots o chosen (record { processes = take live places; made = made })
  places_after_entry None q named after = list_after_step slots p.pid 0 o i live made relatives places p found sound false q after
  places_after_entry (Some e) q named after =
      list_after_step slots p.pid e.tid o i live made relatives places p found sound true q after
      ∙ ap (λ (pid : ℕ). list_moved slots pid e.tid o (record { processes = take live places; made = made })) (sym named)
