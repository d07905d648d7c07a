-- What is read of the table of threads is which threads wait on a condition variable.
use Rattle.pct_names.proofs.Names.{◌&&◌, ◌+◌, ◌++◌, [], All, ap, arith, Bool, cases_lt, cond, drop, drop_all, drop_more, Environment, false}
use Rattle.pct_names.proofs.Names.{false≢true, Family, filter_passes, get_or_past, inl, inr, is_some, is_waiting_on, KeyValues, length}
use Rattle.pct_names.proofs.Names.{List, list_any, map, map-append, nat_eq, None, not, Option, option_map_or}
use Rattle.pct_names.proofs.Names.{range_with_len, refl, Some, Status, suc, sym, Thread, true, Waiter, waiter_by, waiters_among}
use Rattle.pct_names.proofs.Names.{waits_with_another_mutex, zero, ℕ, ◌∙◌, ◌∷◌, ◌≡◌, ◌≤◌}
use Rattle.std.proofs.Common.{append-nil}
use Rattle.std.specs.List.{flat_map}
use Rattle.std.proofs.Math.Bool.{or-false}
use Rattle.std.proofs.lemmas.List.Concat.{flat_map-append}
use Rattle.pct_model.specs.declared.state.Status.TheVariants as status
use Rattle.pct_set.specs.Slots.{slots_where}
use Rattle.pct_threads.specs.Slots.{Held, Slot, unused}
use Rattle.pct_threads.specs.Tables.{slot_at, held_at, is_occupied_at}
use Rattle.pct_keys.specs.Tables.{Table}
use Rattle.pct_engine_laws.specs.Seen.{threads_on}
use Rattle.pct_engine_laws.specs.SeenSteps.{environment_in}
use Rattle.pct_engine_laws.proofs.ListFacts.{any_agree, any-flat_map, map-filter}
use Rattle.pct_process.specs.ThreadViews.{threads_of, with_specific}
use Rattle.pct_process.specs.ProcessViews.{slots_of}
use Rattle.pct_process.specs.Standings.{AreStandings, StandingsValue, standing_of, waits_with_another}
use Rattle.pct_step_context.specs.OtherThreads.{any_on, id_at, ids_on}
use Rattle.pct_step_context.proofs.StandingsRead.{any_stands}
use Rattle.pct_step_context.proofs.EnvironmentRead.{any_slot}

-- ---- the thread on a slot

-- one that passes a test is there
pub any_there : (test : Thread → Bool) (here : Option Held) → any_on test here ≡ true → is_some here ≡ true
any_there test None passes = absurd (false≢true passes)
any_there test (Some h) passes = refl

-- one that waits holds its slot
pub waiters_held : (threads : List Slot) (c : ℕ) → All (λ s. is_occupied_at threads s ≡ true) (slots_where (λ s. any_on (λ t. is_waiting_on c t.status) (held_at threads s)))
unfolding slots_where
waiters_held threads c = λ k d inside.
    let waits : Thread → Bool = λ t. is_waiting_on c t.status in
    any_there waits _ (filter_passes (λ (s : ℕ). any_on waits (held_at threads s)) (range_with_len 0 64) k d inside)

-- ---- another mutex

another_by : (c m id : ℕ) (s : Status) → waits_with_another c m (standing_of s) ≡ list_any (λ (waiter : Waiter). not (nat_eq waiter.mutex m)) (waiter_by c id s)
another_by c m id (status.Waiting waited mutex) = either (nat_eq waited c) where
  either : (waits : Bool) → (waits && not (nat_eq mutex m)) ≡ list_any (λ (waiter : Waiter). not (nat_eq waiter.mutex m)) (cond waits (record { id = id; mutex = mutex } ∷ []) [])
  either true = sym (or-false (not (nat_eq mutex m)))
  either false = refl
another_by c m id s = refl

-- ---- ids

module _ (c : ℕ) where
  -- the id of the thread on a slot, if it waits
  abbrev waiting_id : Slot → List ℕ
  waiting_id s = cond (any_on (λ t. is_waiting_on c t.status) s.here) (option_map_or (λ h. h.id) s.here 0 ∷ []) []

  id_by : (id : ℕ) (s : Status) → cond (is_waiting_on c s) (id ∷ []) [] ≡ map (λ waiter. waiter.id) (waiter_by c id s)
  id_by id (status.Waiting waited mutex) = either (nat_eq waited c) where
    either : (waits : Bool) → cond waits (id ∷ []) [] ≡ map (λ (waiter : Waiter). waiter.id) (cond waits (record { id = id; mutex = mutex } ∷ []) [])
    either true = refl
    either false = refl
  id_by id s = refl

  id_here : (row : KeyValues) (made : ℕ) (here : Option Held) → waiting_id (record { made = made; here = here }) ≡ map (λ waiter. waiter.id) (waiters_among c (map (with_specific row) (threads_of here)))
  id_here row made None = refl
  id_here row made (Some h) = id_by h.id h.thread.status ∙ ap (map (λ (waiter : Waiter). waiter.id)) (sym (append-nil (waiter_by c h.id h.thread.status)))

  -- those of a table are those of the threads of its process
  ids_of : (rows : List KeyValues) (threads : List Slot) → length rows ≡ length threads → flat_map waiting_id threads ≡ map (λ waiter. waiter.id) (waiters_among c (threads_on (slots_of rows threads)))
  ids_of [] [] fit = refl
  ids_of [] (s ∷ rest) fit = absurd (omega (arith, fit))
  ids_of (row ∷ rows) [] fit = absurd (omega (arith, fit))
  ids_of (row ∷ rows) (s ∷ rest) fit =
      let here : List Thread = map (with_specific row) (threads_of s.here) in
      let after : List Thread = threads_on (slots_of rows rest) in
      ap (λ (ids : List ℕ). waiting_id s ++ ids) (ids_of rows rest (omega (arith, fit)))
      ∙ ap (λ (ids : List ℕ). ids ++ map (λ waiter. waiter.id) (waiters_among c after)) (id_here row s.made s.here)
      ∙ sym (map-append (λ (waiter : Waiter). waiter.id) (waiters_among c here) (waiters_among c after))
      ∙ ap (map (λ (waiter : Waiter). waiter.id)) (sym (flat_map-append (λ (t : Thread). waiter_by c t.id t.status) here after))

  -- those of the slots from one on
  ids_from : (threads : List Slot) (s k : ℕ) → length threads ≤ s + k → flat_map (λ i. waiting_id (slot_at threads i)) (range_with_len s k) ≡ flat_map waiting_id (drop s threads)
  ids_from threads s zero within = ap (flat_map waiting_id) (sym (drop_all s threads (omega (arith, within))))
  ids_from threads s (suc k) within =
      ap (λ (ids : List ℕ). waiting_id (slot_at threads s) ++ ids) (ids_from threads (s + 1) k (omega (arith, within)))
      ∙ elim (cases_lt s (length threads)) [
        | inl inside ↦ ap (flat_map waiting_id) (sym (drop_more threads s unused inside))
        | inr past ↦
            ap (λ (slot : Slot). waiting_id slot ++ flat_map waiting_id (drop (s + 1) threads)) (get_or_past threads s unused past)
            ∙ ap (flat_map waiting_id) (drop_all (s + 1) threads (omega (arith, past)) ∙ sym (drop_all s threads past))
      ]

-- ---- what a thread sees

module _ (keys : Table) (threads : List Slot) (fit : length keys.rows ≡ length threads) (tid : ℕ) (timeouts : Bool) (family : Family) (environment : Environment) (sees : environment ≡ environment_in timeouts (length (slots_of keys.rows threads)) family (slots_of keys.rows threads) tid) (c : ℕ) where
  -- a thread waits with another mutex
  pub another_mutex_read : (v : StandingsValue) → AreStandings v threads → length threads ≤ 64 → (m : ℕ) → list_any (waits_with_another c m) v.of ≡ waits_with_another_mutex c m environment
  unfolding environment_in
  another_mutex_read v are few m =
      let seen : List Thread = threads_on (slots_of keys.rows threads) in
      let stands : Thread → Bool = λ t. waits_with_another c m (standing_of t.status) in
      any_stands v threads are (waits_with_another c m) few refl
      ∙ any_slot stands (λ own t. refl) keys.rows threads fit
      ∙ any_agree stands (λ t. list_any (λ waiter. not (nat_eq waiter.mutex m)) (waiter_by c t.id t.status)) (λ t. another_by c m t.id t.status) seen
      ∙ sym (any-flat_map (λ (waiter : Waiter). not (nat_eq waiter.mutex m)) (λ (t : Thread). waiter_by c t.id t.status) seen)
      ∙ ap (λ (o : Environment). waits_with_another_mutex c m o) (sym sees)

  -- the ids of the threads that wait
  pub waiters_read : length threads ≤ 64 → ids_on threads (slots_where (λ s. any_on (λ t. is_waiting_on c t.status) (held_at threads s))) ≡ map (λ waiter. waiter.id) (environment.waiters c)
  unfolding slots_where environment_in
  waiters_read few =
      map-filter (id_at threads) (λ (s : ℕ). any_on (λ t. is_waiting_on c t.status) (held_at threads s)) (range_with_len 0 64)
      ∙ ids_from c threads 0 64 few
      ∙ ids_of c keys.rows threads fit
      ∙ ap (λ (o : Environment). map (λ (waiter : Waiter). waiter.id) (o.waiters c)) (sym sees)
