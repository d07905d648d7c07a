-- What is read of the table of threads is what a thread sees of the others.
use Rattle.pct_names.proofs.Names.{◌*◌, ◌+◌, ◌++◌, ◌<◌, [], All, ap, arith, Bool, cases_lt, cond, drop, drop_all, drop_more, Environment}
use Rattle.pct_names.proofs.Names.{exit_value_of, exit_value_with, false, false≢true, Family, filter, filter_passes, inl, inr, is_joining}
use Rattle.pct_names.proofs.Names.{is_none, is_some, KeyValues, length, List, list_all, list_any, list_any-append, map, None}
use Rattle.pct_names.proofs.Names.{none-some, not, Option, option_and_then, option_map, option_map_or, range_with_len, refl, same_Some}
use Rattle.pct_names.proofs.Names.{slice_get-get_or, slice_get_past, Some, suc, sym, Thread, true, unwrap_or, zero, ◌||◌, ℕ}
use Rattle.pct_names.proofs.Names.{◌∙◌, ◌∷◌, ◌≡◌, ◌≤◌}
use Rattle.std.proofs.Math.Bool.{or-false}
use Rattle.pct_set.specs.Slots.{slots_where}
use Rattle.pct_threads.specs.declared.record.Place.{Place}
use Rattle.pct_threads.specs.Slots.{Held, Slot, unused, is_occupied, place_of}
use Rattle.pct_threads.specs.Tables.{slot_at, slot_named, held_at, place_at, is_free_at, next_id_at}
use Rattle.pct_threads.proofs.TableLemmas.{within-free}
use Rattle.pct_keys.specs.Tables.{Table, row_at}
use Rattle.pct_engine_laws.specs.Seen.{SeenSlot, threads_on}
use Rattle.pct_engine_laws.proofs.ListFacts.{any_agree}
use Rattle.pct_engine_laws.specs.SeenSteps.{is_empty, new_id_on, new_ids_from, environment_in}
use Rattle.pct_process.specs.ThreadViews.{thread_of, threads_of, slot_view, with_specific, has_no_other}
use Rattle.pct_process.specs.ProcessViews.{slots_of, thread_on_slot, with_rows}
use Rattle.pct_process.specs.Standings.{AreStandings, StandingsValue, joins, standing_at, standing_of, standing_on}
use Rattle.pct_process.proofs.ViewedSlots.{own, length-slots_of, thread_on_slot-is, thread_with-is}
use Rattle.pct_process.proofs.LastThread.{last_read}
use Rattle.pct_step_context.specs.OtherThreads.{any_on, ended_value}
use Rattle.pct_step_context.proofs.StandingsRead.{ended_by, joins_by, any_stands}

-- ---- scans

module _ (test : Thread → Bool) (same : (own : KeyValues) (t : Thread) → test (with_specific own t) ≡ test t) where
  any_here : (row : KeyValues) (here : Option Held) → list_any test (map (with_specific row) (threads_of here)) ≡ any_on test here
  any_here row None = refl
  any_here row (Some h) = or-false (test (with_specific row (thread_of h))) ∙ same row (thread_of h)

  -- some thread passes a test that does not read its data exactly if the thread on some slot of the table does
  pub any_slot : (rows : List KeyValues) (threads : List Slot) → length rows ≡ length threads → list_any (λ s. any_on test s.here) threads ≡ list_any test (threads_on (slots_of rows threads))
  any_slot [] [] fit = refl
  any_slot [] (s ∷ rest) fit = absurd (omega (arith, fit))
  any_slot (row ∷ rows) [] fit = absurd (omega (arith, fit))
  any_slot (row ∷ rows) (s ∷ rest) fit =
      ap (λ (b : Bool). any_on test s.here || b) (any_slot rows rest (omega (arith, fit)))
      ∙ ap (λ (b : Bool). b || list_any test (threads_on (slots_of rows rest))) (sym (any_here row s.here))
      ∙ sym (list_any-append test (map (with_specific row) (threads_of s.here)) (threads_on (slots_of rows rest)))

-- ---- new ids

empty_here : (here : Option Held) → is_empty (threads_of here) ≡ not (is_some here)
empty_here None = refl
empty_here (Some h) = refl

id_more : (threads : List Slot) (s : ℕ) (free : Bool) (rest : List ℕ) → map (next_id_at threads) (cond free (s ∷ rest) rest) ≡ cond free (next_id_at threads s ∷ []) [] ++ map (next_id_at threads) rest
id_more threads s true rest = refl
id_more threads s false rest = refl

free_past : (threads : List Slot) (s : ℕ) → length threads ≤ s → is_free_at threads s ≡ false
free_past threads s past = ap (λ (o : Option Slot). option_map_or (λ slot. not (is_occupied slot)) o false) (slice_get_past threads s past)

free_here : (threads : List Slot) (s : ℕ) → s < length threads → is_free_at threads s ≡ is_empty (threads_of (held_at threads s))
free_here threads s inside =
    ap (λ (o : Option Slot). option_map_or (λ slot. not (is_occupied slot)) o false) (slice_get-get_or threads s unused inside) ∙ sym (empty_here (held_at threads s))

-- no slot past the last one is free
none_past : (threads : List Slot) (s k : ℕ) → length threads ≤ s → map (next_id_at threads) (filter (is_free_at threads) (range_with_len s k)) ≡ []
none_past threads s zero past = refl
none_past threads s (suc k) past =
    ap (λ b. map (next_id_at threads) (cond b (s ∷ filter (is_free_at threads) (range_with_len (s + 1) k)) (filter (is_free_at threads) (range_with_len (s + 1) k)))) (free_past threads s past)
    ∙ none_past threads (s + 1) k (omega (arith, past))

-- the ids of the slots from one on
ids_from : (threads : List Slot) (s k : ℕ) → length threads ≤ s + k → map (next_id_at threads) (filter (is_free_at threads) (range_with_len s k)) ≡ new_ids_from (length threads) s (map slot_view (drop s threads))
ids_from threads s zero within = ap (λ rows. new_ids_from (length threads) s (map slot_view rows)) (sym (drop_all s threads (omega (arith, within))))
ids_from threads s (suc k) within =
    elim (cases_lt s (length threads)) [
      | inl inside ↦
          let rest : map (next_id_at threads) (filter (is_free_at threads) (range_with_len (s + 1) k)) ≡ new_ids_from (length threads) (s + 1) (map slot_view (drop (s + 1) threads)) = ids_from threads (s + 1) k (omega (arith, within)) in
          id_more threads s (is_free_at threads s) (filter (is_free_at threads) (range_with_len (s + 1) k))
          ∙ ap (λ b. cond b (next_id_at threads s ∷ []) [] ++ map (next_id_at threads) (filter (is_free_at threads) (range_with_len (s + 1) k))) (free_here threads s inside)
          ∙ ap (λ ids. new_id_on (length threads) s (slot_view (slot_at threads s)) ++ ids) rest
          ∙ ap (λ rows. new_ids_from (length threads) s (map slot_view rows)) (sym (drop_more threads s unused inside))
      | inr past ↦ none_past threads s (suc k) past ∙ ap (λ rows. new_ids_from (length threads) s (map slot_view rows)) (sym (drop_all s threads past))
    ]

empty_on_row : (row : KeyValues) (ts : List Thread) → is_empty (map (with_specific row) ts) ≡ is_empty ts
empty_on_row row [] = refl
empty_on_row row (t ∷ ts) = refl

-- they do not depend on the data of the threads
ids_on_rows : (slots s : ℕ) (rows : List KeyValues) (seen : List SeenSlot) → new_ids_from slots s seen ≡ new_ids_from slots s (with_rows rows seen)
ids_on_rows slots s rows [] = refl
ids_on_rows slots s [] (x ∷ seen) = refl
ids_on_rows slots s (row ∷ rows) (x ∷ seen) =
    ap (λ (ids : List ℕ). cond (is_empty x.here) ((1 + s + slots * x.made) ∷ []) [] ++ ids) (ids_on_rows slots (s + 1) rows seen)
    ∙ ap (λ (b : Bool). cond b ((1 + s + slots * x.made) ∷ []) [] ++ new_ids_from slots (s + 1) (with_rows rows seen)) (sym (empty_on_row row x.here))

-- a free slot is one of the table
pub free_within : (threads : List Slot) → All (λ s. s < length threads) (slots_where (is_free_at threads))
unfolding slots_where
free_within threads = λ k d inside. within-free threads _ (filter_passes (is_free_at threads) (range_with_len 0 64) k d inside)

-- ---- what a thread sees

-- whether a thread is detached, if there is one: whether there is none, and whether there is one and it is detached
pub none_named : (named : Option Thread) (detached : Option Bool) → detached ≡ option_map (λ t. t.detached) named → (none : Bool) → is_some detached ≡ not none → none ≡ is_none named
none_named named detached is none some = by named none (sym (ap (λ (o : Option Bool). is_some o) is) ∙ some) where
  by : (o : Option Thread) (b : Bool) → is_some (option_map (λ (t : Thread). t.detached) o) ≡ not b → b ≡ is_none o
  by None true some = refl
  by None false some = absurd (false≢true some)
  by (Some t) true some = absurd (false≢true (sym some))
  by (Some t) false some = refl

pub detached_named : (named : Option Thread) (detached : Option Bool) → detached ≡ option_map (λ t. t.detached) named → unwrap_or detached false ≡ option_map_or (λ t. t.detached) named false
detached_named named detached is = ap (λ (o : Option Bool). unwrap_or o false) is ∙ by named where
  by : (o : Option Thread) → unwrap_or (option_map (λ (t : Thread). t.detached) o) false ≡ option_map_or (λ t. t.detached) o false
  by None = refl
  by (Some t) = refl

module _ (keys : Table) (k : ℕ) where
  detached_here : (o : Option Held) (place : Place) → option_map place_of o ≡ Some place → Some place.detached ≡ option_map (λ t. t.detached) (option_map (λ h. with_specific (row_at keys k) (thread_of h)) o)
  detached_here None place is = absurd (none-some place is)
  detached_here (Some h) place is = sym (ap (λ (p : Place). Some p.detached) (same_Some (place_of h) place is))

  ended_here : (o : Option Held) → ended_value (standing_on o) ≡ option_and_then (λ t. exit_value_of t.status) (option_map (λ h. with_specific (row_at keys k) (thread_of h)) o)
  ended_here None = refl
  ended_here (Some h) = ended_by h.thread.status

module _ (keys : Table) (threads : List Slot) (fit : length keys.rows ≡ length threads) (tid : ℕ) (timeouts : Bool) (family : Family) (environment : Environment) (sees : environment ≡ environment_in timeouts (length (slots_of keys.rows threads)) family (slots_of keys.rows threads) tid) where
  -- the thread with an id is that on the slot that the id names
  module _ (id : ℕ) (some : 1 ≤ length threads) where
    pub named_read : (found : Option ℕ) → found ≡ slot_named id threads → option_and_then (thread_on_slot (slots_of keys.rows threads)) found ≡ environment.named id
    unfolding environment_in
    named_read found is = sym (ap (λ (o : Environment). o.named id) sees ∙ thread_with-is keys threads fit id found is some)

    module _ (k : ℕ) (at : Some k ≡ slot_named id threads) where
      there : option_map (own keys threads fit k) (held_at threads k) ≡ environment.named id
      there = sym (thread_on_slot-is keys threads fit k) ∙ named_read (Some k) at

      pub is_detached : (place : Place) → place_at threads k ≡ Some place → Some place.detached ≡ option_map (λ t. t.detached) (environment.named id)
      is_detached place here = detached_here keys k (held_at threads k) place here ∙ ap (option_map (λ (t : Thread). t.detached)) there

      pub has_ended : (v : StandingsValue) → AreStandings v threads → k < 64 → ended_value (standing_at v k) ≡ exit_value_with id environment
      has_ended v are small = ap ended_value (are.each k small) ∙ ended_here keys k (held_at threads k) ∙ ap (option_and_then (λ t. exit_value_of t.status)) there

  -- a thread joins the one with an id
  pub joins_read : (v : StandingsValue) → AreStandings v threads → length threads ≤ 64 → (id : ℕ) → list_any (joins id) v.of ≡ environment.another_joins id
  unfolding environment_in
  joins_read v are few id =
      let stands : Thread → Bool = λ t. joins id (standing_of t.status) in
      any_stands v threads are (joins id) few refl
      ∙ any_slot stands (λ own t. refl) keys.rows threads fit
      ∙ any_agree stands (λ t. is_joining id t.status) (λ t. joins_by id t.status) (threads_on (slots_of keys.rows threads))
      ∙ ap (λ (o : Environment). o.another_joins id) (sym sees)

  -- each other thread has ended
  pub is_last_read : list_all (λ s. has_no_other tid s.here) threads ≡ environment.is_last
  unfolding environment_in
  is_last_read = last_read tid keys.rows threads fit ∙ ap (λ (o : Environment). o.is_last) (sym sees)

  -- the ids of the next threads on the free slots
  pub new_ids_read : length threads ≤ 64 → map (next_id_at threads) (slots_where (is_free_at threads)) ≡ environment.new_ids
  unfolding slots_where environment_in
  new_ids_read few =
      ids_from threads 0 64 few
      ∙ ids_on_rows (length threads) 0 keys.rows (map slot_view threads)
      ∙ ap (λ (n : ℕ). new_ids_from n 0 (slots_of keys.rows threads)) (sym (length-slots_of keys threads fit))
      ∙ ap (λ (o : Environment). o.new_ids) (sym sees)

-- the other processes are those of the family
pub family_read : (timeouts : Bool) (slots : ℕ) (family : Family) (rows : List SeenSlot) (tid : ℕ) (environment : Environment) → environment ≡ environment_in timeouts slots family rows tid → environment.family ≡ family
unfolding environment_in
family_read timeouts slots family rows tid environment sees = ap (λ (o : Environment). o.family) sees

-- whether the time of a wait may expire
pub timeouts_read : (timeouts : Bool) (slots : ℕ) (family : Family) (rows : List SeenSlot) (tid : ℕ) (environment : Environment) → environment ≡ environment_in timeouts slots family rows tid → environment.timeouts ≡ timeouts
unfolding environment_in
timeouts_read timeouts slots family rows tid environment sees = ap (λ (o : Environment). o.timeouts) sees
