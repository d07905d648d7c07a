-- What a thread sees of the others depends only on what is kept of the state.
use Rattle.pct_names.proofs.Names.{◌&&◌, ◌+◌, ◌++◌, ◌<◌, [], ap, body_at, Bool, by_slot, choices_at, choices_of, cond, Config, Environment}
use Rattle.pct_names.proofs.Names.{environment_of, false, family_among, family_of, filter, flat_map, flat_map-map, free_ids, has_timeouts}
use Rattle.pct_names.proofs.Names.{has_valid_id, holds_slot, is_free, is_joined_by_one, is_joining, is_last, is_on, is_unreaped, length}
use Rattle.pct_names.proofs.Names.{List, list_all, list_any, map, nat_eq, next_id, next_of, not, option_and_then, Process, range_with_len}
use Rattle.pct_names.proofs.Names.{refl, Relative, Script, slot_of, suc, sym, Thread, true, waiters_among, with_id, World, zero, ◌||◌, ℕ}
use Rattle.pct_names.proofs.Names.{◌∙◌, ◌∷◌, ◌≡◌}
use Rattle.std.proofs.Common.{eqb-true, eq-eqb}
use Rattle.pct_engine_laws.specs.Seen.{SeenSlot, seen_slot, seen_process, seen, threads_on, is_last_in, relative_in, family_in}
use Rattle.pct_engine_laws.specs.SeenSteps.{thread_on, thread_with, is_joined_in, is_empty, new_id_on, new_ids_from, environment_in}
use Rattle.pct_engine_laws.specs.SeenSteps.{choices_in}
use Rattle.pct_engine_laws.proofs.ListFacts.{find_agree, find-filter, any_agree, any-filter, any-flat_map, any_swap, any_and, all_none}
use Rattle.pct_engine_laws.proofs.ListFacts.{map-map, map-filter}
use Rattle.pct_engine_laws.proofs.IndexedLists.{by_index, item_by_index, index_among}
use Rattle.pct_engine_laws.proofs.ThreadChanges.{slot_below}

-- ---- the thread with an id

and_true : (b : Bool) → (b && true) ≡ b
and_true true = refl
and_true false = refl

and_false : (b : Bool) → (b && false) ≡ false
and_false true = refl
and_false false = refl

found_by : (slots tid : ℕ) (t : Thread) (named : Bool) → nat_eq t.id tid ≡ named → ((is_on slots (slot_of slots tid) t && holds_slot t) && named) ≡ (named && holds_slot t)
found_by slots tid t true e =
    let on : is_on slots (slot_of slots tid) t ≡ true = eq-eqb (slot_of slots t.id) (slot_of slots tid) (ap (slot_of slots) (eqb-true t.id tid e)) in
    ap (λ (b : Bool). (b && holds_slot t) && true) on ∙ and_true (holds_slot t)
found_by slots tid t false e = and_false (is_on slots (slot_of slots tid) t && holds_slot t)

-- the thread with an id is found on its slot
pub thread_found : (slots tid : ℕ) (threads : List Thread) → thread_on tid (seen_slot slots threads (slot_of slots tid)) ≡ with_id tid threads
thread_found slots tid threads =
    find-filter (λ (t : Thread). nat_eq t.id tid) (λ t. is_on slots (slot_of slots tid) t && holds_slot t) threads
    ∙ find_agree (λ t. (is_on slots (slot_of slots tid) t && holds_slot t) && nat_eq t.id tid) (has_valid_id tid) (λ t. found_by slots tid t (nat_eq t.id tid) refl) threads

-- the thread with an id
pub thread_seen : (slots tid : ℕ) (threads : List Thread) → 0 < slots → thread_with slots tid (by_index (seen_slot slots threads) slots) ≡ with_id tid threads
thread_seen slots tid threads some =
    ap (option_and_then (thread_on tid)) (item_by_index (seen_slot slots threads) slots (slot_of slots tid) (slot_below slots tid some)) ∙ thread_found slots tid threads

-- ---- all threads

-- the threads that hold a slot, by rising slot
pub threads_seen : (slots : ℕ) (threads : List Thread) → threads_on (by_index (seen_slot slots threads) slots) ≡ by_slot slots threads
threads_seen slots threads = flat_map-map (λ s. s.here) (seen_slot slots threads) (range_with_len 0 slots)

on_some_slot : (slots : ℕ) (test : Thread → Bool) (t : Thread) → 0 < slots → list_any (λ s. (is_on slots s t && holds_slot t) && test t) (range_with_len 0 slots) ≡ (holds_slot t && test t)
on_some_slot slots test t some =
    any_and (λ s. is_on slots s t && holds_slot t) (test t) (range_with_len 0 slots)
    ∙ ap (λ (b : Bool). b && test t)
    (any_and (λ s. is_on slots s t) (holds_slot t) (range_with_len 0 slots) ∙ ap (λ (b : Bool). b && holds_slot t) (index_among (slot_of slots t.id) slots (slot_below slots t.id some)))

-- a test that some thread on a slot passes
pub any_by_slot : (slots : ℕ) (test : Thread → Bool) (threads : List Thread) → 0 < slots → list_any test (by_slot slots threads) ≡ list_any (λ t. holds_slot t && test t) threads
any_by_slot slots test threads some =
    any-flat_map test (λ s. filter (λ t. is_on slots s t && holds_slot t) threads) (range_with_len 0 slots)
    ∙ any_agree (λ s. list_any test (filter (λ t. is_on slots s t && holds_slot t) threads)) (λ s. list_any (λ t. (is_on slots s t && holds_slot t) && test t) threads) (λ s. any-filter test (λ t. is_on slots s t && holds_slot t) threads) (range_with_len 0 slots)
    ∙ any_swap (λ s t. (is_on slots s t && holds_slot t) && test t) (range_with_len 0 slots) threads
    ∙ any_agree (λ t. list_any (λ s. (is_on slots s t && holds_slot t) && test t) (range_with_len 0 slots)) (λ t. holds_slot t && test t) (λ t. on_some_slot slots test t some) threads

fails_by : (holds passes : Bool) → (holds && not passes) ≡ not (not holds || passes)
fails_by true passes = refl
fails_by false passes = refl

-- a test that each thread on a slot passes
pub all_by_slot : (slots : ℕ) (test : Thread → Bool) (threads : List Thread) → 0 < slots → list_all test (by_slot slots threads) ≡ list_all (λ t. not (holds_slot t) || test t) threads
all_by_slot slots test threads some =
    all_none test (by_slot slots threads)
    ∙ ap not (any_by_slot slots (λ t. not (test t)) threads some ∙ any_agree (λ t. holds_slot t && not (test t)) (λ t. not (not (holds_slot t) || test t)) (λ t. fails_by (holds_slot t) (test t)) threads)
    ∙ sym (all_none (λ t. not (holds_slot t) || test t) threads)

-- ---- new ids

empty_cons : (b : Bool) (x : Thread) (kept : List Thread) (some : Bool) → is_empty kept ≡ not some → is_empty (cond b (x ∷ kept) kept) ≡ not (b || some)
empty_cons true x kept some e = refl
empty_cons false x kept some e = e

-- nothing is left by a test that no thread passes
pub empty-filter : (p : Thread → Bool) (threads : List Thread) → is_empty (filter p threads) ≡ not (list_any p threads)
empty-filter p [] = refl
empty-filter p (t ∷ threads) = empty_cons (p t) t (filter p threads) (list_any p threads) (empty-filter p threads)

-- the id of the next thread on a slot, if it is free
abbrev id_if_free : ℕ → List Thread → ℕ → List ℕ
id_if_free slots threads s = cond (is_free slots threads s) (next_id slots threads s ∷ []) []

id_on_slot : (slots : ℕ) (threads : List Thread) (s : ℕ) → id_if_free slots threads s ≡ new_id_on slots s (seen_slot slots threads s)
id_on_slot slots threads s =
    ap (λ (b : Bool). cond b (next_id slots threads s ∷ []) []) (sym (empty-filter (λ t. is_on slots s t && holds_slot t) threads))

ids_from : (slots : ℕ) (threads : List Thread) (s n : ℕ) → flat_map (id_if_free slots threads) (range_with_len s n) ≡ new_ids_from slots s (map (seen_slot slots threads) (range_with_len s n))
ids_from slots threads s zero = refl
ids_from slots threads s (suc n) =
    ap (λ (first : List ℕ). first ++ flat_map (id_if_free slots threads) (range_with_len (s + 1) n)) (id_on_slot slots threads s)
    ∙ ap (λ (rest : List ℕ). new_id_on slots s (seen_slot slots threads s) ++ rest) (ids_from slots threads (s + 1) n)

-- the ids that a new thread can get
pub new_ids_seen : (slots : ℕ) (threads : List Thread) → free_ids slots threads ≡ new_ids_from slots 0 (by_index (seen_slot slots threads) slots)
unfolding free_ids
new_ids_seen slots threads =
    map-filter (next_id slots threads) (is_free slots threads) (range_with_len 0 slots) ∙ ids_from slots threads 0 slots

-- ---- what a thread sees of the others

-- each other thread has ended
pub last_seen : (slots tid : ℕ) (threads : List Thread) → 0 < slots → is_last tid threads ≡ is_last_in tid (by_index (seen_slot slots threads) slots)
last_seen slots tid threads some =
    sym (ap (list_all (λ (t : Thread). t.ended || nat_eq t.id tid)) (threads_seen slots threads) ∙ all_by_slot slots (λ t. t.ended || nat_eq t.id tid) threads some)

-- what the process with an id sees of the others
pub family_seen : (slots pid : ℕ) (w : World) → family_of w pid ≡ family_in (seen slots w) pid
family_seen slots pid w = ap (λ (relatives : List Relative). family_among (length w.processes) relatives pid) (sym (map-map relative_in (seen_process slots) (filter is_unreaped w.processes)))

-- what the thread with an id of a process sees of the others
pub environment_seen : (config : Config) (tid : ℕ) (w : World) (p : Process) → 0 < config.slots → environment_of config w p tid ≡ environment_in (has_timeouts config.format) config.slots (family_in (seen config.slots w) p.pid) (seen_process config.slots p).slots tid
unfolding environment_of environment_in
environment_seen config tid w p some =
    let slots : ℕ = config.slots in
    let threads : List Thread = p.threads in
    let rows : List SeenSlot = by_index (seen_slot slots threads) slots in
    let named : (id : ℕ) → with_id id threads ≡ thread_with slots id rows = λ id. sym (thread_seen slots id threads some) in
    let joined : (id : ℕ) → is_joined_by_one id threads ≡ is_joined_in id rows = λ id.
    sym (ap (list_any (λ (t : Thread). is_joining id t.status)) (threads_seen slots threads) ∙ any_by_slot slots (λ t. is_joining id t.status) threads some) in
    let ids : free_ids slots threads ≡ new_ids_from slots 0 rows = new_ids_seen slots threads in
    let waiting : (c : ℕ) → waiters_among c (by_slot slots threads) ≡ waiters_among c (threads_on rows) = λ c. sym (ap (waiters_among c) (threads_seen slots threads)) in
    let last : is_last tid threads ≡ is_last_in tid rows = last_seen slots tid threads some in
    let family : family_of w p.pid ≡ family_in (seen slots w) p.pid = family_seen slots p.pid w in
    λ i. record { named = λ id. named id i; another_joins = λ id. joined id i; new_ids = ids i; waiters = λ c. waiting c i; is_last = last i; family = family i; timeouts = has_timeouts config.format }

-- the choices of a thread of a process
pub choices_seen : (script : Script) (config : Config) (w : World) (p : Process) (t : Thread) → 0 < config.slots → choices_of script config w p t ≡ choices_in script (has_timeouts config.format) config.slots (family_in (seen config.slots w) p.pid) (seen_process config.slots p) t
choices_seen script config w p t some = ap (λ (environment : Environment). choices_at (body_at script t.frames) p.shared t environment (next_of script t.frames) t.status) (environment_seen config t.id w p some)
