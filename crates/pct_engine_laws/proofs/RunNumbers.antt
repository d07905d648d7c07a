-- The numbers of a run that is limited in its entries: of its processes, threads and keys, and those in its entries.
use Rattle.pct_names.proofs.Names.{◌&&◌, ◌*◌, ◌+◌, ◌<◌, [], after_transition, All, All-append, All-cons, All-filter, All-from_get_or}
use Rattle.pct_names.proofs.Names.{All-head, All-map, All-nil, All-tail, All-weaker, Alt, and_parts, ap, arith, as_reaped, body_at, Bool}
use Rattle.pct_names.proofs.Names.{by_slot, changed, child_of, choices_of, cond, Config, count_by, count_by-le-length, Entry, Environment}
use Rattle.pct_names.proofs.Names.{environment_of, false, false≢true, family_among, filter, find, first_process, flat_map, free_ids, get_or}
use Rattle.pct_names.proofs.Names.{get_or-range_with_len, has_ended, has_valid_id, holds_slot, inherited, inl, inr, is_free}
use Rattle.pct_names.proofs.Names.{is_live_process, is_on, is_unreaped, KeyPlace, left_keys, length, length-map, length-range_with_len}
use Rattle.pct_names.proofs.Names.{List, list_any, map, MAX_BUDGET, MAX_PASSES, MAX_SLOTS, MIN_PASSES, moved, mul-le-mul, nat_eq, nat_le}
use Rattle.pct_names.proofs.Names.{new_keys, NewThread, next_id, next_of, NextStatement, None, none-some, not, offers, opening, Option}
use Rattle.pct_names.proofs.Names.{option_and_then, option_map, or_cases, orphaned, other_process_after, Process, process_after}
use Rattle.pct_names.proofs.Names.{process_made, process_moved, ProcessAction, ProcessEnd, range_with_len, refl, relative_of, Run, run}
use Rattle.pct_names.proofs.Names.{run_from, run_step, same_Some, Script, shared_moved, SharedState, Some, Status, step, subst, suc}
use Rattle.pct_names.proofs.Names.{Successor, sym, Thread, thread_created, thread_moved, threads_moved, Transition, transition_by, true}
use Rattle.pct_names.proofs.Names.{Waiter, waiter_by, waiters_among, World, ℕ, ◌∙◌, ◌∷◌, ◌≡◌, ◌≤◌}
use Rattle.std.proofs.Common.{length-append, zero-add, eqb-true}
use Rattle.std.proofs.lemmas.Bool.{leb-true}
use Rattle.pct_model.specs.declared.schedule.Alt.TheVariants as alt
use Rattle.pct_model.specs.declared.state.Status.TheVariants as status
use Rattle.pct_model.specs.declared.transition.ProcessAction.TheVariants as process_action
use Rattle.pct_model.proofs.LegalSteps.{step_legal}
use Rattle.pct_engine_laws.specs.RunNumbers.{IsChoiceWithin, IsEntryWithin}
use Rattle.pct_engine_laws.proofs.ListFacts.{any-map, All-flat_map}
use Rattle.pct_engine_laws.proofs.LongerRuns.{run_parts, run_step-is, run_after}
use Rattle.pct_engine_laws.proofs.KeyNumbers.{HasFewOn, new_keys_within, left_keys_within, few_keys_more, few_keys_after, no_keys_few}
use Rattle.pct_engine_laws.proofs.WhatTransitionsMake.{Creates, MakesWith, transition_makes}
use Rattle.pct_engine_laws.proofs.ProcessNumbers.{AreNumbered, numbered_after, numbered_then, new_pid_is_next, child_pid, made_by}
use Rattle.pct_engine_laws.proofs.ThreadChanges.{transition_keeps, inherited_id}
use Rattle.pct_transition_cases.proofs.OfferedChoices.{Offered, may_go, may_act, may_create, may_make_key, may_pick, may_hand_on}
use Rattle.pct_transition_cases.proofs.OfferedChoices.{may_destroy, offered_of, may_expire}

-- ---- the numbers of a process

-- a process has an id of at most n, at most n threads, with ids that are limited by n, and few keys on each place
pub record HasFew (n pid : ℕ) (threads : List Thread) (keys : List KeyPlace) : Type 0 where
  pub pid_few : pid ≤ n
  pub few : length threads ≤ n
  pub ids : All (λ (t : Thread). t.id ≤ 64 + 64 * n) threads
  pub keys_few : All (HasFewOn n) keys

-- a transition makes a thread and a key with numbers that are limited by n, and a process with the next number after this many
abbrev MakesWithin : ℕ → ℕ → Transition → Type 0
MakesWithin n made o = MakesWith (λ id. id ≤ 64 + 64 * n) (λ k. k ≤ 128 + 128 * n) (λ pid. pid ≡ suc made) o

-- ---- the ids of new threads

next_within : (slots made s n m : ℕ) → slots ≤ 64 → s < slots → made ≤ n → n ≤ m → 1 + s + slots * made ≤ 64 + 64 * m
next_within slots made s n m few low made_few within =
    let made_all : made ≤ m = omega (arith, made_few, within) in
    let many : slots * made ≤ 64 * m = mul-le-mul few made_all in
    omega (arith, few, low, many)

-- the ids that are offered
free_within : (slots n : ℕ) (threads : List Thread) → slots ≤ 64 → length threads ≤ n → All (λ (id : ℕ). id ≤ 64 + 64 * n) (free_ids slots threads)
unfolding free_ids
free_within slots n threads few within =
    let all : List ℕ = range_with_len 0 slots in
    All-map (λ (id : ℕ). id ≤ 64 + 64 * n) (next_id slots threads) (filter (is_free slots threads) all)
    (All-filter (is_free slots threads) (λ (s : ℕ). next_id slots threads s ≤ 64 + 64 * n) all
    (All-from_get_or (λ (s : ℕ). next_id slots threads s ≤ 64 + 64 * n) all 0 (λ i low.
    let below : i < slots = subst (λ (k : ℕ). i < k) (length-range_with_len 0 slots) low in
    let at : i ≡ get_or all i 0 = sym (get_or-range_with_len 0 slots i 0 below ∙ zero-add i) in
    subst (λ (s : ℕ). next_id slots threads s ≤ 64 + 64 * n) at
    (next_within slots (count_by (is_on slots i) threads) i (length threads) n few below (count_by-le-length (is_on slots i) threads) within))))

-- ---- the ids of waiters

waiter_if : (P : ℕ → Type 0) (id m : ℕ) (waits : Bool) → P id → All (λ (w : Waiter). P w.id) (cond waits (record { id = id; mutex = m } ∷ []) [])
waiter_if P id m true has = All-cons (λ (w : Waiter). P w.id) _ [] has (All-nil (λ (w : Waiter). P w.id))
waiter_if P id m false has = All-nil (λ (w : Waiter). P w.id)

waiter_has : (P : ℕ → Type 0) (c id : ℕ) (s : Status) → P id → All (λ (w : Waiter). P w.id) (waiter_by c id s)
waiter_has P c id (status.Waiting k m) has = waiter_if P id m (nat_eq k c) has
waiter_has P c id _ has = All-nil (λ (w : Waiter). P w.id)

-- what the ids of all threads have, those of the waiters have
waiting_within : (P : ℕ → Type 0) (slots c : ℕ) (threads : List Thread) → All (λ (t : Thread). P t.id) threads → All (λ (w : Waiter). P w.id) (waiters_among c (by_slot slots threads))
waiting_within P slots c threads all =
    let all_slots : List ℕ = range_with_len 0 slots in
    let holds_on : ℕ → Thread → Bool = λ s t. is_on slots s t && holds_slot t in
    All-flat_map (λ (w : Waiter). P w.id) (λ (t : Thread). waiter_by c t.id t.status) (by_slot slots threads)
    (All-weaker (λ (t : Thread). P t.id) (λ t. All (λ (w : Waiter). P w.id) (waiter_by c t.id t.status)) (λ t has. waiter_has P c t.id t.status has) (by_slot slots threads)
    (All-flat_map (λ (t : Thread). P t.id) (λ s. filter (holds_on s) threads) all_slots (λ i d low. All-filter (holds_on (get_or all_slots i d)) (λ (t : Thread). P t.id) threads all)))

-- ---- the numbers of a choice

-- what all numbers have, one among them has
all_among : (P : ℕ → Type 0) (n : ℕ) (numbers : List ℕ) → All P numbers → list_any (nat_eq n) numbers ≡ true → P n
all_among P n [] all among = absurd (false≢true among)
all_among P n (k ∷ numbers) all among = elim (or_cases (nat_eq n k) (list_any (nat_eq n) numbers) among) [
  | inl here ↦ subst P (sym (eqb-true n k here)) (All-head P k numbers all)
  | inr later ↦ all_among P n numbers (All-tail P k numbers all) later
]

-- the same of the thread ids of waiters
waiter_among : (P : ℕ → Type 0) (n : ℕ) (waiters : List Waiter) → All (λ (w : Waiter). P w.id) waiters → list_any (λ waiter. nat_eq n waiter.id) waiters ≡ true → P n
waiter_among P n waiters all among = all_among P n (map (λ w. w.id) waiters) (All-map P (λ (w : Waiter). w.id) waiters all) (any-map (nat_eq n) (λ (w : Waiter). w.id) waiters ∙ among)

case_within : (limit : ℕ) (shared : SharedState) (t : Thread) (environment : Environment)
    → ((c : ℕ) → All (λ (w : Waiter). w.id ≤ limit) (environment.waiters c)) → All (λ (n : ℕ). n ≤ limit) environment.new_ids → All (λ (n : ℕ). n ≤ limit) (new_keys shared.keys) → All (λ (n : ℕ). n ≤ limit) (left_keys shared.keys t.specific)
    → {next : NextStatement} {s : Status} {choice : Alt} → Offered shared t environment next s choice → IsChoiceWithin limit choice
case_within limit shared t environment waiting ids made left (may_go next s alive) = tt
case_within limit shared t environment waiting ids made left (may_act next s alive delivered where_it_may) = omega arith
case_within limit shared t environment waiting ids made left (may_create frame result id f v detached n among) = all_among (λ (k : ℕ). k ≤ limit) n environment.new_ids ids among
case_within limit shared t environment waiting ids made left (may_make_key frame result key destructor n among) = all_among (λ (k : ℕ). k ≤ limit) n (new_keys shared.keys) made among
case_within limit shared t environment waiting ids made left (may_pick frame c n among) = waiter_among (λ (k : ℕ). k ≤ limit) n (environment.waiters c) (waiting c) among
case_within limit shared t environment waiting ids made left (may_hand_on next c m n enabled among) = waiter_among (λ (k : ℕ). k ≤ limit) n (environment.waiters c) (waiting c) among
case_within limit shared t environment waiting ids made left (may_expire next s timed expires before) = tt
case_within limit shared t environment waiting ids made left (may_destroy next k none among) = all_among (λ (n : ℕ). n ≤ limit) k (left_keys shared.keys t.specific) left among

module _ (script : Script) (config : Config) (w : World) (p : Process) (t : Thread) (choice : Alt) (n : ℕ) (slots : config.slots ≤ 64) (has : HasFew n p.pid p.threads p.shared.keys) (offered : offers (choices_of script config w p t) choice ≡ true) where
  -- what it sees of the others
  abbrev environment : Environment
  environment = environment_of config w p t.id

  ids_within : All (λ (id : ℕ). id ≤ 64 + 64 * n) environment.new_ids
  unfolding environment_of
  ids_within = free_within config.slots n p.threads slots has.few

  waiters_within : (c : ℕ) → All (λ (w : Waiter). w.id ≤ 64 + 64 * n) (environment.waiters c)
  unfolding environment_of
  waiters_within c = waiting_within (λ (id : ℕ). id ≤ 64 + 64 * n) config.slots c p.threads has.ids

  new_pid : (pid : ℕ) → environment.family.new_pid ≡ Some pid → pid ≡ suc (length w.processes)
  unfolding environment_of family_among
  new_pid pid is = new_pid_is_next (length w.processes) pid (map relative_of (filter is_unreaped w.processes)) is

  -- a choice that the thread is offered
  choice_within : IsChoiceWithin (128 + 128 * n) choice
  choice_within =
      let within : (id : ℕ) → id ≤ 64 + 64 * n → id ≤ 128 + 128 * n = λ id small. omega (arith, small) in
      let more : All (λ (id : ℕ). id ≤ 128 + 128 * n) environment.new_ids = All-weaker (λ (id : ℕ). id ≤ 64 + 64 * n) (λ id. id ≤ 128 + 128 * n) within environment.new_ids ids_within in
      let waiting : (c : ℕ) → All (λ (w : Waiter). w.id ≤ 128 + 128 * n) (environment.waiters c) =
      λ c. All-weaker (λ (w : Waiter). w.id ≤ 64 + 64 * n) (λ w. w.id ≤ 128 + 128 * n) (λ w. within w.id) (environment.waiters c) (waiters_within c) in
      case_within (128 + 128 * n) p.shared t environment waiting more (new_keys_within n p.shared.keys has.keys_few) (left_keys_within n p.shared.keys has.keys_few t.specific)
      (offered_of (body_at script t.frames) p.shared t environment choice (next_of script t.frames) t.status offered)

  -- what its transition makes
  made_within : MakesWithin n (length w.processes) (transition_by script config w p t choice)
  made_within =
      transition_makes (λ id. id ≤ 64 + 64 * n) (λ k. k ≤ 128 + 128 * n) (λ pid. pid ≡ suc (length w.processes)) config.passes (body_at script t.frames) p.shared t environment
      (λ id among. all_among (λ (i : ℕ). i ≤ 64 + 64 * n) id environment.new_ids ids_within among)
      (λ k among. all_among (λ (i : ℕ). i ≤ 128 + 128 * n) k (new_keys p.shared.keys) (new_keys_within n p.shared.keys has.keys_few) among)
      new_pid
      choice (next_of script t.frames) t.status offered

-- ---- a process after a transition

-- the id of a process, its threads and its keys
abbrev numbered : Process → ℕ × List Thread × List KeyPlace
numbered p = (p.pid, p.threads, p.shared.keys)

abbrev HasFewBy : ℕ → ℕ × List Thread × List KeyPlace → Type 0
HasFewBy n parts = HasFew n parts.0 parts.1 parts.2

-- the process has few threads and keys
abbrev pub HasFewIn : ℕ → Process → Type 0
HasFewIn n p = HasFewBy n (numbered p)

own_same : (a : Option ProcessAction) (p : Process) → numbered (process_after a p) ≡ numbered p
unfolding process_after
own_same (Some (process_action.End n)) p = refl
own_same _ p = refl

same_if : (child : Bool) (end : Option ProcessEnd) (p : Process) → numbered (cond child (orphaned end p) p) ≡ numbered p
same_if true None p = refl
same_if true (Some end) p = refl
same_if false end p = refl

reaped_same : (named : Bool) (p : Process) → numbered (cond named (record p { ended = as_reaped p.ended }) p) ≡ numbered p
reaped_same true p = refl
reaped_same false p = refl

other_same : (pid : ℕ) (a : Option ProcessAction) (p : Process) → numbered (other_process_after pid a p) ≡ numbered p
unfolding other_process_after
other_same pid (Some (process_action.End n)) p = same_if (nat_eq p.parent pid) p.ended p
other_same pid (Some (process_action.Reap child)) p = reaped_same (nat_eq p.pid child) p
other_same pid _ p = refl

few_created : (created : Option NewThread) → length (thread_created created) ≤ 1
few_created None = omega arith
few_created (Some new) = omega arith

small_created : (limit : ℕ) (created : Option NewThread) → Creates (λ id. id ≤ limit) created → All (λ (t : Thread). t.id ≤ limit) (thread_created created)
small_created limit None within = All-nil (λ (t : Thread). t.id ≤ limit)
small_created limit (Some new) within = All-cons (λ (t : Thread). t.id ≤ limit) _ [] within (All-nil (λ (t : Thread). t.id ≤ limit))

-- more of all
few_more : (n m pid : ℕ) (threads : List Thread) (keys : List KeyPlace) → n ≤ m → HasFew n pid threads keys → HasFew m pid threads keys
few_more n m pid threads keys within has = record {
  pid_few = omega (arith, has.pid_few, within);
  few = omega (arith, has.few, within);
  ids = All-weaker (λ (t : Thread). t.id ≤ 64 + 64 * n) (λ t. t.id ≤ 64 + 64 * m) (λ t id. omega (arith, id, within)) threads has.ids;
  keys_few = few_keys_more n m keys within has.keys_few;
}

-- the process of the thread after its transition
own_few : (n made tid : ℕ) (o : Transition) (p : Process) → MakesWithin n made o → HasFewIn n p → HasFewIn (n + 1) (changed tid o p)
own_few n made tid o p makes has =
    let moved : List Thread = map (thread_moved tid o) p.threads in
    let small = λ (t : Thread). t.id ≤ 64 + 64 * n in
    let kept : All small moved = All-map small (thread_moved tid o) p.threads (All-weaker small (λ t. (thread_moved tid o t).id ≤ 64 + 64 * n) (λ t id. subst (λ (k : ℕ). k ≤ 64 + 64 * n) (sym ((transition_keeps tid o).same_id t)) id) p.threads has.ids) in
    let all : All small (threads_moved tid o p.threads) = All-append small moved (thread_created o.created) kept (small_created (64 + 64 * n) o.created makes.thread) in
    subst (HasFewBy (n + 1)) (sym (own_same o.process (record p { threads = threads_moved tid o p.threads; shared = shared_moved tid o p.shared })))
    (record {
      pid_few = omega (arith, has.pid_few);
      few = omega (arith, length-append moved (thread_created o.created), length-map p.threads (thread_moved tid o), few_created o.created, has.few);
      ids = All-weaker small (λ t. t.id ≤ 64 + 64 * (n + 1)) (λ t id. omega (arith, id)) (threads_moved tid o p.threads) all;
      keys_few = few_keys_after n o.shared _ makes.key has.keys_few;
    })

-- another process
other_few : (n pid : ℕ) (o : Transition) (p : Process) → HasFewIn n p → HasFewIn (n + 1) (other_process_after pid o.process p)
other_few n pid o p has = subst (HasFewBy (n + 1)) (sym (other_same pid o.process p)) (few_more n (n + 1) p.pid p.threads p.shared.keys (omega arith) has)

-- the child of a process
child_few : (n tid pid : ℕ) (p : Process) → pid ≤ n → HasFewIn n p → HasFewIn n (child_of tid pid p)
unfolding child_of
child_few n tid pid p within has =
    let small = λ (t : Thread). t.id ≤ 64 + 64 * n in
    record {
      pid_few = within;
      few = omega (arith, length-map p.threads (inherited tid), has.few);
      ids = All-map small (inherited tid) p.threads (All-weaker small (λ t. (inherited tid t).id ≤ 64 + 64 * n) (λ t id. subst (λ (k : ℕ). k ≤ 64 + 64 * n) (sym (inherited_id tid t)) id) p.threads has.ids);
      keys_few = has.keys_few;
    }

-- ---- a state

-- a state has at most n processes, which are numbered in their order, and each has few threads and keys
pub record StateWithin (n : ℕ) (w : World) : Type 0 where
  pub few : length w.processes ≤ n
  pub pids : AreNumbered 1 w.processes
  pub each : All (HasFewIn n) w.processes

-- the same of processes that a transition makes, where this is the next number
record MadeWithin (n next : ℕ) (made : List Process) : Type 0 where
  few : length made ≤ 1
  pids : AreNumbered next made
  each : All (HasFewIn n) made

pid_if : (pid tid : ℕ) (o : Transition) (p : Process) (own : Bool) → (cond own (changed tid o p) (other_process_after pid o.process p)).pid ≡ p.pid
pid_if pid tid o p true = ap (λ (parts : ℕ × List Thread × List KeyPlace). parts.0) (own_same o.process (record p { threads = threads_moved tid o p.threads; shared = shared_moved tid o p.shared }))
pid_if pid tid o p false = ap (λ (parts : ℕ × List Thread × List KeyPlace). parts.0) (other_same pid o.process p)

few_if : (n made pid tid : ℕ) (o : Transition) (p : Process) (own : Bool) → MakesWithin n made o → HasFewIn n p → HasFewIn (n + 1) (cond own (changed tid o p) (other_process_after pid o.process p))
few_if n made pid tid o p true makes has = own_few n made tid o p makes has
few_if n made pid tid o p false makes has = other_few n pid o p has

-- after a transition
few_after : (n pid tid : ℕ) (o : Transition) (w : World) → MakesWithin n (length w.processes) o → StateWithin n w → StateWithin (n + 1) (after_transition pid tid o w)
unfolding after_transition
few_after n pid tid o w makes has =
    let number : ℕ = length w.processes in
    let moved : List Process = map (process_moved pid tid o) w.processes in
    let made : List Process = flat_map (process_made pid tid o) w.processes in
    let same_number : length moved ≡ number = length-map w.processes (process_moved pid tid o) in
    let none : MadeWithin (n + 1) (suc number) [] = record { few = omega arith; pids = tt; each = All-nil (HasFewIn (n + 1)) } in
    let one : (p : Process) → HasFewIn n p → MadeWithin (n + 1) (suc number) (child_of tid (suc number) (changed tid o p) ∷ []) =
    λ p few.
    let child : Process = child_of tid (suc number) (changed tid o p) in
    record { few = omega arith; pids = (child_pid tid (suc number) (changed tid o p), tt); each = All-cons (HasFewIn (n + 1)) child [] (child_few (n + 1) tid (suc number) (changed tid o p) (omega (arith, has.few)) (own_few n number tid o p makes few)) (All-nil (HasFewIn (n + 1))) } in
    let added : MadeWithin (n + 1) (suc number) made = made_by pid tid o (suc number) makes.process (HasFewIn n) (MadeWithin (n + 1) (suc number)) none one 1 w.processes has.pids has.each in
    record {
      few = omega (arith, length-append moved made, same_number, has.few, added.few);
      pids = numbered_then 1 (suc number) moved made (omega (arith, same_number)) (numbered_after (process_moved pid tid o) (λ p. pid_if pid tid o p (is_live_process pid p)) 1 w.processes has.pids) added.pids;
      each = All-append (HasFewIn (n + 1)) moved made (All-map (HasFewIn (n + 1)) (process_moved pid tid o) w.processes (All-weaker (HasFewIn n) (λ p. HasFewIn (n + 1) (process_moved pid tid o p)) (λ p. few_if n number pid tid o p (is_live_process pid p) makes) w.processes has.each)) added.each;
    }

-- ---- an entry

-- what is found has what all have, and passes the test
found_all : {X : Type 0} (P : X → Type 0) (test : X → Bool) (xs : List X) (x : X) → find test xs ≡ Some x → All P xs → P x × (test x ≡ true)
found_all P test [] x is all = absurd (none-some x is)
found_all {X} P test (y ∷ ys) x is all = either (test y) refl is (λ later. found_all P test ys x later (All-tail P y ys all)) where
  either : (b : Bool) → test y ≡ b → cond b (Some y) (find test ys) ≡ Some x → (find test ys ≡ Some x → P x × (test x ≡ true)) → P x × (test x ≡ true)
  either true passes found rest = let same : y ≡ x = same_Some y x found in (subst P same (All-head P y ys all), ap test (sym same) ∙ passes)
  either false passes found rest = rest found

-- the entry has numbers of at most a limit, and the state after it has its numbers
record StepsWithin (n : ℕ) (e : Entry) (w : World) : Type 0 where
  numbers : IsEntryWithin (128 + 128 * n) e
  state : StateWithin (n + 1) w

-- a step
step_within : (script : Script) (config : Config) (n : ℕ) (w : World) (e : Entry) (s : Successor) → config.slots ≤ 64 → step script config w e ≡ Some s → StateWithin n w → StepsWithin n e s.world
step_within script config n w e s slots is has =
    let made = step_legal script config w e s is in
    let legal = made.0 in
    let p = legal.process in
    let t = legal.thread in
    let process = found_all (HasFewIn n) (is_live_process e.pid) w.processes p legal.live has.each in
    let thread = found_all (λ (x : Thread). x.id ≤ 64 + 64 * n) (has_valid_id e.tid) p.threads t legal.holds process.0.ids in
    let pid : p.pid ≡ e.pid = eqb-true p.pid e.pid (and_parts (nat_eq p.pid e.pid) (not (has_ended p)) process.1).0 in
    let tid : t.id ≡ e.tid = eqb-true t.id e.tid (and_parts (nat_eq t.id e.tid) (holds_slot t) thread.1).0 in
    subst (λ (x : Successor). StepsWithin n e x.world) made.1
    (record {
      numbers = record {
        worker = legal.worker;
        pid = omega (arith, pid, process.0.pid_few);
        tid = omega (arith, tid, thread.0);
        choice = choice_within script config w p t e.alt n slots process.0 legal.offered;
      };
      state = few_after n e.pid e.tid (transition_by script config w p t e.alt) w (made_within script config w p t e.alt n slots process.0 legal.offered) has;
    })

-- ---- runs

choice_more : (limit more : ℕ) (choice : Alt) → limit ≤ more → IsChoiceWithin limit choice → IsChoiceWithin more choice
choice_more limit more alt.Go within small = tt
choice_more limit more (alt.Act n) within small = omega (arith, within, small)
choice_more limit more (alt.New n) within small = omega (arith, within, small)
choice_more limit more (alt.Pick n) within small = omega (arith, within, small)
choice_more limit more (alt.Dtor n) within small = omega (arith, within, small)
choice_more limit more alt.Expire within small = tt

entry_more : (limit more : ℕ) (e : Entry) → limit ≤ more → IsEntryWithin limit e → IsEntryWithin more e
entry_more limit more e within small = record { worker = small.worker; pid = omega (arith, within, small.pid); tid = omega (arith, within, small.tid); choice = choice_more limit more e.alt within small.choice }

-- the numbers of a run of these entries, with at most m entries in all
pub record RunsWithin (m : ℕ) (entries : List Entry) (after : Run) : Type 0 where
  pub numbers : All (IsEntryWithin (128 + 128 * m)) entries
  pub state : StateWithin m after.world

module _ (script : Script) (config : Config) (m : ℕ) (slots : config.slots ≤ 64) (after : Run) where
  by_step : (n : ℕ) (r next : Run) (e : Entry) (o : Option Successor) → step script config r.world e ≡ o → option_map (run_after r e) o ≡ Some next → StateWithin n r.world → StepsWithin n e next.world
  by_step n r next e None at is has = absurd (none-some next is)
  by_step n r next e (Some s) at is has = subst (λ (x : Run). StepsWithin n e x.world) (same_Some (run_after r e s) next is) (step_within script config n r.world e s slots at has)

  runs_then : (n : ℕ) (r : Run) (e : Entry) (entries : List Entry) (o : Option Run) → run_step script config r e ≡ o → option_and_then (λ (next : Run). run_from script config next entries) o ≡ Some after → n ≤ m → StateWithin n r.world
      → ((next : Run) → run_from script config next entries ≡ Some after → StateWithin (n + 1) next.world → RunsWithin m entries after) → RunsWithin m (e ∷ entries) after
  runs_then n r e entries None at is within has rest = absurd (none-some after is)
  runs_then n r e entries (Some next) at is within has rest =
      let made = by_step n r next e (step script config r.world e) refl (sym (run_step-is script config r e (step script config r.world e) refl) ∙ at) has in
      let later = rest next is made.state in
      record { numbers = All-cons (IsEntryWithin (128 + 128 * m)) e entries (entry_more (128 + 128 * n) (128 + 128 * m) e (omega (arith, within)) made.numbers) later.numbers; state = later.state }

  runs_from : (n : ℕ) (r : Run) (entries : List Entry) → run_from script config r entries ≡ Some after → n + length entries ≤ m → StateWithin n r.world → RunsWithin m entries after
  unfolding run_from
  runs_from n r [] is within has = record {
    numbers = All-nil (IsEntryWithin (128 + 128 * m));
    state = subst (λ (x : Run). StateWithin m x.world) (same_Some r after is) (record {
      few = omega (arith, within, has.few);
      pids = has.pids;
      each = All-weaker (HasFewIn n) (HasFewIn m) (λ p. few_more n m p.pid p.threads p.shared.keys (omega (arith, within))) r.world.processes has.each;
    });
  }
  runs_from n r (e ∷ entries) is within has =
      runs_then n r e entries (run_step script config r e) refl is (omega (arith, within)) has (λ next ran more. runs_from (n + 1) next entries ran (omega (arith, within)) more)

-- the limits of a configuration, and of the entries of a run
pub record IsLimited (config : Config) (entries : List Entry) : Type 0 where
  pub slots : config.slots ≤ 64
  pub budget : length entries ≤ 200000

pub run_limited : (script : Script) (config : Config) (entries : List Entry) (after : Run) → run script config entries ≡ Some after → IsLimited config entries
run_limited script config entries after is =
    let b1 : Bool = nat_le 1 config.budget in
    let b2 : Bool = nat_le config.budget MAX_BUDGET in
    let b3 : Bool = nat_le MIN_PASSES config.passes in
    let b4 : Bool = nat_le config.passes MAX_PASSES in
    let b5 : Bool = nat_le 1 config.slots in
    let b6 : Bool = nat_le config.slots MAX_SLOTS in
    let parts = run_parts script config entries after is in
    let p6 = and_parts (b1 && b2 && b3 && b4 && b5) b6 parts.limits in
    let p5 = and_parts (b1 && b2 && b3 && b4) b5 p6.0 in
    let p4 = and_parts (b1 && b2 && b3) b4 p5.0 in
    let p3 = and_parts (b1 && b2) b3 p4.0 in
    let p2 = and_parts b1 b2 p3.0 in
    let budget = leb-true config.budget MAX_BUDGET p2.1 in
    record { slots = leb-true config.slots MAX_SLOTS p6.1; budget = omega (arith, parts.within, budget) }

-- a run makes at most one process and one thread for each entry, beside the initial ones
pub run_within : (script : Script) (config : Config) (entries : List Entry) (after : Run) → run script config entries ≡ Some after → RunsWithin (1 + length entries) entries after
unfolding opening
run_within script config entries after is =
    let parts = run_parts script config entries after is in
    let small = λ (t : Thread). t.id ≤ 64 + 64 * 1 in
    let first : HasFewIn 1 (first_process script) = record { pid_few = omega arith; few = omega arith; ids = All-cons small _ [] (omega arith) (All-nil small); keys_few = no_keys_few } in
    runs_from script config (1 + length entries) (run_limited script config entries after is).slots after 1 (record { world = opening script; events = [] }) entries parts.ran (omega arith) (record { few = omega arith; pids = (refl, tt); each = All-cons (HasFewIn 1) (first_process script) [] first (All-nil (HasFewIn 1)) })

-- the entries of a run have numbers of 32 bits
pub run_numbers_fit : (script : Script) (config : Config) (entries : List Entry) (after : Run) → run script config entries ≡ Some after → All (IsEntryWithin 4294967295) entries
run_numbers_fit script config entries after is =
    let limit : ℕ = 128 + 128 * (1 + length entries) in
    let few : limit ≤ 4294967295 = omega (arith, (run_limited script config entries after is).budget) in
    All-weaker (IsEntryWithin limit) (IsEntryWithin 4294967295) (λ e. entry_more limit 4294967295 e few) entries (run_within script config entries after is).numbers
