-- What is kept of a process is of one that was made, and each thread that is kept on its slots was made and is not gone.
use Rattle.pct_names.proofs.Names.{◌&&◌, ◌*◌, ◌+◌, ◌<◌, [], All, All-filter, All-get_or, All-map, All-weaker, and_parts, ap, arith, Bool}
use Rattle.pct_names.proofs.Names.{cond, Event, false, filter, filter_passes, find, get_or, get_or_from_slice_get, HasProcessNumbers}
use Rattle.pct_names.proofs.Names.{HasThreadNumbers, holds_slot, is_on, List, made_process, made_thread, mul-lt-mul_of_pos_left, nat_eq}
use Rattle.pct_names.proofs.Names.{none-some, not, not-true, NumbersThreads, option_and_then, Process, refl, same_Some, slice_get}
use Rattle.pct_names.proofs.Names.{slice_get-get_or, slice_get_within, slot_of, Some, subst, suc, sym, Thread, thread_with, true}
use Rattle.pct_names.proofs.Names.{was_reaped, was_reclaimed, World, zero, ℕ, ◌∙◌, ◌∷◌, ◌≡◌}
use Rattle.std.proofs.Common.{eqb-true, eq-eqb, ne_eqb}
use mathlib.Core.Bool.{and-false}
use Rattle.pct_engine_laws.specs.Seen.{SeenSlot, SeenProcess, seen_slot, seen_process, seen}
use Rattle.pct_engine_laws.proofs.ListFacts.{find_agree, find-filter, filter_both}
use Rattle.pct_engine_laws.proofs.PlacedThreads.{slots_are_all, slot_is_seen}

-- ---- numbered lists

module _ {A : Type 0} (key : A → ℕ) where
  -- where the items have rising numbers, each is the first one with its number
  found_by_number : (number : ℕ → ℕ) → ((j k : ℕ) → j < k → number j < number k) → (xs : List A) → ((k : ℕ) (x : A) → slice_get xs k ≡ Some x → key x ≡ number k)
      → (k : ℕ) (x : A) → slice_get xs k ≡ Some x → find (λ y. nat_eq (key y) (key x)) xs ≡ Some x
  found_by_number number rises [] numbered k x at = absurd (none-some x at)
  found_by_number number rises (first ∷ xs) numbered zero x at =
      let same : first ≡ x = same_Some first x at in
      ap (λ (b : Bool). cond b (Some first) (find (λ y. nat_eq (key y) (key x)) xs)) (eq-eqb (key first) (key x) (ap key same)) ∙ ap Some same
  found_by_number number rises (first ∷ xs) numbered (suc k) x at =
      let lowest : key first ≡ number 0 = numbered 0 first refl in
      let later : key x ≡ number (suc k) = numbered (suc k) x at in
      let below : number 0 < number (suc k) = rises 0 (suc k) (omega arith) in
      ap (λ (b : Bool). cond b (Some first) (find (λ y. nat_eq (key y) (key x)) xs)) (ne_eqb (key first) (key x) (λ same. absurd (omega (arith, lowest, later, below, same))))
      ∙ found_by_number (λ j. number (suc j)) (λ i j low. rises (suc i) (suc j) (omega (arith, low))) xs (λ j y here. numbered (suc j) y here) k x at

  -- so is each item of them
  each_found : (number : ℕ → ℕ) → ((j k : ℕ) → j < k → number j < number k) → (xs : List A) → ((k : ℕ) (x : A) → slice_get xs k ≡ Some x → key x ≡ number k) → All (λ x. find (λ y. nat_eq (key y) (key x)) xs ≡ Some x) xs
  each_found number rises xs numbered = λ i d within. found_by_number number rises xs numbered i (get_or xs i d) (slice_get-get_or xs i d within)

-- ---- processes and threads that were made

-- each process is the one that was made with its pid
processes_found : (w : World) → HasProcessNumbers w → All (λ p. made_process p.pid w ≡ Some p) w.processes
processes_found w numbers = each_found (λ (p : Process). p.pid) (λ k. 1 + k) (λ j k low. omega (arith, low)) w.processes numbers

module _ (slots : ℕ) (p : Process) (some : 0 < slots) (numbers : HasThreadNumbers slots p.threads) where
  -- a thread with the id of one on a slot is on this slot
  on_by_id : (s : ℕ) (t u : Thread) (named : Bool) → nat_eq u.id t.id ≡ named → is_on slots s t ≡ true → (is_on slots s u && named) ≡ named
  on_by_id s t u true named on = ap (λ (b : Bool). b && true) (ap (λ (id : ℕ). nat_eq (slot_of slots id) s) (eqb-true u.id t.id named) ∙ on)
  on_by_id s t u false named on = and-false (is_on slots s u)

  -- each thread on a slot, reclaimed or not, is the one that was made with its id
  found_on : (s : ℕ) → s < slots → All (λ t. thread_with t.id p ≡ Some t) (filter (is_on slots s) p.threads)
  found_on s low =
      let on : List Thread = filter (is_on slots s) p.threads in
      let found : All (λ t. find (λ u. nat_eq u.id t.id) on ≡ Some t) on =
      each_found (λ (t : Thread). t.id) (λ k. 1 + s + slots * k) (λ j k less. let product : slots * j < slots * k = mul-lt-mul_of_pos_left less some in omega (arith, product)) on (λ k t at. numbers s k t low at) in
      λ i d within.
      let t : Thread = get_or on i d in
      sym (
      find-filter (λ (u : Thread). nat_eq u.id t.id) (is_on slots s) p.threads
      ∙ find_agree (λ u. is_on slots s u && nat_eq u.id t.id) (λ u. nat_eq u.id t.id) (λ u. on_by_id s t u (nat_eq u.id t.id) refl (filter_passes (is_on slots s) p.threads i d within)) p.threads
      )
      ∙ found i d within

-- a thread of a process of a state was made, and is not gone
pub record IsMadeThread (w : World) (p : Process) (t : Thread) : Type 0 where
  pub found : thread_with t.id p ≡ Some t
  pub made : made_thread p.pid t.id w ≡ Some t
  pub here : t.gone ≡ false

-- ---- what is kept

-- what is kept of a process of a state: the process was made, and so was each thread that is kept on a slot
pub record IsSeenOf (slots : ℕ) (w : World) (v : SeenProcess) : Type 0 where
  pub process : Process
  pub same : v ≡ seen_process slots process
  pub made : made_process process.pid w ≡ Some process
  pub threads : (k : ℕ) (row : SeenSlot) → slice_get v.slots k ≡ Some row → All (IsMadeThread w process) row.here

module _ (slots : ℕ) (w : World) (events : List Event) (some : 0 < slots) (numbers : NumbersThreads slots w events) where
  -- the threads that are kept on a slot of a process that was made
  threads_made : (p : Process) → made_process p.pid w ≡ Some p → (s : ℕ) → s < slots → All (IsMadeThread w p) (seen_slot slots p.threads s).here
  threads_made p is s low =
      let on : List Thread = filter (is_on slots s) p.threads in
      let kept : List Thread = filter holds_slot on in
      let found : All (λ t. thread_with t.id p ≡ Some t) kept = All-filter holds_slot (λ (t : Thread). thread_with t.id p ≡ Some t) on (found_on slots p some (numbers.threads p.pid p is) s low) in
      let each : All (IsMadeThread w p) kept = λ i d within.
      let t : Thread = get_or kept i d in
      let holds : holds_slot t ≡ true = filter_passes holds_slot on i d within in
      record {
        found = found i d within;
        made = ap (option_and_then (thread_with t.id)) is ∙ found i d within;
        here = not-true t.gone (and_parts (not t.gone) (not (was_reclaimed t)) holds).0;
      } in
      subst (All (IsMadeThread w p)) (sym (filter_both (is_on slots s) holds_slot p.threads)) each

  -- what is kept of a process that was made
  process_seen_of : (p : Process) → made_process p.pid w ≡ Some p → IsSeenOf slots w (seen_process slots p)
  process_seen_of p is = record {
    process = p;
    same = refl;
    made = is;
    threads = λ k row at.
        let low : k < slots = rw (← slots_are_all slots p) (slice_get_within (seen_process slots p).slots k row at) in
        let same : seen_slot slots p.threads k ≡ row = same_Some (seen_slot slots p.threads k) row (sym (slot_is_seen slots k p low) ∙ at) in
        subst (λ (r : SeenSlot). All (IsMadeThread w p) r.here) same (threads_made p is k low);
  }

  -- each process that is kept of a state
  pub all_seen_of : All (IsSeenOf slots w) (seen slots w).processes
  all_seen_of =
      let left : List Process = filter (λ p. not (was_reaped p.ended)) w.processes in
      All-map (IsSeenOf slots w) (seen_process slots) left
      (All-weaker (λ (p : Process). made_process p.pid w ≡ Some p) (λ p. IsSeenOf slots w (seen_process slots p)) process_seen_of left
      (All-filter (λ (p : Process). not (was_reaped p.ended)) (λ (p : Process). made_process p.pid w ≡ Some p) w.processes (processes_found w numbers.processes)))

  -- the process at an index
  pub seen_of : (i : ℕ) (v : SeenProcess) → slice_get (seen slots w).processes i ≡ Some v → IsSeenOf slots w v
  seen_of i v at =
      let all : List SeenProcess = (seen slots w).processes in
      subst (IsSeenOf slots w) (get_or_from_slice_get all i v v at) (All-get_or (IsSeenOf slots w) all i v (slice_get_within all i v at) all_seen_of)
