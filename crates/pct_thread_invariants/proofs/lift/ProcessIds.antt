-- The pids of processes and the ids of their threads after every run: the pids are numbered in the order in which the processes were made,
-- the ids on each slot, and no two are the same.
use Rattle.pct_names.proofs.Names.{◌+◌, ◌++◌, ◌<◌, [], after_transition, All-map, and_parts, ap, arith, Bool, changed, child_of, cond}
use Rattle.pct_names.proofs.Names.{Config, Entry, false, first_process, free_ids, get_or, has_ended, HasProcessNumbers, inl, inr}
use Rattle.pct_names.proofs.Names.{is_live_process, length, length-map, List, list_any, list_any_none, made_process, map, map-append}
use Rattle.pct_names.proofs.Names.{mul-zero, nat_eq, NewThread, none-some, not, opening, Option, other_process_after, position_or_len}
use Rattle.pct_names.proofs.Names.{Process, process_moved, refl, same_Some, Script, slice_get, slice_get-get_or, slice_get-map}
use Rattle.pct_names.proofs.Names.{slice_get_within, Some, subst, suc, sym, Thread, thread_moved, Transition, transition_by, true, World}
use Rattle.pct_names.proofs.Names.{zero, ℕ, ◌∙◌, ◌∷◌, ◌≡◌, ◌≤◌}
use Rattle.std.proofs.Common.{eqb-true, ne_eqb, append-nil}
use Rattle.pct_thread_invariants.proofs.lift.KeyedLists.{AreDistinct, found_at, found_passes, distinct_push, keys_changed, item_pushed}
use Rattle.pct_thread_invariants.proofs.lift.KeyedLists.{mapped_some}
use Rattle.pct_thread_invariants.proofs.lift.TakenSteps.{AfterEveryRun, every_run}
use Rattle.pct_thread_invariants.proofs.lift.ChangedThreads.{thread_moved_keeps, changed_threads, other_threads, pids_of, process_moved_pid}
use Rattle.pct_thread_invariants.proofs.lift.CreatedThreads.{Makes, makes_none, forks, creates_with_next_id}
use Rattle.pct_thread_invariants.proofs.lift.InheritedThreads.{ids_born}
use Rattle.pct_thread_invariants.proofs.lift.MadeThreads.{child_made, IsStep, is_step, process_is_made}
use Rattle.pct_thread_invariants.proofs.lift.ThreadIds.{HaveIds, ids_pushed, ids_after}
use Rattle.pct_thread_invariants.proofs.lift.ThreadsAfter.{initial_thread}

-- what is kept of pids, and of the ids of threads; a process has slots
pub record HavePids (slots : ℕ) (w : World) : Type 0 where
  pub some : 0 < slots
  pub distinct : AreDistinct (pids_of w.processes)
  pub numbers : HasProcessNumbers w
  pub ids : (k : ℕ) (p : Process) → slice_get w.processes k ≡ Some p → HaveIds slots p.threads

-- no process has the next pid
pub next_is_new : (slots : ℕ) (w : World) → HavePids slots w → (pid : ℕ) → pid ≡ 1 + length w.processes → list_any (λ n. nat_eq n pid) (pids_of w.processes) ≡ false
next_is_new slots w pids pid next = list_any_none (λ n. nat_eq n pid) (pids_of w.processes) (All-map (λ n. nat_eq n pid ≡ false) (λ (q : Process). q.pid) w.processes (λ k d low.
    let number : (get_or w.processes k d).pid ≡ 1 + k = pids.numbers k (get_or w.processes k d) (slice_get-get_or w.processes k d low) in
    ne_eqb (get_or w.processes k d).pid pid (λ same. absurd (omega (arith, number, next, same, low)))))

first_number : (script : Script) (k : ℕ) (p : Process) → slice_get (first_process script ∷ []) k ≡ Some p → p.pid ≡ 1 + k
first_number script zero p at = ap (λ (q : Process). q.pid) (sym (same_Some (first_process script) p at))
first_number script (suc k) p at = absurd (none-some p at)

-- thread 1 is the first one on slot 0
first_ids : (script : Script) (slots : ℕ) → 0 < slots → (k : ℕ) (p : Process) → slice_get (first_process script ∷ []) k ≡ Some p → HaveIds slots p.threads
first_ids script slots some zero p at =
    subst (λ (q : Process). HaveIds slots q.threads) (same_Some (first_process script) p at)
    (ids_pushed slots [] (record { numbers = λ s k t low none. absurd (none-some t none); distinct = tt }) (initial_thread script) (0, some, omega (arith, mul-zero slots)) some)
first_ids script slots some (suc k) p at = absurd (none-some p at)

first_pids : (script : Script) (slots : ℕ) → 0 < slots → HavePids slots (opening script)
unfolding opening
first_pids script slots some = record { some = some; distinct = (refl, tt); numbers = first_number script; ids = first_ids script slots some }

-- the index of a process that was made
made_at : (w : World) (pid : ℕ) (p : Process) → made_process pid w ≡ Some p → (k : ℕ) × (slice_get w.processes k ≡ Some p) × (p.pid ≡ pid)
made_at w pid p is =
    let test : Process → Bool = λ q. nat_eq q.pid pid in
    (position_or_len test w.processes, found_at test w.processes p is, eqb-true p.pid pid (found_passes test w.processes p is))

-- a process that was made has none of the pids that come
pub was_made : (slots : ℕ) (w : World) → HavePids slots w → (pid : ℕ) (p : Process) → made_process pid w ≡ Some p → pid ≤ length w.processes
was_made slots w pids pid p is =
    let at = made_at w pid p is in
    let within : at.0 < length w.processes = slice_get_within w.processes at.0 p at.1 in
    let number : p.pid ≡ 1 + at.0 = pids.numbers at.0 p at.1 in
    omega (arith, within, number, at.2)

-- its threads have ids
pub ids_of_made : (slots : ℕ) (w : World) → HavePids slots w → (pid : ℕ) (p : Process) → made_process pid w ≡ Some p → HaveIds slots p.threads
ids_of_made slots w pids pid p is = let at = made_at w pid p is in pids.ids at.0 p at.1

-- a transition that creates a thread only with an id that is free
abbrev CreatesFree : ℕ → Process → Transition → Type 0
CreatesFree slots p o = (new : NewThread) → o.created ≡ Some new → list_any (nat_eq new.id) (free_ids slots p.threads) ≡ true

module _ (slots : ℕ) (e : Entry) (p : Process) (t : Thread) (o : Transition) (w after : World) (pids : HavePids slots w) (made_is : made_process e.pid w ≡ Some p) (creates : CreatesFree slots p o) where
  abbrev moved : List Process
  moved = map (process_moved e.pid e.tid o) w.processes

  -- the process with an id that the transition makes
  abbrev child : ℕ → Process
  child new = child_of e.tid new p

  same_pids : pids_of moved ≡ pids_of w.processes
  same_pids = keys_changed (λ (q : Process). q.pid) (process_moved e.pid e.tid o) (process_moved_pid e.pid e.tid o) w.processes

  number : (k : ℕ) (q : Process) → slice_get moved k ≡ Some q → q.pid ≡ 1 + k
  number k q at =
      let from = mapped_some (process_moved e.pid e.tid o) (slice_get w.processes k) q (sym (slice_get-map (process_moved e.pid e.tid o) w.processes k) ∙ at) in
      ap (λ (x : Process). x.pid) (sym from.2) ∙ process_moved_pid e.pid e.tid o from.0 ∙ pids.numbers k from.0 from.1

  -- ---- the ids of threads

  -- those of the process of the thread that moves, before the step and after it
  ids_before : HaveIds slots p.threads
  ids_before = ids_of_made slots w pids e.pid p made_is

  ids_changed_by : HaveIds slots (changed e.tid o p).threads
  ids_changed_by =
      subst (HaveIds slots) (sym (changed_threads e.tid o p)) (ids_after slots (thread_moved e.tid o) (λ u. ap (λ (i : ℕ × Bool). i.0) (thread_moved_keeps e.tid o u)) p.threads o.created pids.some creates ids_before)

  -- those of each process that was made before
  ids_moved : (k : ℕ) (q : Process) → slice_get w.processes k ≡ Some q → (live : Bool) → is_live_process e.pid q ≡ live → HaveIds slots (cond live (changed e.tid o q) (other_process_after e.pid o.process q)).threads
  ids_moved k q at true live =
      let of_p = made_at w e.pid p made_is in
      let number : q.pid ≡ 1 + k = pids.numbers k q at in
      let number_of_p : p.pid ≡ 1 + of_p.0 = pids.numbers of_p.0 p of_p.1 in
      let pid : q.pid ≡ e.pid = eqb-true q.pid e.pid (and_parts (nat_eq q.pid e.pid) (not (has_ended q)) live).0 in
      let same : of_p.0 ≡ k = omega (arith, number, number_of_p, pid, of_p.2) in
      subst (λ (x : Process). HaveIds slots (changed e.tid o x).threads) (same_Some p q (sym of_p.1 ∙ ap (slice_get w.processes) same ∙ at)) ids_changed_by
  ids_moved k q at false other = subst (HaveIds slots) (sym (other_threads e.pid o q)) (pids.ids k q at)

  ids_later : (k : ℕ) (q : Process) → slice_get moved k ≡ Some q → HaveIds slots q.threads
  ids_later k q at =
      let from = mapped_some (process_moved e.pid e.tid o) (slice_get w.processes k) q (sym (slice_get-map (process_moved e.pid e.tid o) w.processes k) ∙ at) in
      subst (λ (x : Process). HaveIds slots x.threads) from.2 (ids_moved k from.0 from.1 (is_live_process e.pid from.0) refl)

  -- ---- both

  pids_by : {made : Option ℕ} → after.processes ≡ moved ++ child_made e.tid p made → Makes w t.status o made → HavePids slots after
  unfolding child_of
  pids_by are (makes_none nothing quiet) =
      let same : after.processes ≡ moved = are ∙ append-nil moved in
      let before : (k : ℕ) (q : Process) → slice_get after.processes k ≡ Some q → slice_get moved k ≡ Some q = λ k q at. ap (λ (ps : List Process). slice_get ps k) (sym same) ∙ at in
      record { some = pids.some; distinct = subst AreDistinct (sym (ap pids_of same ∙ same_pids)) pids.distinct; numbers = λ k q at. number k q (before k q at); ids = λ k q at. ids_later k q (before k q at) }
  pids_by are (forks new fork) = record {
    some = pids.some;
    distinct = subst AreDistinct (sym (ap pids_of are ∙ map-append (λ (q : Process). q.pid) moved (child new ∷ []) ∙ ap (λ (ns : List ℕ). ns ++ new ∷ []) same_pids)) (distinct_push (pids_of w.processes) new (next_is_new slots w pids new fork.is_next) pids.distinct);
    numbers = λ k q at. elim (item_pushed moved (child new) true k q (ap (λ (ps : List Process). slice_get ps k) (sym are) ∙ at)) [
      | inl before ↦ number k q before
      | inr last ↦ ap (λ (x : Process). x.pid) (sym last.2) ∙ fork.is_next ∙ ap (λ n. 1 + n) (sym (last.1 ∙ length-map w.processes (process_moved e.pid e.tid o)))
    ];
    ids = λ k q at. elim (item_pushed moved (child new) true k q (ap (λ (ps : List Process). slice_get ps k) (sym are) ∙ at)) [
      | inl before ↦ ids_later k q before
      | inr last ↦ subst (λ (x : Process). HaveIds slots x.threads) last.2 (ids_born slots e.tid new p ids_before)
    ];
  }

-- after every run
pub have_pids : (script : Script) (config : Config) → AfterEveryRun script config (λ r. HavePids config.slots r.world)
have_pids script config =
    every_run script config (λ r. HavePids config.slots r.world) (λ before r is e p t taken pids.
    let o : Transition = transition_by script config r.world p t e.alt in
    let after : World = after_transition e.pid e.tid o r.world in
    let made_is : made_process e.pid r.world ≡ Some p = process_is_made e.pid e.tid r.world p pids.distinct taken.is_process in
    let step : IsStep e p t o r.world after = is_step script config r.world e p t pids.distinct (ids_of_made config.slots r.world pids e.pid p made_is).distinct taken in
    pids_by config.slots e p t o r.world after pids made_is (creates_with_next_id script config r.world p t e.alt taken.offered) step.processes step.makes) (λ some. first_pids script config.slots some)
