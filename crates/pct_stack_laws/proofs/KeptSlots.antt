-- A step keeps the slots of the threads of each process: a thread gives its slot back only if it has ended and was joined or is detached.
use Rattle.pct_names.proofs.Names.{◌&&◌, ◌++◌, [], after_transition, All, All-cons, All-nil, and_parts, ap, Bool, changed, cond, Config}
use Rattle.pct_names.proofs.Names.{drop, drop-append_seam, drop-length, Entry, false, false≢true, has_ended, has_valid_id, holds_slot}
use Rattle.pct_names.proofs.Names.{is_ended_status, is_live_process, IsSomeAnd, length, length-map, List, made_process, map, moved, nat_eq}
use Rattle.pct_names.proofs.Names.{NewThread, None, not, not-false, not-true, Option, other_process_after, Process, process_moved, refl}
use Rattle.pct_names.proofs.Names.{reverse, Run, run, same_Some, Script, slice_get, Some, subst, sym, Thread, thread_created, thread_moved}
use Rattle.pct_names.proofs.Names.{thread_with, Transition, transition_by, true, was_reclaimed, ◌||◌, ℕ, ◌∙◌, ◌≡◌}
use Rattle.std.proofs.Common.{eqb-true}
use Rattle.pct_laws.specs.ThreadSummary.{ThreadSummary}
use Rattle.pct_thread_invariants.proofs.ThreadsOfRun.{processes_fit, thread_rule, threads_fit}
use Rattle.pct_thread_invariants.proofs.lift.ChangedThreads.{changed_threads, other_threads, process_moved_pid, thread_moved_keeps}
use Rattle.pct_thread_invariants.proofs.lift.EveryProcess.{moves_of_run, process_taken}
use Rattle.pct_thread_invariants.proofs.lift.EveryThread.{of_its_threads}
use Rattle.pct_thread_invariants.proofs.lift.MadeThreads.{child_made, IsStep, is_step}
use Rattle.pct_thread_invariants.proofs.lift.ProcessIds.{HavePids, have_pids}
use Rattle.pct_thread_invariants.proofs.lift.ReportedBy.{after_all}
use Rattle.pct_thread_invariants.proofs.lift.TakenSteps.{IsTaken}
use Rattle.pct_thread_invariants.proofs.lift.ThreadsAfter.{created_thread, is_mover, Moves, same_gone}
use Rattle.pct_thread_invariants.proofs.thread.EndingSteps.{ended_by_status}
use Rattle.pct_thread_invariants.proofs.thread.ThreadRule.{FitsAny, summary}
use Rattle.pct_stack_laws.specs.StackLaw.{KeepsSlot, KeepsSlotsOf}
use Rattle.pct_stack_laws.proofs.IndexedItems.{found_at_index, item_changed}
use Rattle.pct_stack_laws.proofs.SlotHolders.{moved_holds_none}

-- ---- lists of threads

-- each thread of a list keeps its slot in another list, and the further ones there have a slot
abbrev AreKept : List Thread → List Thread → Type 0
AreKept threads after = ((j : ℕ) (u : Thread) → slice_get threads j ≡ Some u → IsSomeAnd (slice_get after j) (KeepsSlot u)) × All (λ u. holds_slot u ≡ true) (drop (length threads) after)

-- the same list
same_kept : (threads : List Thread) → AreKept threads threads
same_kept threads = (
  λ j u at. subst (λ (x : Option Thread). IsSomeAnd x (KeepsSlot u)) (sym at) (record { id = refl; there = refl; given_back = λ holds none. absurd (false≢true (sym none ∙ holds)); for_good = λ none. none }),
  subst (All (λ u. holds_slot u ≡ true)) (sym (drop-length threads)) (All-nil (λ u. holds_slot u ≡ true)),
)

-- a new thread has a slot
new_hold : (created : Option NewThread) → All (λ u. holds_slot u ≡ true) (thread_created created)
new_hold None = All-nil (λ u. holds_slot u ≡ true)
new_hold (Some new) = All-cons (λ u. holds_slot u ≡ true) (created_thread new) [] refl (All-nil (λ u. holds_slot u ≡ true))

-- ---- a step of a run

module _ (script : Script) (config : Config) (before : List Entry) (r : Run) (is : run script config before ≡ Some r) (e : Entry) (p : Process) (t : Thread) (taken : IsTaken script config r.world e p t) where
  abbrev o : Transition
  o = transition_by script config r.world p t e.alt

  pids : HavePids config.slots r.world
  pids = have_pids script config before r is

  moves : Moves script config r.world p e t
  moves = moves_of_run script config before r is e p t taken

  process_is : made_process e.pid r.world ≡ Some p
  process_is = process_taken script config before r is e p t taken

  -- ---- a thread of its process

  module _ (u : Thread) (found : thread_with u.id p ≡ Some u) where
    abbrev after : Thread
    after = thread_moved e.tid o u

    -- the thread fits what is reported of it
    abbrev Fits : Thread → Type 0
    Fits x = (s : ThreadSummary) × FitsAny script config.passes x s

    fits : u.gone ≡ false → Fits u
    fits here = of_its_threads summary (FitsAny script config.passes) r (threads_fit script config before r is) e.pid p process_is u.id u found here

    fits_by : (live : Bool) → has_valid_id e.tid u ≡ live → u.gone ≡ false → Fits (cond live (moved o u) u)
    fits_by true live here =
        let it : u ≡ t = (is_mover script config r.world p e t moves u.id u found live).0 in
        let rule : Fits t = subst Fits it (fits here) in
        subst (λ (x : Thread). Fits (moved o x)) (sym it) (after_all summary (reverse o.events) rule.0, (thread_rule script config).kept r.world p t rule.0 e.alt (processes_fit script config before r is e.pid p process_is) taken.offered rule.1)
    fits_by false other here = fits here

    -- with the status of its end, it has ended
    has_ended_after : u.gone ≡ false → is_ended_status after.status ≡ true → after.ended ≡ true
    has_ended_after here is_end =
        let rule : Fits (cond (has_valid_id e.tid u) (moved o u) u) = fits_by (has_valid_id e.tid u) refl here in
        let fits_after : FitsAny script config.passes after rule.0 = (thread_rule script config).named o.named (cond (has_valid_id e.tid u) (moved o u) u) rule.0 rule.1 in
        sym fits_after.agrees.end ∙ ended_by_status script after.status after.reason after.frames after.handlers rule.0 is_end fits_after.by_status

    keeps_slot : KeepsSlot u after
    keeps_slot = record {
      id = ap (λ (i : ℕ × Bool). i.0) (thread_moved_keeps e.tid o u);
      there = same_gone e.tid o u;
      given_back = λ holds none.
          let here : u.gone ≡ false = not-true u.gone (and_parts (not u.gone) (not (was_reclaimed u)) holds).0 in
          let reclaimed : was_reclaimed after ≡ true = not-false (was_reclaimed after) (sym (ap (λ (gone : Bool). not gone && not (was_reclaimed after)) (same_gone e.tid o u ∙ here)) ∙ none) in
          let parts = and_parts (is_ended_status after.status) (after.joined || after.detached) reclaimed in
          (has_ended_after here parts.0, parts.1);
      for_good = moved_holds_none e.tid o u;
    }

  -- ---- processes

  -- its process
  own_kept : AreKept p.threads (changed e.tid o p).threads
  own_kept = subst (AreKept p.threads) (sym (changed_threads e.tid o p)) (
    λ j u at. subst (λ (x : Option Thread). IsSomeAnd x (KeepsSlot u)) (sym (item_changed (thread_moved e.tid o) p.threads (thread_created o.created) j u at)) (keeps_slot u (found_at_index (λ (x : Thread). x.id) p.threads j u moves.ids.distinct at)),
    subst (All (λ u. holds_slot u ≡ true)) (sym (ap (λ n. drop n (map (thread_moved e.tid o) p.threads ++ thread_created o.created)) (sym (length-map p.threads (thread_moved e.tid o))) ∙ drop-append_seam (map (thread_moved e.tid o) p.threads) (thread_created o.created))) (new_hold o.created),
  )

  -- a process, which is that one or another
  kept_by : (i : ℕ) (q : Process) → slice_get r.world.processes i ≡ Some q → (live : Bool) → is_live_process e.pid q ≡ live → AreKept q.threads (cond live (changed e.tid o q) (other_process_after e.pid o.process q)).threads
  kept_by i q at true live =
      let pid : q.pid ≡ e.pid = eqb-true q.pid e.pid (and_parts (nat_eq q.pid e.pid) (not (has_ended q)) live).0 in
      let same : p ≡ q = same_Some p q (sym process_is ∙ ap (λ n. made_process n r.world) (sym pid) ∙ found_at_index (λ (x : Process). x.pid) r.world.processes i q pids.distinct at) in
      subst (λ (x : Process). AreKept x.threads (changed e.tid o x).threads) same own_kept
  kept_by i q at false other = subst (AreKept q.threads) (sym (other_threads e.pid o q)) (same_kept q.threads)

  -- each process
  pub step_keeps_slots : (i : ℕ) (q : Process) → slice_get r.world.processes i ≡ Some q → IsSomeAnd (slice_get (after_transition e.pid e.tid o r.world).processes i) (KeepsSlotsOf q)
  step_keeps_slots i q at =
      let step : IsStep e p t o r.world (after_transition e.pid e.tid o r.world) = is_step script config r.world e p t pids.distinct moves.ids.distinct taken in
      let kept : AreKept q.threads (process_moved e.pid e.tid o q).threads = kept_by i q at (is_live_process e.pid q) refl in
      subst (λ (x : Option Process). IsSomeAnd x (KeepsSlotsOf q)) (sym (ap (λ (ps : List Process). slice_get ps i) step.processes ∙ item_changed (process_moved e.pid e.tid o) r.world.processes (child_made e.tid p step.made) i q at))
      (record { pid = process_moved_pid e.pid e.tid o q; kept = kept.0; taken = kept.1 })
