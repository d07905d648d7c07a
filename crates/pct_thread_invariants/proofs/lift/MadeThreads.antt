-- The processes and threads that were made, after a step.
use Rattle.pct_names.proofs.Names.{◌&&◌, ◌++◌, [], after_transition, and_left, and_parts, ap, Bool, changed, child_by, child_of, cond}
use Rattle.pct_names.proofs.Names.{Config, Entry, eqb-false, false, find, find-append, flat_map, forks_by, has_ended, has_valid_id}
use Rattle.pct_names.proofs.Names.{holds_slot, is_ended_status, is_live_process, List, made_process, map, nat_eq, None, not, not-true}
use Rattle.pct_names.proofs.Names.{Option, option_map, option_or, other_process_after, Process, process_made, process_moved, Script, Some}
use Rattle.pct_names.proofs.Names.{sym, Thread, thread_created, thread_moved, thread_with, Transition, transition_by, true, with_id, World}
use Rattle.pct_names.proofs.Names.{◌||◌, ℕ, ◌∙◌, ◌∷◌, ◌≡◌}
use Rattle.std.proofs.Common.{ne_eqb, eqb-true}
use Rattle.pct_thread_invariants.proofs.lift.KeyedLists.{AreDistinct, found_passes, only_one, only_one_gives, item_changed}
use Rattle.pct_thread_invariants.proofs.lift.ThreadIds.{ids_of}
use Rattle.pct_thread_invariants.proofs.lift.TakenSteps.{IsTaken}
use Rattle.pct_thread_invariants.proofs.lift.ChangedThreads.{pids_of, thread_moved_keeps, changed_threads, process_moved_pid}
use Rattle.pct_thread_invariants.proofs.lift.CreatedThreads.{Makes, makes_none, forks, its_process}
use Rattle.pct_thread_invariants.proofs.lift.ChildProcesses.{same_child}

-- ---- the process that a step makes

-- the process with an id that a transition makes, if it makes one: a thread with another id, of a process, is inherited
abbrev pub child_made : ℕ → Process → Option ℕ → List Process
child_made tid p None = []
child_made tid p (Some new) = child_of tid new p ∷ []

child_is : (tid : ℕ) (p : Process) (w : World) (t : Thread) (o : Transition) → AreDistinct (ids_of p.threads) → with_id tid p.threads ≡ Some t → {made : Option ℕ} → Makes w t.status o made → child_by tid (changed tid o p) o.process ≡ child_made tid p made
unfolding forks_by child_by
child_is tid p w t o distinct is (makes_none nothing quiet) = nothing tid (changed tid o p)
child_is tid p w t o distinct is (forks new fork) = ap (λ (x : Transition). child_by tid (changed tid o p) x.process) fork.is ∙ ap (λ (child : Process). child ∷ []) (same_child w t new o fork tid p distinct is)

-- a step of an entry, by a transition of thread t of process p, leads to a state
pub record IsStep (e : Entry) (p : Process) (t : Thread) (o : Transition) (w after : World) : Type 0 where
  pub made : Option ℕ
  pub makes : Makes w t.status o made
  pub processes : after.processes ≡ map (process_moved e.pid e.tid o) w.processes ++ child_made e.tid p made

-- no two processes have one pid, so that only the process of the thread makes one, and no two threads of it have one id
pub is_step : (script : Script) (config : Config) (w : World) (e : Entry) (p : Process) (t : Thread) → AreDistinct (pids_of w.processes) → AreDistinct (ids_of p.threads) → IsTaken script config w e p t
    → IsStep e p t (transition_by script config w p t e.alt) w (after_transition e.pid e.tid (transition_by script config w p t e.alt) w)
unfolding after_transition
is_step script config w e p t distinct distinct_ids taken =
    let o : Transition = transition_by script config w p t e.alt in
    let its = its_process script config w p t e.alt taken.offered in
    let children : flat_map (process_made e.pid e.tid o) w.processes ≡ child_by e.tid (changed e.tid o p) o.process =
    only_one_gives (λ (q : Process). q.pid) (process_made e.pid e.tid o) (λ q. not (has_ended q)) e.pid (λ q other. ap (λ b. cond b (child_by e.tid (changed e.tid o q) o.process) []) other) w.processes p distinct taken.is_process
    ∙ ap (λ b. cond b (child_by e.tid (changed e.tid o p) o.process) []) (found_passes (is_live_process e.pid) w.processes p taken.is_process) in
    record { made = its.0; makes = its.1; processes = ap (λ (made : List Process). map (process_moved e.pid e.tid o) w.processes ++ made) (children ∙ child_is e.tid p w t o distinct_ids taken.is_thread its.1) }

-- a process that was made
pub process_after_step : (e : Entry) (p : Process) (t : Thread) (o : Transition) (w after : World) (step : IsStep e p t o w after) (pid : ℕ)
    → made_process pid after ≡ option_or (option_map (process_moved e.pid e.tid o) (made_process pid w)) (find (λ q. nat_eq q.pid pid) (child_made e.tid p step.made))
process_after_step e p t o w after step pid =
    let move : Process → Process = process_moved e.pid e.tid o in
    let made : List Process = child_made e.tid p step.made in
    ap (λ (ps : List Process). find (λ (q : Process). nat_eq q.pid pid) ps) step.processes ∙ find-append (λ (q : Process). nat_eq q.pid pid) (map move w.processes) made
    ∙ ap (λ (q : Option Process). option_or q (find (λ (x : Process). nat_eq x.pid pid) made)) (item_changed (λ (q : Process). q.pid) move (process_moved_pid e.pid e.tid o) pid w.processes)

module _ (pid tid : ℕ) (o : Transition) where
  -- a process with another id
  pub other_process_is : (q : Process) (other : ℕ) → nat_eq q.pid other ≡ true → nat_eq pid other ≡ false → process_moved pid tid o q ≡ other_process_after pid o.process q
  other_process_is q other named differs =
      let apart : nat_eq q.pid pid ≡ false = ne_eqb q.pid pid (λ same. eqb-false pid other differs (sym same ∙ eqb-true q.pid other named)) in
      ap (λ b. cond b (changed tid o q) (other_process_after pid o.process q)) (and_left (nat_eq q.pid pid) (not (has_ended q)) apart)

  -- a thread with an id, of the process of the thread that moves
  pub own_thread_with : (p : Process) (id : ℕ) → thread_with id (changed tid o p) ≡ option_or (option_map (thread_moved tid o) (thread_with id p)) (find (λ t. nat_eq t.id id) (thread_created o.created))
  own_thread_with p id =
      ap (λ (threads : List Thread). find (λ t. nat_eq t.id id) threads) (changed_threads tid o p)
      ∙ find-append (λ (t : Thread). nat_eq t.id id) (map (thread_moved tid o) p.threads) (thread_created o.created)
      ∙ ap (λ (found : Option Thread). option_or found (find (λ t. nat_eq t.id id) (thread_created o.created)))
      (item_changed (λ (t : Thread). t.id) (thread_moved tid o) (λ t. ap (λ (i : ℕ × Bool). i.0) (thread_moved_keeps tid o t)) id p.threads)

-- a thread that is found by its id among those that hold a slot
pub record HasValidId (p : Process) (id : ℕ) (t : Thread) : Type 0 where
  pub valid : has_valid_id id t ≡ true
  pub found : thread_with id p ≡ Some t
  pub number : t.id ≡ id
  pub holds : holds_slot t ≡ true
  pub here : t.gone ≡ false

-- the thread that is looked up, where no two threads of its process have one id
pub with_valid_id : (id : ℕ) (p : Process) (t : Thread) → AreDistinct (ids_of p.threads) → with_id id p.threads ≡ Some t → HasValidId p id t
with_valid_id id p t distinct is =
    let valid : has_valid_id id t ≡ true = found_passes (has_valid_id id) p.threads t is in
    let parts = and_parts (nat_eq t.id id) (holds_slot t) valid in
    record {
      valid = valid;
      found = only_one (λ (u : Thread). u.id) holds_slot id p.threads t distinct is;
      number = eqb-true t.id id parts.0;
      holds = parts.1;
      here = not-true t.gone (and_parts (not t.gone) (not (is_ended_status t.status && (t.joined || t.detached))) parts.1).0;
    }

-- its process, where no two processes have one pid
module _ (pid tid : ℕ) (w : World) (p : Process) (distinct : AreDistinct (pids_of w.processes)) (is_process : find (is_live_process pid) w.processes ≡ Some p) where
  pub process_is_made : made_process pid w ≡ Some p
  process_is_made = only_one (λ (q : Process). q.pid) (λ q. not (has_ended q)) pid w.processes p distinct is_process

  -- the process after the transition
  pub own_process_is : (o : Transition) → process_moved pid tid o p ≡ changed tid o p
  own_process_is o = ap (λ b. cond b (changed tid o p) (other_process_after pid o.process p)) (found_passes (is_live_process pid) w.processes p is_process)
