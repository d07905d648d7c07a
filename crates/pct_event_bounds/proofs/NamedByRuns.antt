-- The events of every run name items of the script, and their ids are not 0.
use Rattle.pct_names.proofs.Names.{◌*◌, ◌+◌, ◌-◌, ◌<◌, All, All-append, All-from_recursion, All-map, All-nil, ap, arith, Bool, cond, Config, Entry, environment_of}
use Rattle.pct_names.proofs.Names.{event_names, event_of, false, family_among, family_of, filter, find, free_ids, HasProcessNumbers, IsPermutation-reverse, length, List, list_any, made_process, map, MAX_PROCESSES, mod_below, nat_eq, nat_lt}
use Rattle.pct_names.proofs.Names.{None, none-some, position_or_len, Process, refl, reverse, Run, run, same_Some, Script, Some, suc, sym, Thread}
use Rattle.pct_names.proofs.Names.{is_on, relative_of, slot_of, Transition, transition_by, true, true_from_ne_false, World, ℕ, ◌∙◌, ◌≡◌}
use Rattle.std.proofs.Common.{eqb-true, eq-eqb}
use Rattle.std.proofs.lemmas.Map.Views.{All-map-IsPermutation}
use Rattle.pct_model.specs.OtherProcesses.{is_unreaped}
use Rattle.pct_laws.specs.ThreadSummary.{summary_of}
use Rattle.pct_transition_cases.proofs.PlacedStatements.{is_placed}
use Rattle.pct_thread_invariants.proofs.ThreadsOfRun.{keys_kept, threads_kept}
use Rattle.pct_thread_invariants.proofs.exits.RegisteredFunctions.{registered_of_run}
use Rattle.pct_thread_invariants.proofs.lift.EveryProcess.{moves_of_run, process_taken}
use Rattle.pct_thread_invariants.proofs.lift.KeyedLists.{found_at, found_passes, index_among, not_found}
use Rattle.pct_thread_invariants.proofs.lift.MadeThreads.{HasValidId}
use Rattle.pct_thread_invariants.proofs.lift.MovedThreads.{case_of_step}
use Rattle.pct_thread_invariants.proofs.lift.ProcessIds.{have_pids}
use Rattle.pct_thread_invariants.proofs.lift.TakenSteps.{every_run, IsTaken, with_step}
use Rattle.pct_thread_invariants.proofs.lift.ThreadIds.{HaveIds, ids_of, is_next_id}
use Rattle.pct_thread_invariants.proofs.lift.ThreadsAfter.{Moves, mover}
use Rattle.pct_once_laws.proofs.OncesOfRun.{onces_kept, routines_kept}
use Rattle.pct_event_bounds.specs.EventBounds.{EventNamesItems, NamesItems, RunsNameItems}
use Rattle.pct_event_bounds.proofs.NamedItems.{case_named}

module _ (slots : ℕ) where
  -- the id of a thread of a process
  thread_id : (threads : List Thread) (id : ℕ) (t : Thread) → 0 < slots → HaveIds slots threads → find (λ u. nat_eq u.id id) threads ≡ Some t → 0 < id
  thread_id threads id t some have found =
      let among : list_any (λ n. nat_eq n id) (ids_of threads) ≡ true =
      true_from_ne_false (list_any (λ n. nat_eq n id) (ids_of threads)) (λ absent. none-some t (sym (not_found (λ (u : Thread). u.id) id threads absent) ∙ found)) in
      let at = index_among (λ (u : Thread). u.id) (is_on slots (slot_of slots id)) id (λ u named. eq-eqb (slot_of slots u.id) (slot_of slots id) (ap (slot_of slots) (eqb-true u.id id named))) threads among in
      let number : at.1.id ≡ 1 + slot_of slots id + slots * at.0 = have.numbers (slot_of slots id) at.0 at.1 (mod_below (id - 1) slots some) at.2 in
      omega (arith, number, at.3)

  -- that of a new thread
  new_id : (threads : List Thread) (id : ℕ) → list_any (nat_eq id) (free_ids slots threads) ≡ true → 0 < id
  new_id threads id among = let next = is_next_id slots threads id among in omega (arith, next.2)

-- the id of a process
process_id : (w : World) (pid : ℕ) (p : Process) → HasProcessNumbers w → made_process pid w ≡ Some p → 0 < pid
process_id w pid p numbers made =
    let test : Process → Bool = λ q. nat_eq q.pid pid in
    let number : p.pid ≡ 1 + position_or_len test w.processes = numbers (position_or_len test w.processes) p (found_at test w.processes p made) in
    let same : p.pid ≡ pid = eqb-true p.pid pid (found_passes test w.processes p made) in
    omega (arith, number, same)

-- that of a new process
new_pid : (w : World) (parent pid : ℕ) → (family_of w parent).new_pid ≡ Some pid → 0 < pid
unfolding family_among
new_pid w parent pid is = by_room (nat_lt (length (map relative_of (filter is_unreaped w.processes))) MAX_PROCESSES) is
  where
    by_room : (room : Bool) → cond room (Some (suc (length w.processes))) None ≡ Some pid → 0 < pid
    by_room true is = let same : suc (length w.processes) ≡ pid = same_Some _ pid is in omega (arith, same)
    by_room false is = absurd (none-some pid is)

module _ (script : Script) (config : Config) where
  -- ---- a step

  module _ (before : List Entry) (r : Run) (is : run script config before ≡ Some r) (e : Entry) (p : Process) (t : Thread) (taken : IsTaken script config r.world e p t) where
    abbrev o : Transition
    o = transition_by script config r.world p t e.alt

    moves : Moves script config r.world p e t
    moves = moves_of_run script config before r is e p t taken

    made : made_process e.pid r.world ≡ Some p
    made = process_taken script config before r is e p t taken

    it : HasValidId p e.tid t
    it = mover script config r.world p e t moves

    -- the events of the step
    step_named : All (λ w. NamesItems (event_names script) w) o.events
    unfolding environment_of
    step_named = All-from_recursion (λ w. NamesItems (event_names script) w) o.events
        (case_named script config.passes p.shared t (environment_of config r.world p t.id) (summary_of e.pid e.tid r.events)
        (threads_kept script config before r is e.pid e.tid p t made it.found it.here) (keys_kept script config before r is e.pid p made)
        (registered_of_run script config before r is e.pid p made) (onces_kept script config before r is e.pid p made).controls
        (routines_kept script config before r is e.pid p made e.tid t it.found it.here) (new_id config.slots p.threads) (new_pid r.world p.pid)
        refl refl (is_placed script t.frames) (case_of_step script config r.world p e t moves))

    -- and those before it
    events_named : All (EventNamesItems (event_names script)) r.events → All (EventNamesItems (event_names script)) (with_step e o r).events
    events_named earlier =
        let pid : 0 < e.pid = process_id r.world e.pid p (have_pids script config before r is).numbers made in
        let tid : 0 < e.tid = thread_id config.slots p.threads e.tid t moves.some moves.ids it.found in
        let named : All (λ w. EventNamesItems (event_names script) (event_of e w)) o.events = λ k d low. record { pid = pid; tid = tid; what = step_named k d low } in
        All-append (EventNamesItems (event_names script)) (map (event_of e) (reverse o.events)) r.events
        (All-map-IsPermutation (event_of e) (EventNamesItems (event_names script)) o.events (reverse o.events) (IsPermutation-reverse o.events)
        (All-map (EventNamesItems (event_names script)) (event_of e) o.events named)) earlier

-- the events of every run
pub runs_name_items : RunsNameItems
runs_name_items script config =
    every_run script config (λ r. All (EventNamesItems (event_names script)) r.events) (events_named script config) (λ some. All-nil (EventNamesItems (event_names script)))
