-- A fork makes a process that was not made before, and that has no event yet; and the thread of each event is known before it.
use Rattle.pct_names.proofs.Names.{◌&&◌, ◌+◌, ◌++◌, ◌<◌, [], ap, arith, Config, Entry, Event, event_of, false, false_from_ne_true}
use Rattle.pct_names.proofs.Names.{false≢true, ForksMade, is_live_process, is_some, length, List, list_any, list_any_none, made_process}
use Rattle.pct_names.proofs.Names.{map, nat_eq, None, not, NumbersThreads, Option, option_and_then, option_map_or, or_from, or_right}
use Rattle.pct_names.proofs.Names.{position_or_len, Process, refl, Run, run, Script, slice_get_within, slice_index_or, Some, subst, sym}
use Rattle.pct_names.proofs.Names.{Thread, thread_with, true, What, World, ◌||◌, ℕ, ◌∙◌, ◌∷◌, ◌≡◌}
use Rattle.std.proofs.Common.{eqb-true, ne_eqb}
use Rattle.std.specs.Option.{IsSomeAnd}
use Rattle.pct_model.specs.declared.event.What.TheVariants as what
use Rattle.pct_laws.specs.KnownThreads.{is_in, is_fork_of, creates_id, is_known, makes_process}
use Rattle.pct_laws.specs.ProcessLaw.{was_made}
use Rattle.pct_join_laws.proofs.joins.ReportedFlags.{known_of_run}
use Rattle.pct_thread_invariants.proofs.lift.EveryProcess.{process_taken, ids_of_run}
use Rattle.pct_thread_invariants.proofs.lift.KeyedLists.{found_at, not_found}
use Rattle.pct_thread_invariants.proofs.lift.MadeNumbers.{numbers_of_run}
use Rattle.pct_thread_invariants.proofs.lift.MadeThreads.{HasValidId, with_valid_id}
use Rattle.pct_thread_invariants.proofs.lift.ProcessIds.{have_pids, next_is_new}
use Rattle.pct_thread_invariants.proofs.lift.TakenSteps.{IsTaken}

-- ---- events of a process that was not made

-- a fork that made another process does not make it
not_made_by : (w : World) (new : ℕ) → made_process new w ≡ None → (x : What) → ForksMade w x → makes_process new x ≡ false
not_made_by w new none (what.Forked child) made =
    false_from_ne_true (nat_eq child new) (λ same. false≢true (sym (ap (λ (p : Option Process). is_some p) (ap (λ n. made_process n w) (eqb-true child new same) ∙ none)) ∙ made))
not_made_by w new none _ made = refl

module _ (w : World) (events : List Event) (new : ℕ) (none : made_process new w ≡ None) where
  -- no event is one of it
  no_event : (slots : ℕ) → NumbersThreads slots w events → list_any (is_in new) events ≡ false
  no_event slots numbers = list_any_none (is_in new) events (λ k d low.
      let x : Event = slice_index_or events k d in
      false_from_ne_true (nat_eq x.pid new) (λ same.
      absurd (subst (λ (p : Option Process). IsSomeAnd (option_and_then (thread_with x.tid) p) (λ t. t.gone ≡ false)) (ap (λ n. made_process n w) (eqb-true x.pid new same) ∙ none) (numbers.of_threads k d low))))

  -- and no fork makes it
  no_fork : (slots : ℕ) → NumbersThreads slots w events → list_any (λ e. makes_process new e.what) events ≡ false
  no_fork slots numbers = list_any_none (λ e. makes_process new e.what) events (λ k d low. not_made_by w new none (slice_index_or events k d).what (numbers.forks k d low))

-- ---- the process that a fork makes

module _ (script : Script) (config : Config) (before : List Entry) (r : Run) (is : run script config before ≡ Some r) (e : Entry) (p : Process) (t : Thread) (taken : IsTaken script config r.world e p t) where
  -- there is a process
  some_process : 0 < length r.world.processes
  some_process =
      let at : ℕ = position_or_len (is_live_process e.pid) r.world.processes in
      let within : at < length r.world.processes = slice_get_within r.world.processes at p (found_at (is_live_process e.pid) r.world.processes p taken.is_process) in
      omega (arith, within)

  -- the next process was not made, and has no event
  pub next_unmade : (new : ℕ) → new ≡ 1 + length r.world.processes → (was_made new r.events ≡ false) × (list_any (is_in new) r.events ≡ false)
  next_unmade new next =
      let numbers : NumbersThreads config.slots r.world r.events = numbers_of_run script config before r is in
      let none : made_process new r.world ≡ None = not_found (λ (x : Process). x.pid) new r.world.processes (next_is_new config.slots r.world (have_pids script config before r is) new next) in
      let some : 0 < length r.world.processes = some_process in (
        or_from (nat_eq 1 new) (list_any (λ x. makes_process new x.what) r.events) (ne_eqb 1 new (λ same. absurd (omega (arith, some, next, same)))) (no_fork r.world r.events new none config.slots numbers),
        no_event r.world r.events new none config.slots numbers,
      )

  -- ---- the thread of an entry

  -- it is one that was made, and is not gone
  pub it_is : HasValidId p e.tid t
  it_is = with_valid_id e.tid p t (ids_of_run script config before r is e.pid p (process_taken script config before r is e p t taken)).distinct taken.is_thread

  -- it is known before the step, and after some events of the step
  pub known_by : (added : List What) → is_known e.pid e.tid (map (event_of e) added ++ r.events) ≡ true
  known_by [] =
      known_of_run script config before r is e.pid e.tid ∙ ap (λ (found : Option Thread). option_map_or (λ x. not x.gone) found false) (ap (option_and_then (thread_with e.tid)) (process_taken script config before r is e p t taken) ∙ it_is.found)
      ∙ ap not it_is.here
  known_by (w ∷ added) =
      or_right (is_in e.pid (event_of e w) && creates_id e.tid w) (is_fork_of e.pid e.tid (event_of e w) || is_known e.pid e.tid (map (event_of e) added ++ r.events))
      (or_right (is_fork_of e.pid e.tid (event_of e w)) (is_known e.pid e.tid (map (event_of e) added ++ r.events)) (known_by added))
