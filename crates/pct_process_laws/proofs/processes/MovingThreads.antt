-- What is known of the thread of an entry: one that joins another, one that exits its process, and one that ends as the last thread of its
-- process, in which exit has not begun then.
use Rattle.pct_names.proofs.Names.{[], All, All-head, All-tail, and_from, and_left, ap, Bool, cond, Config, Entry, environment_of, Event}
use Rattle.pct_names.proofs.Names.{false, false_from_ne_true, false≢true, Frame, has_valid_id, holds_slot, inl, inr, is_ended_status}
use Rattle.pct_names.proofs.Names.{is_some, IsOfThread, List, made_process, made_thread, nat_eq, next_of, None, not, Option}
use Rattle.pct_names.proofs.Names.{option_and_then, option_map_or, or_left, Process, refl, Run, run, same_Some, Script, Some, Status, subst}
use Rattle.pct_names.proofs.Names.{sym, Thread, thread_with, true, What, with_id, World, ℕ, ◌∙◌, ◌∷◌, ◌≡◌, ◌⊎◌}
use Rattle.std.proofs.Common.{eq-eqb, eqb-true, ne_eqb}
use Rattle.std.specs.Option.{IsSomeAnd}
use Rattle.std.proofs.lemmas.Bool.{true≢false}
use Rattle.pct_model.specs.declared.event.What.TheVariants as what
use Rattle.pct_model.specs.declared.state.Status.TheVariants as status
use Rattle.pct_laws.specs.ProcessEnds.{exit_after, exit_value}
use Rattle.pct_laws.specs.Kept.{is_exiting, ThreadKept, is_exit_kind, IsPlainFunction}
use Rattle.pct_laws.specs.KnownThreads.{is_in, is_own, is_fork_of}
use Rattle.pct_laws.specs.ThreadSummary.{ThreadSummary, with_event, summary_of}
use Rattle.pct_laws.specs.ProcessLaw.{may_change}
use Rattle.pct_transition_cases.proofs.PlacedStatements.{is_placed}
use Rattle.pct_thread_invariants.proofs.ThreadsOfRun.{threads_fit, threads_kept, last_kept}
use Rattle.pct_thread_invariants.proofs.lift.EveryProcess.{process_taken, ids_of_run, moves_of_run}
use Rattle.pct_thread_invariants.proofs.lift.KeyedLists.{found_passes}
use Rattle.pct_thread_invariants.proofs.lift.MadeNumbers.{numbers_of_run}
use Rattle.pct_thread_invariants.proofs.lift.MadeThreads.{HasValidId, with_valid_id}
use Rattle.pct_thread_invariants.proofs.lift.TakenSteps.{IsTaken}
use Rattle.pct_thread_invariants.proofs.lift.SummaryEnds.{begins_exit, exiting_after, exiting_stays}
use Rattle.pct_process_laws.proofs.processes.ProcessEnds.{exit_value_of_run}
use Rattle.pct_process_laws.proofs.processes.MadeProcesses.{it_is}
use Rattle.pct_join_laws.proofs.joins.JoiningThreads.{joins_of_processes}
use Rattle.pct_join_laws.proofs.joins.ReportedFlags.{known_of_run}
use Rattle.pct_thread_invariants.proofs.exits.PlainFunctions.{is_plain_next, plain_next}
use Rattle.pct_thread_invariants.proofs.LastThreads.{last_exits, others_if_last}
use Rattle.pct_thread_invariants.proofs.lift.EveryThread.{of_its_threads}
use Rattle.pct_thread_invariants.proofs.thread.ThreadRule.{summary, FitsAny}

-- ---- the thread that exits

-- a thread of a process that has begun to exit it
record SomeThread (pid : ℕ) (w : World) (events : List Event) : Type 0 where
  tid : ℕ
  exits : (summary_of pid tid events).exiting ≡ true
  made : IsSomeAnd (made_thread pid tid w) (λ t. t.gone ≡ false)

-- an exit value comes with an event of the process, or was reported before it
value_by : (here : Bool) (w : What) (k : Option ℕ) → is_some (cond here (exit_after w k) k) ≡ true → ((here ≡ true) × (begins_exit w ≡ true)) ⊎ (is_some k ≡ true)
value_by true (what.ExitBegun v) k is = inl (refl, refl)
value_by true _ k is = inr is
value_by false w k is = inr is

-- where the process has an exit value, there is such a thread; it was made, and its process inherited it
some_thread : (pid : ℕ) (w : World) (events : List Event) → All (IsOfThread w) events → is_some (exit_value pid events) ≡ true → SomeThread pid w events
some_thread pid w [] of is = absurd (false≢true is)
some_thread pid w (e ∷ earlier) of is = elim (value_by (is_in pid e) e.what (exit_value pid earlier) is) [
  | inl begins ↦
      let s : ThreadSummary = summary_of pid e.tid earlier in
      let other : ThreadSummary = cond (is_fork_of pid e.tid e) (record s { handlers = (summary_of e.pid e.tid earlier).handlers }) s in
      let own : is_own pid e.tid e ≡ true = and_from (is_in pid e) (nat_eq e.tid e.tid) begins.0 (eq-eqb e.tid e.tid refl) in
      record {
        tid = e.tid;
        exits = ap (λ (own : Bool). (cond own (with_event e.what s) other).exiting) own ∙ exiting_after e.what s ∙ or_left (begins_exit e.what) s.exiting begins.1;
        made = subst (λ (n : ℕ). IsSomeAnd (made_thread n e.tid w) (λ t. t.gone ≡ false)) (eqb-true e.pid pid begins.0) (All-head (IsOfThread w) e earlier of);
      }
  | inr before ↦
      let x : SomeThread pid w earlier = some_thread pid w earlier (All-tail (IsOfThread w) e earlier of) before in
      record { tid = x.tid; exits = exiting_stays pid x.tid e earlier x.exits; made = x.made }
]

-- a thread that is found
found_thread : (found : Option Thread) → IsSomeAnd found (λ t. t.gone ≡ false) → (u : Thread) × (found ≡ Some u) × (u.gone ≡ false)
found_thread None none = absurd none
found_thread (Some u) here = (u, refl, here)

-- a thread that exits its process and runs is at a statement of a plain function
plain_if_exits : (script : Script) (frames : List Frame) → is_exiting status.Running frames ≡ true → All (λ (frame : Frame). is_exit_kind frame.kind ≡ true → IsPlainFunction script frame.func) frames → is_plain_next (next_of script frames) ≡ true
plain_if_exits script [] exits plain = absurd (false≢true exits)
plain_if_exits script (frame ∷ []) exits plain = plain_next script frame [] (All-head (λ (frame : Frame). is_exit_kind frame.kind ≡ true → IsPlainFunction script frame.func) frame [] plain exits) (is_placed script (frame ∷ []))
plain_if_exits script (frame ∷ next ∷ below) exits plain = absurd (false≢true exits)

module _ (script : Script) (config : Config) (before : List Entry) (r : Run) (is : run script config before ≡ Some r) (e : Entry) (p : Process) (t : Thread) (taken : IsTaken script config r.world e p t) where
  -- the process of the entry was made
  process_is : made_process e.pid r.world ≡ Some p
  process_is = process_taken script config before r is e p t taken

  -- the thread of the entry
  it : HasValidId p e.tid t
  it = it_is script config before r is e p t taken

  -- what is kept of each thread of the process
  kept : (tid : ℕ) (u : Thread) → thread_with tid p ≡ Some u → u.gone ≡ false → ThreadKept script p.shared.keys u (summary_of e.pid tid r.events)
  kept tid u found here = threads_kept script config before r is e.pid tid p u process_is found here

  -- a thread with the status neither of its end nor of an exit has not ended
  alive : {s : Status} → t.status ≡ s → is_ended_status s ≡ false → is_exiting s t.frames ≡ false → t.ended ≡ false
  alive status_is no_end no_exit =
      let of_it : ThreadKept script p.shared.keys t (summary_of e.pid e.tid r.events) = kept e.tid t it.found it.here in
      false_from_ne_true t.ended (λ ended. false≢true (sym no_end ∙ ap is_ended_status (sym status_is) ∙ of_it.ended_status ended (of_it.exiting ∙ ap (λ (s : Status). is_exiting s t.frames) status_is ∙ no_exit)))

  -- ---- joins

  -- a thread that joins one of its process
  pub joins_known : (id : ℕ) (u : Thread) → t.status ≡ status.Joining id → with_id id p.threads ≡ Some u → (v : ℕ) → may_change (what.Joined id v) e.pid e.tid r.events ≡ true
  joins_known id u joins is_u v =
      let target : HasValidId p id u = with_valid_id id p u (ids_of_run script config before r is e.pid p process_is).distinct is_u in
      and_from _ _ (and_from _ _ (known_of_run script config before r is e.pid id ∙ ap (λ (found : Option Thread). option_map_or (λ x. not x.gone) found false) (ap (option_and_then (thread_with id)) process_is ∙ target.found) ∙ ap not target.here)
      (ap not (ne_eqb id e.tid ((joins_of_processes script config before r is e.pid p process_is).joins e.tid t it.found it.here id joins).other)))
      (ap not ((kept e.tid t it.found it.here).ended ∙ alive joins refl refl))

  -- ---- exits

  -- a thread that began to exit its process and runs is at a statement of a plain function
  pub exits_plain : t.status ≡ status.Running → (summary_of e.pid e.tid r.events).exiting ≡ true → is_plain_next (next_of script t.frames) ≡ true
  exits_plain runs exits =
      let of_it : ThreadKept script p.shared.keys t (summary_of e.pid e.tid r.events) = kept e.tid t it.found it.here in
      plain_if_exits script t.frames (ap (λ (s : Status). is_exiting s t.frames) (sym runs) ∙ sym of_it.exiting ∙ exits) of_it.exit_frames

  -- as the last thread of a process ends, no thread of it exits
  none_exits : (environment_of config r.world p t.id).is_last ≡ true → t.status ≡ status.Ending → (tid : ℕ) (u : Thread) → thread_with tid p ≡ Some u → u.gone ≡ false → (summary_of e.pid tid r.events).exiting ≡ true → ⊥
  unfolding environment_of
  none_exits last ends tid u found here exits =
      let is_exit : is_exiting u.status u.frames ≡ true = sym (kept tid u found here).exiting ∙ exits in
      let number : u.id ≡ tid = eqb-true u.id tid (found_passes (λ (x : Thread). nat_eq x.id tid) p.threads u found) in
      let differs : nat_eq u.id t.id ≡ false = ne_eqb u.id t.id (λ same.
      let it_too : t ≡ u = same_Some t u (sym it.found ∙ ap (λ (n : ℕ). thread_with n p) (sym it.number ∙ sym same ∙ number) ∙ found) in
      false≢true (sym (ap (λ (s : Status). is_exiting s t.frames) ends) ∙ ap (λ (x : Thread). is_exiting x.status x.frames) it_too ∙ is_exit)) in
      let not_it : has_valid_id e.tid u ≡ false = and_left (nat_eq u.id e.tid) (holds_slot u) (ap (nat_eq u.id) (sym it.number) ∙ differs) in
      let ended : u.ended ≡ true = others_if_last script config r.world p e t (of_its_threads summary (FitsAny script config.passes) r (threads_fit script config before r is) e.pid p process_is) (moves_of_run script config before r is e p t taken)
      (last_exits script config (threads_fit script config) before r is e.pid p process_is) last tid u found here not_it in
      true≢false (sym (last_kept script config before r is e.pid p process_is tid u found here ended exits e.tid t it.found it.here) ∙ alive ends refl refl)

  -- so the process has no exit value then
  pub last_has_none : (environment_of config r.world p t.id).is_last ≡ true → t.status ≡ status.Ending → is_some p.shared.exit_value ≡ false
  last_has_none last ends = false_from_ne_true (is_some p.shared.exit_value) (λ some.
      let x : SomeThread e.pid r.world r.events = some_thread e.pid r.world r.events (numbers_of_run script config before r is).of_threads (ap (λ (v : Option ℕ). is_some v) (sym (exit_value_of_run script config before r is e.pid p process_is)) ∙ some) in
      let u = found_thread (thread_with x.tid p) (subst (λ (found : Option Process). IsSomeAnd (option_and_then (thread_with x.tid) found) (λ t. t.gone ≡ false)) process_is x.made) in
      none_exits last ends x.tid u.0 u.1 u.2 x.exits)
