-- What follows the end of a thread, and what a thread does that exits its process: no event but those of its exit functions; and the last
-- thread of a process begins to exit it directly after its end, as each thread of the process has ended.
use Rattle.pct_names.proofs.Names.{◌&&◌, ◌++◌, [], and_from, and_left, and_parts, ap, ap₂, Bool, cond, Config, Entry, Environment}
use Rattle.pct_names.proofs.Names.{environment_of, eqb-false, Event, event_of, false, false_from_ne_true, false≢true, has_valid_id}
use Rattle.pct_names.proofs.Names.{holds_slot, inl, inr, is_some, List, list_all, list_any, made_process, map, nat_eq, NextStatement, None}
use Rattle.pct_names.proofs.Names.{Option, option_and_then, or_left, or_right, Process, refl, reverse, Run, run, Script, SharedState, Some}
use Rattle.pct_names.proofs.Names.{Status, Stmt, subst, sym, Thread, thread_with, Transition, transition_by, true, What, ◌||◌, ℕ, ◌∙◌, ◌∷◌}
use Rattle.pct_names.proofs.Names.{◌≡◌, ◌⊎◌}
use mathlib.Core.Bool.{and-false, or-false}
use Rattle.std.proofs.Common.{eqb-true, eq-eqb}
use Rattle.std.proofs.Math.Bool.{or_assoc}
use Rattle.pct_model.specs.declared.event.What.TheVariants as what
use Rattle.pct_laws.specs.AfterEnd.{begins_exit_with_0, is_of_exit, all_have_ended, allows}
use Rattle.pct_laws.specs.Each.{each}
use Rattle.pct_laws.specs.KnownIds.{known_ids}
use Rattle.pct_laws.specs.KnownThreads.{makes_process, is_fork_of, creates_id, is_known, reports_end}
use Rattle.pct_laws.specs.ThreadSummary.{ThreadSummary, with_event, summary_of, thread_ended}
use Rattle.pct_transition_cases.proofs.TransitionCases.{TransitionCase, fork_handler_called, last_ended, last_ended_with_keys}
use Rattle.pct_thread_invariants.proofs.LastThreads.{LastExits, last_exits, others_if_last}
use Rattle.pct_thread_invariants.proofs.ThreadsOfRun.{threads_fit, threads_kept}
use Rattle.pct_join_laws.proofs.slots.KnownIds.{all_from_members, among_known}
use Rattle.pct_join_laws.proofs.slots.ReclaimedThreads.{IsPresent, known_present}
use Rattle.pct_thread_invariants.proofs.lift.EveryProcess.{process_taken, moves_of_run}
use Rattle.pct_thread_invariants.proofs.lift.EveryThread.{OfItsThreads, of_its_threads, of_made_thread}
use Rattle.pct_thread_invariants.proofs.lift.HandlerEvents.{of_each_phase}
use Rattle.pct_thread_invariants.proofs.lift.TakenSteps.{IsTaken, AfterEveryRun, every_run}
use Rattle.pct_thread_invariants.proofs.lift.KeyedLists.{found_passes}
use Rattle.pct_thread_invariants.proofs.lift.SummaryEnds.{begins_exit, ended_after, exiting_after, ended_stays}
use Rattle.pct_thread_invariants.proofs.lift.ThreadsAfter.{Moves, mover}
use Rattle.pct_thread_invariants.proofs.lift.MovedThreads.{case_of_step}
use Rattle.pct_thread_invariants.proofs.thread.EndingSteps.{stands}
use Rattle.pct_thread_invariants.proofs.thread.ThreadRule.{summary, summary_reading, FitsAny}

-- ---- the events of a step, newest first

-- the event makes no thread
abbrev makes_none : What → Bool
makes_none (what.Created id detached) = false
makes_none (what.Forked child) = false
makes_none _ = true

-- an event may follow others of its step, before which the thread neither ended nor began to exit its process, where it is the last one of
-- its process or not
abbrev follows_end : Bool → What → List What → Bool
follows_end last w added = cond (list_any begins_exit added) (is_of_exit w) (cond (list_any reports_end added) (begins_exit_with_0 w && (last && list_all makes_none added)) true)

-- each of some events may
abbrev all_follow_end : Bool → List What → Bool
all_follow_end last [] = true
all_follow_end last (w ∷ added) = follows_end last w added && all_follow_end last added

-- of the events of a step of a thread, by what is reported of it before: it neither ended nor began to exit its process, and its events may
-- follow each other; or it exits its process, and each event is one of the exit
abbrev FollowEnd : Bool → ThreadSummary → List What → Type 0
FollowEnd last s added = record {
  not_ended : s.ended ≡ None;
  not_exiting : s.exiting ≡ false;
  all : all_follow_end last added ≡ true;
} ⊎ ((s.exiting ≡ true) × (list_all is_of_exit added ≡ true))

-- ---- transitions

module _ (passes : ℕ) (shared : SharedState) (t : Thread) (environment : Environment) where
  -- the events of any transition may follow each other: a thread that ends and exits its process is the last one
  case_follows : {body : List Stmt} {next : NextStatement} {s : Status} {o : Transition} → TransitionCase passes body shared t environment true next s o → all_follow_end environment.is_last (reverse o.events) ≡ true
  case_follows (last_ended next none is_last nothing_due none_left) = and_from _ _ (and_from _ _ is_last refl) refl
  case_follows (last_ended_with_keys next left none is_last some limit all none_left) = and_from _ _ (and_from _ _ is_last refl) refl
  case_follows (fork_handler_called next at call is) = of_each_phase (λ (w : What). all_follow_end environment.is_last (w ∷ []) ≡ true) call.func refl refl refl at.phase
  case_follows _ = refl

-- ---- the events of a run

-- an event that makes no thread creates none, and makes no process
creates_none : (id : ℕ) (w : What) → makes_none w ≡ true → creates_id id w ≡ false
creates_none id (what.Created new detached) none = absurd (false≢true none)
creates_none id w none = refl

makes_no_process : (pid : ℕ) (w : What) → makes_none w ≡ true → makes_process pid w ≡ false
makes_no_process pid (what.Forked child) none = absurd (false≢true none)
makes_no_process pid w none = refl

module _ (e : Entry) (earlier : List Event) where
  -- what was reported of the thread of the entry before
  abbrev before : ThreadSummary
  before = summary_of e.pid e.tid earlier

  -- the events so far, with some of the entry
  abbrev later : List What → List Event
  later added = map (event_of e) added ++ earlier

  -- an event of the entry is one of its thread
  own_event : (nat_eq e.pid e.pid && nat_eq e.tid e.tid) ≡ true
  own_event = and_from (nat_eq e.pid e.pid) (nat_eq e.tid e.tid) (eq-eqb e.pid e.pid refl) (eq-eqb e.tid e.tid refl)

  -- so it changes the summary of the thread
  own_summary : (w : What) (added : List What) → summary_of e.pid e.tid (later (w ∷ added)) ≡ with_event w (summary_of e.pid e.tid (later added))
  own_summary w added =
      let s : ThreadSummary = summary_of e.pid e.tid (later added) in
      let forked : ThreadSummary = cond (is_fork_of e.pid e.tid (event_of e w)) (record s { handlers = s.handlers }) s in
      ap (λ (own : Bool). cond own (with_event w s) forked) own_event

  -- whether the thread has ended, and has begun to exit its process, after events of the entry
  ended_later : (added : List What) → is_some (summary_of e.pid e.tid (later added)).ended ≡ (list_any reports_end added || is_some before.ended)
  ended_later [] = refl
  ended_later (w ∷ added) =
      ap (λ (s : ThreadSummary). is_some s.ended) (own_summary w added) ∙ ended_after w (summary_of e.pid e.tid (later added))
      ∙ ap (λ (b : Bool). reports_end w || b) (ended_later added) ∙ sym (or_assoc (reports_end w) (list_any reports_end added) (is_some before.ended))

  exiting_later : (added : List What) → (summary_of e.pid e.tid (later added)).exiting ≡ (list_any begins_exit added || before.exiting)
  exiting_later [] = refl
  exiting_later (w ∷ added) =
      ap (λ (s : ThreadSummary). s.exiting) (own_summary w added) ∙ exiting_after w (summary_of e.pid e.tid (later added))
      ∙ ap (λ (b : Bool). begins_exit w || b) (exiting_later added) ∙ sym (or_assoc (begins_exit w) (list_any begins_exit added) before.exiting)

  -- of a thread that had neither ended nor begun to exit its process before
  module _ (added : List What) (not_ended : before.ended ≡ None) (not_exiting : before.exiting ≡ false) where
    -- it has ended exactly if an event of the step is its end
    ended_in : is_some (summary_of e.pid e.tid (later added)).ended ≡ list_any reports_end added
    ended_in = ended_later added ∙ ap (λ (o : Option ℕ). list_any reports_end added || is_some o) not_ended ∙ or-false (list_any reports_end added)

    -- and it has begun to exit its process exactly if one is that
    exiting_in : (summary_of e.pid e.tid (later added)).exiting ≡ list_any begins_exit added
    exiting_in = exiting_later added ∙ ap (λ (b : Bool). list_any begins_exit added || b) not_exiting ∙ or-false (list_any begins_exit added)

  -- ---- the other threads

  -- each other known thread of the process has ended
  abbrev OthersEnded : Type 0
  OthersEnded = (id : ℕ) → is_known e.pid id earlier ≡ true → nat_eq e.tid id ≡ false → thread_ended e.pid id earlier ≡ true

  -- events that make no thread leave the known ones
  known_later : (id : ℕ) (added : List What) → list_all makes_none added ≡ true → is_known e.pid id (later added) ≡ is_known e.pid id earlier
  known_later id [] none = refl
  known_later id (w ∷ added) none =
      let parts = and_parts (makes_none w) (list_all makes_none added) none in
      ap₂ (λ (new forked : Bool). (nat_eq e.pid e.pid && new) || ((nat_eq e.tid id && forked) || is_known e.pid id (later added))) (creates_none id w parts.0) (makes_no_process e.pid w parts.0)
      ∙ ap₂ (λ (new forked : Bool). new || (forked || is_known e.pid id (later added))) (and-false (nat_eq e.pid e.pid)) (and-false (nat_eq e.tid id))
      ∙ known_later id added parts.1

  -- a thread that has ended has ended later
  ended_still : (id : ℕ) (added : List What) → thread_ended e.pid id earlier ≡ true → thread_ended e.pid id (later added) ≡ true
  ended_still id [] ended = ended
  ended_still id (w ∷ added) ended = ended_stays e.pid id (event_of e w) (later added) (ended_still id added ended)

  -- then each known thread of the process has, if each other one had ended
  each_ended : (added : List What) → list_any reports_end added ≡ true → list_all makes_none added ≡ true → OthersEnded → all_have_ended e.pid (later added) ≡ true
  each_ended added ends none others = all_from_members (λ (id : ℕ). thread_ended e.pid id (later added)) (known_ids e.pid (later added)) (λ id among. by id (sym (among_known id e.pid (later added)) ∙ among) (nat_eq e.tid id) refl)
    where
      by : (id : ℕ) → is_known e.pid id (later added) ≡ true → (same : Bool) → nat_eq e.tid id ≡ same → thread_ended e.pid id (later added) ≡ true
      by id known true same = subst (λ (n : ℕ). thread_ended e.pid n (later added) ≡ true) (eqb-true e.tid id same) (ended_later added ∙ or_left (list_any reports_end added) (is_some before.ended) ends)
      by id known false other = ended_still id added (others id (sym (known_later id added none) ∙ known) other)

  -- ---- the law

  -- by whether the thread has begun to exit its process, and has ended
  may_by : (w : What) (exiting ended last none all : Bool) → cond exiting (is_of_exit w) (cond ended (begins_exit_with_0 w && (last && none)) true) ≡ true → (ended ≡ true → last ≡ true → none ≡ true → all ≡ true)
      → cond exiting (is_of_exit w) (cond ended (begins_exit_with_0 w && all) true) ≡ true
  may_by w true ended last none all may then = may
  may_by w false true last none all may then = let parts = and_parts (begins_exit_with_0 w) (last && none) may in let more = and_parts last none parts.1 in and_from _ _ parts.0 (then refl more.0 more.1)
  may_by w false false last none all may then = refl

  -- an event that may follow the others of its step
  alive_may : (last : Bool) (w : What) (added : List What) → before.ended ≡ None → before.exiting ≡ false → follows_end last w added ≡ true → (last ≡ true → OthersEnded) → allows (event_of e w) (later added) ≡ true
  alive_may last w added not_ended not_exiting may others =
      ap₂ (λ (exiting ended : Bool). cond exiting (is_of_exit w) (cond ended (begins_exit_with_0 w && all_have_ended e.pid (later added)) true)) (exiting_in added not_ended not_exiting) (ended_in added not_ended not_exiting)
      ∙ may_by w (list_any begins_exit added) (list_any reports_end added) last (list_all makes_none added) (all_have_ended e.pid (later added)) may (λ ends is none. each_ended added ends none (others is))

  -- one of the exit, of a thread that exits its process
  exiting_may : (w : What) (added : List What) → before.exiting ≡ true → is_of_exit w ≡ true → allows (event_of e w) (later added) ≡ true
  exiting_may w added exiting of_exit =
      ap (λ (b : Bool). cond b (is_of_exit w) (cond (is_some (summary_of e.pid e.tid (later added)).ended) (begins_exit_with_0 w && all_have_ended e.pid (later added)) true)) (exiting_later added ∙ or_right (list_any begins_exit added) before.exiting exiting) ∙ of_exit

  -- the law after the events of a step
  after_end_later : (last : Bool) (added : List What) → FollowEnd last before added → (last ≡ true → OthersEnded) → each allows earlier ≡ true → each allows (later added) ≡ true
  after_end_later last [] follow others law = law
  after_end_later last (w ∷ added) (inl alive) others law =
      let parts = and_parts (follows_end last w added) (all_follow_end last added) alive.all in
      and_from _ _ (alive_may last w added alive.not_ended alive.not_exiting parts.0 others) (after_end_later last added (inl (record { not_ended = alive.not_ended; not_exiting = alive.not_exiting; all = parts.1 })) others law)
  after_end_later last (w ∷ added) (inr exits) others law =
      let parts = and_parts (is_of_exit w) (list_all is_of_exit added) exits.1 in
      and_from _ _ (exiting_may w added exits.0 parts.0) (after_end_later last added (inr (exits.0, parts.1)) others law)

module _ (script : Script) (config : Config) (before : List Entry) (r : Run) (is : run script config before ≡ Some r) (e : Entry) (p : Process) (t : Thread) (taken : IsTaken script config r.world e p t) where
  -- its process was made, and it moves its thread
  made : made_process e.pid r.world ≡ Some p
  made = process_taken script config before r is e p t taken

  moves : Moves script config r.world p e t
  moves = moves_of_run script config before r is e p t taken

  -- each other known thread of the process has ended, if the thread sees that
  others_ended : (environment_of config r.world p t.id).is_last ≡ true → OthersEnded e r.events
  others_ended last id known other =
      let it : IsPresent (thread_with id p) = known_present script config before r is e.pid p made id known in
      let u : Thread = it.thread in
      let of_threads : OfItsThreads summary (FitsAny script config.passes) p = of_its_threads summary (FitsAny script config.passes) r (threads_fit script config before r is) e.pid p made in
      let exits : LastExits p.threads = last_exits script config (threads_fit script config) before r is e.pid p made in
      let number : u.id ≡ id = eqb-true u.id id (found_passes (λ (x : Thread). nat_eq x.id id) p.threads u it.is) in
      let not_it : has_valid_id e.tid u ≡ false = and_left (nat_eq u.id e.tid) (holds_slot u) (false_from_ne_true (nat_eq u.id e.tid) (λ same. eqb-false e.tid id other (sym (eqb-true u.id e.tid same) ∙ number))) in
      let ended : u.ended ≡ true = others_if_last script config r.world p e t of_threads moves exits last id u it.is it.here not_it in
      (threads_kept script config before r is e.pid id p u made it.is it.here).ended ∙ ended

  -- the events of a legal entry, by what is reported of its thread before
  follow_end : FollowEnd (environment_of config r.world p t.id).is_last (summary_of e.pid e.tid r.events) (reverse (transition_by script config r.world p t e.alt).events)
  follow_end =
      let m = mover script config r.world p e t moves in
      let found = ap (option_and_then (thread_with e.tid)) made ∙ m.found in
      let reported : ThreadSummary = summary_of e.pid e.tid r.events in
      let fits : FitsAny script config.passes t reported =
      subst (FitsAny script config.passes t) (sym (summary_reading e.tid e.pid r.events)) (of_made_thread summary (FitsAny script config.passes) r (threads_fit script config before r is) e.pid e.tid t found m.here) in
      elim (stands script config r.world p t reported e.alt taken.offered fits) [
        | inl alive ↦ inl (record {
          not_ended = alive.0;
          not_exiting = alive.1;
          all = case_follows config.passes p.shared t (environment_of config r.world p t.id) (case_of_step script config r.world p e t moves);
        })
        | inr exits ↦ inr (exits.0, exits.2)
      ]

module _ (script : Script) (config : Config) where
  -- after every run, a thread that exits its process has only events of the exit, and one that has ended goes on only to exit its process, as
  -- the last one of it
  pub after_end_of_run : AfterEveryRun script config (λ r. each allows r.events ≡ true)
  after_end_of_run = every_run script config (λ r. each allows r.events ≡ true)
      (λ before r is e p t taken law.
      after_end_later e r.events (environment_of config r.world p t.id).is_last (reverse (transition_by script config r.world p t e.alt).events) (follow_end script config before r is e p t taken) (others_ended script config before r is e p t taken) law) (λ some. refl)
