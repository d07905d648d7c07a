-- A law of events holds of renamed events exactly if it holds of the events as they were.
use Rattle.pct_names.proofs.Names.{[], ap, ap₂, Bool, cond, Event, length, length-map, list_all, List}
use Rattle.pct_names.proofs.Names.{not, refl, true, What, ℕ, ◌&&◌, ◌∙◌, ◌∷◌, ◌≡◌}
use Rattle.pct_model.specs.declared.event.Caller.TheVariants as caller
use Rattle.pct_model.specs.declared.event.What.TheVariants as what
use Rattle.pct_model.specs.LineParsing.{is_empty}
use Rattle.pct_model.specs.ForkCalls.{waitpid_point}
use Rattle.pct_model.specs.SemCalls.{sem_timedwait_point}
use Rattle.pct_model.specs.ThreadCalls.{join_point}
use Rattle.pct_laws.specs.AfterEnd as AfterEnd
use Rattle.pct_laws.specs.CondLaw as CondLaw
use Rattle.pct_laws.specs.Ends.{is_leftover}
use Rattle.pct_laws.specs.FollowedEvents.{are_followed, follows, newest_passes}
use Rattle.pct_laws.specs.JoinLaw as JoinLaw
use Rattle.pct_laws.specs.KeysLaw as KeysLaw
use Rattle.pct_laws.specs.KnownIds.{known_ids}
use Rattle.pct_laws.specs.KnownThreads.{is_in, is_own, makes_process, reports_end}
use Rattle.pct_laws.specs.MutexOwners.{owner_of}
use Rattle.pct_laws.specs.NewestEvents.{reports_call}
use Rattle.pct_laws.specs.Once as Once
use Rattle.pct_laws.specs.OnceControls.{once_of}
use Rattle.pct_laws.specs.OnceLaw as OnceLaw
use Rattle.pct_laws.specs.ProcessLaw as ProcessLaw
use Rattle.pct_laws.specs.RanAll as RanAll
use Rattle.pct_laws.specs.RequestsLaw as RequestsLaw
use Rattle.pct_laws.specs.SlotLaw as SlotLaw
use Rattle.pct_laws.specs.ThreadSummary.{ThreadSummary, summary_of, thread_ended}
use Rattle.pct_laws.specs.declared.stage.WaitStage.{WaitStage}
use Rattle.pct_laws.specs.declared.stage.WaitStage.TheVariants.{NoWait, AtCall, InWait, ToReturn, Expired, ToTimeOut, Leaving, Left, ToEnd}
use Rattle.pct_laws.specs.WaitStages.{wait_stage, acquires, cancels_wait_on, hands_on_signal, ends_in_wait, may_follow_stage}
use Rattle.pct_event_laws.specs.Renamed.{Naming, renamed, renamed_event, renamed_events, IsInjective, TellsApart, IsKeptBy, RenamingChangesNoLaw, RenamingKeepsLaws}
use Rattle.pct_event_laws.proofs.RenamedReadings.{all-same, any-same, begun-same, detached-same, end_status-same, ended-same, ended_with-same, exit_value-same}
use Rattle.pct_event_laws.proofs.RenamedReadings.{has_key-same, has_to_act-same, in-same, joined-same, known-same, known_ids-same, newest_is-same}
use Rattle.pct_event_laws.proofs.RenamedReadings.{not_begun-same, once-same, open-same, owner-same, reclaimed-same, renamed_handlers, renamed_stage}
use Rattle.pct_event_laws.proofs.RenamedReadings.{renamed_summary, runs-same, stage-same, summary-same}
use Rattle.pct_event_laws.proofs.RenamedTests.{calls-same, cancels-same, exit_with_0-same, expires-same, leftover-same, makes-same, of_exit-same}
use Rattle.pct_event_laws.proofs.RenamedTests.{reaps-same, reports_end-same, returns-same, sem_wait-same, stop-same, timed_out-same}

module _ (n : Naming) where
  -- a law whose test gives the same for each renamed event
  each-same : (allows : Event → List Event → Bool) → ((e : Event) (earlier : List Event) → allows (renamed_event n e) (renamed_events n earlier) ≡ allows e earlier) → IsKeptBy n allows
  each-same allows same [] = refl
  each-same allows same (e ∷ earlier) = ap₂ (λ a b. a && b) (same e earlier) (each-same allows same earlier)

  -- ---- handlers and destructors

  length-same : (handlers : List (ℕ × ℕ)) → length (renamed_handlers n handlers) ≡ length handlers
  length-same handlers = length-map {B = ℕ × ℕ} handlers (λ (h : ℕ × ℕ). (n.function h.0, h.1))

  empty-same : (handlers : List (ℕ × ℕ)) → is_empty (renamed_handlers n handlers) ≡ is_empty handlers
  empty-same [] = refl
  empty-same (h ∷ handlers) = refl

  module _ (apart : IsInjective n.function) where
    newest_handler-same : (f a : ℕ) (handlers : List (ℕ × ℕ)) → Once.is_newest (n.function f) a (renamed_handlers n handlers) ≡ Once.is_newest f a handlers
    newest_handler-same f a [] = refl
    newest_handler-same f a (h ∷ older) = rw (apart h.0 f) refl

    may_come-same : (passes : ℕ) (w : What) (s : ThreadSummary) → Once.may_come passes (renamed n w) (renamed_summary n s) ≡ Once.may_come passes w s
    may_come-same passes (what.Popped f a run) s = rw (newest_handler-same f a s.handlers, length-same s.left, length-same s.handlers) refl
    may_come-same passes (what.HandlerRun f a) s = rw (newest_handler-same f a s.handlers, length-same s.left, length-same s.handlers) refl
    may_come-same passes (what.EndedWith v) s = rw (empty-same s.handlers) refl
    may_come-same passes (what.PassBegun k) s = rw (empty-same s.handlers) refl
    may_come-same passes (what.DtorRun pass key f v) s = rw (empty-same s.handlers) refl
    may_come-same passes _ s = refl

    once-exact : (passes : ℕ) → IsKeptBy n (Once.allows passes)
    once-exact passes = each-same (Once.allows passes) (λ e earlier.
        ap (Once.may_come passes (renamed n e.what)) (summary-same n e.pid e.tid earlier) ∙ may_come-same passes e.what (summary_of e.pid e.tid earlier))

    handlers-same : (a b : List (ℕ × ℕ)) → RanAll.are_same (renamed_handlers n a) (renamed_handlers n b) ≡ RanAll.are_same a b
    handlers-same [] [] = refl
    handlers-same [] (x ∷ b) = refl
    handlers-same (h ∷ a) [] = refl
    handlers-same (h ∷ a) (x ∷ b) = rw (apart h.0 x.0, handlers-same a b) refl

    may_end-same : (w : What) (pid tid : ℕ) (es : List Event) → RanAll.may_end (renamed n w) pid tid (renamed_events n es) ≡ RanAll.may_end w pid tid es
    may_end-same (what.EndedWith v) pid tid es =
        rw (begun-same n pid tid es, runs-same n pid tid es, open-same n pid tid es) (ap (λ b. RanAll.has_begun pid tid es && b) (handlers-same (RanAll.handlers_run pid tid es) (RanAll.open_at_ending pid tid es)))
    may_end-same _ pid tid es = refl

    ran_all-exact : IsKeptBy n RanAll.allows
    ran_all-exact = each-same RanAll.allows (λ e earlier. may_end-same e.what e.pid e.tid earlier)

  -- ---- after the end

  all_ended-same : (pid : ℕ) (es : List Event) (ids : List ℕ) → list_all (λ tid. thread_ended pid tid (renamed_events n es)) ids ≡ list_all (λ tid. thread_ended pid tid es) ids
  all_ended-same pid es [] = refl
  all_ended-same pid es (tid ∷ ids) = rw (ended-same n pid tid es, all_ended-same pid es ids) refl

  follow_end-same : (e : Event) (es : List Event) → AfterEnd.allows (renamed_event n e) (renamed_events n es) ≡ AfterEnd.allows e es
  follow_end-same e es =
      rw (summary-same n e.pid e.tid es, of_exit-same n e.what, exit_with_0-same n e.what, known_ids-same n e.pid es, all_ended-same e.pid es (known_ids e.pid es)) refl

  -- an event that values are left, and the end

  followed-same : (e : Event) (es : List Event) → follows is_leftover reports_end (renamed_event n e) (renamed_events n es) ≡ follows is_leftover reports_end e es
  followed-same e [] = refl
  followed-same e (x ∷ es) = rw (leftover-same n x.what, reports_end-same n e.what) refl

  newest_leftover-same : (es : List Event) → newest_passes is_leftover (renamed_events n es) ≡ newest_passes is_leftover es
  newest_leftover-same [] = refl
  newest_leftover-same (x ∷ es) = leftover-same n x.what

  all_followed-same : (es : List Event) → are_followed is_leftover reports_end (renamed_events n es) ≡ are_followed is_leftover reports_end es
  all_followed-same es =
      ap₂ (λ (followed newest : Bool). followed && not newest) (each-same (follows is_leftover reports_end) followed-same es) (newest_leftover-same es)

  -- ---- keys

  destroy-same : (w : What) (pid : ℕ) (es : List Event) → KeysLaw.may_destroy (renamed n w) pid (renamed_events n es) ≡ KeysLaw.may_destroy w pid es
  destroy-same (what.DtorRun pass key f v) pid es = rw (has_key-same n pid key es) refl
  destroy-same _ pid es = refl

  -- ---- slots

  leaves-same : (slots pid id : ℕ) (es : List Event) (ids : List ℕ) → list_all (SlotLaw.leaves_slot slots pid id (renamed_events n es)) ids ≡ list_all (SlotLaw.leaves_slot slots pid id es) ids
  leaves-same slots pid id es [] = refl
  leaves-same slots pid id es (tid ∷ ids) = rw (reclaimed-same n pid tid es, leaves-same slots pid id es ids) refl

  create-same : (slots : ℕ) (w : What) (pid : ℕ) (es : List Event) → SlotLaw.may_create slots (renamed n w) pid (renamed_events n es) ≡ SlotLaw.may_create slots w pid es
  create-same slots (what.Created id detached) pid es = rw (known-same n pid id es, known_ids-same n pid es, leaves-same slots pid id es (known_ids pid es)) refl
  create-same slots _ pid es = refl

  -- ---- joins

  name-same : (w : What) (pid tid : ℕ) (es : List Event) → JoinLaw.may_name (renamed n w) pid tid (renamed_events n es) ≡ JoinLaw.may_name w pid tid es
  name-same (what.Joined id v) pid tid es =
      rw (ended_with-same n v pid id es, joined-same n pid id es, detached-same n pid id es, newest_is-same n (reports_call join_point) (calls-same join_point) pid tid es) refl
  name-same (what.Request id) pid tid es = rw (known-same n pid id es, reclaimed-same n pid id es) refl
  name-same (what.Detached id) pid tid es = rw (known-same n pid id es, reclaimed-same n pid id es) refl
  name-same _ pid tid es = refl

  -- ---- processes

  change-same : (w : What) (pid tid : ℕ) (es : List Event) → ProcessLaw.may_change (renamed n w) pid tid (renamed_events n es) ≡ ProcessLaw.may_change w pid tid es
  change-same (what.ExitBegun v) pid tid es = rw (exit_value-same n pid es) refl
  change-same (what.ProcessEnded k) pid tid es = rw (summary-same n pid tid es, exit_value-same n pid es) refl
  change-same (what.Forked child) pid tid es =
      rw (all-same n (makes_process child) (makes-same child) es, any-same n (is_in child) (λ e. refl) es) refl
  change-same (what.Reaped q k) pid tid es =
      rw (in-same n (makes_process q) (makes-same q) pid es, end_status-same n q es, all-same n (ProcessLaw.reaps_process q) (reaps-same q) es) refl
  change-same (what.Joined id v) pid tid es = rw (known-same n pid id es, ended-same n pid tid es) refl
  change-same _ pid tid es = refl

  process-same : (e : Event) (es : List Event) → ProcessLaw.allows (renamed_event n e) (renamed_events n es) ≡ ProcessLaw.allows e es
  process-same e es =
      rw (all-same n ProcessLaw.is_stop stop-same es, end_status-same n e.pid es, known-same n e.pid e.tid es, change-same e.what e.pid e.tid es) refl

  -- ---- once controls

  module _ (apart : IsInjective n.once) where
    control-same : (w : What) (pid tid : ℕ) (es : List Event)
        → OnceLaw.may_come (renamed n w) tid (λ o. once_of pid o (renamed_events n es)) ≡ OnceLaw.may_come w tid (λ o. once_of pid o es)
    control-same (what.OnceCalled o) pid tid es = ap OnceLaw.may_call (once-same n apart pid o es)
    control-same (what.OnceDone o) pid tid es = ap (OnceLaw.may_return tid) (once-same n apart pid o es)
    control-same _ pid tid es = refl

    controls-exact : IsKeptBy n OnceLaw.allows
    controls-exact = each-same OnceLaw.allows (λ e earlier. control-same e.what e.pid e.tid earlier)

  -- ---- mutexes and condition waits

  module _ (apart : TellsApart n) where
    own-same : (w : What) (pid tid : ℕ) (es : List Event)
        → CondLaw.may_own (renamed n w) tid (λ m. owner_of pid m (renamed_events n es)) ≡ CondLaw.may_own w tid (λ m. owner_of pid m es)
    own-same (what.Acquired m) pid tid es = rw (owner-same n apart.mutexes pid m es) refl
    own-same (what.Released m) pid tid es = rw (owner-same n apart.mutexes pid m es) refl
    own-same _ pid tid es = refl

    acquires-same : (m : ℕ) (w : What) → acquires (n.mutex m) (renamed n w) ≡ acquires m w
    acquires-same m (what.Acquired mutex) = apart.mutexes mutex m
    acquires-same m _ = refl

    cancels_on-same : (c : ℕ) (w : What) → cancels_wait_on (n.cond c) (renamed n w) ≡ cancels_wait_on c w
    cancels_on-same c (what.WaitCanceled cond) = apart.conds cond c
    cancels_on-same c _ = refl

    hands_on-same : (c : ℕ) (w : What) → hands_on_signal (n.cond c) (renamed n w) ≡ hands_on_signal c w
    hands_on-same c (what.HandedOn cond u) = apart.conds cond c
    hands_on-same c _ = refl

    ends_in-same : (c m : ℕ) (w : What) → ends_in_wait (n.cond c) (n.mutex m) (renamed n w) ≡ ends_in_wait c m w
    ends_in-same c m (what.EndingInWait cond mutex) = rw (apart.conds cond c, apart.mutexes mutex m) refl
    ends_in-same c m _ = refl

    follow-same : (s : WaitStage) (w : What) → may_follow_stage (renamed_stage n s) (renamed n w) ≡ may_follow_stage s w
    follow-same NoWait w = refl
    follow-same (AtCall timed) w = refl
    follow-same (InWait timed m) w = rw (acquires-same m w, cancels-same n w, expires-same n w) refl
    follow-same (ToReturn timed) w = returns-same timed n w
    follow-same (Expired c m) w = rw (acquires-same m w, cancels_on-same c w) refl
    follow-same ToTimeOut w = timed_out-same n w
    follow-same (Leaving timed c m) w = rw (acquires-same m w, hands_on-same c w) refl
    follow-same (Left timed c m) w = acquires-same m w
    follow-same (ToEnd c m) w = ends_in-same c m w

    just_left-same : (pid tid c : ℕ) (es : List Event) → CondLaw.has_just_left pid tid (n.cond c) (renamed_events n es) ≡ CondLaw.has_just_left pid tid c es
    just_left-same pid tid c [] = refl
    just_left-same pid tid c (e ∷ es) = ap (λ b. is_own pid tid e && b) (cancels_on-same c e.what)

    hand_on-same : (w : What) (pid tid : ℕ) (es : List Event) → CondLaw.may_hand_on (renamed n w) pid tid (renamed_events n es) ≡ CondLaw.may_hand_on w pid tid es
    hand_on-same (what.HandedOn c u) pid tid es = just_left-same pid tid c es
    hand_on-same _ pid tid es = refl

    cond-same : (e : Event) (es : List Event) → CondLaw.allows (renamed_event n e) (renamed_events n es) ≡ CondLaw.allows e es
    cond-same e es =
        rw (own-same e.what e.pid e.tid es, stage-same n apart.conds e.pid e.tid es, follow-same (wait_stage e.pid e.tid es) e.what, hand_on-same e.what e.pid e.tid es) refl

    -- ---- requests

    in_wait-same : (s : WaitStage) → RequestsLaw.is_in_wait (renamed_stage n s) ≡ RequestsLaw.is_in_wait s
    in_wait-same (InWait timed m) = refl
    in_wait-same (Expired c m) = refl
    in_wait-same _ = refl

    timed_wait-same : (s : WaitStage) → RequestsLaw.is_in_timed_wait (renamed_stage n s) ≡ RequestsLaw.is_in_timed_wait s
    timed_wait-same (InWait timed m) = refl
    timed_wait-same _ = refl

    to_return-same : (s : WaitStage) → RequestsLaw.is_to_return (renamed_stage n s) ≡ RequestsLaw.is_to_return s
    to_return-same (ToReturn timed) = refl
    to_return-same _ = refl

    to_time_out-same : (s : WaitStage) → RequestsLaw.is_to_time_out (renamed_stage n s) ≡ RequestsLaw.is_to_time_out s
    to_time_out-same ToTimeOut = refl
    to_time_out-same _ = refl

    to_end-same : (c m : ℕ) (s : WaitStage) → RequestsLaw.is_to_end (n.cond c) (n.mutex m) (renamed_stage n s) ≡ RequestsLaw.is_to_end c m s
    to_end-same c m (ToEnd cond mutex) = rw (apart.conds cond c, apart.mutexes mutex m) refl
    to_end-same c m _ = refl

    return-same : (index pid tid : ℕ) (es : List Event) → RequestsLaw.may_return index pid tid (renamed_events n es) ≡ RequestsLaw.may_return index pid tid es
    return-same index pid tid es =
        rw (has_to_act-same n pid tid es, stage-same n apart.conds pid tid es, to_return-same (wait_stage pid tid es), newest_is-same n (reports_call index) (calls-same index) pid tid es) refl

    act-same : (w : What) (pid tid : ℕ) (es : List Event) → RequestsLaw.may_act (renamed n w) pid tid (renamed_events n es) ≡ RequestsLaw.may_act w pid tid es
    act-same what.EndingCanceled pid tid es = has_to_act-same n pid tid es
    act-same (what.WaitCanceled c) pid tid es = rw (has_to_act-same n pid tid es, stage-same n apart.conds pid tid es, in_wait-same (wait_stage pid tid es)) refl
    act-same (what.EndingInWait c m) pid tid es = rw (has_to_act-same n pid tid es, stage-same n apart.conds pid tid es, to_end-same c m (wait_stage pid tid es)) refl
    act-same (what.Called index) pid tid es = ap not (has_to_act-same n pid tid es)
    act-same (what.Done index) pid tid es = return-same index pid tid es
    act-same (what.Taken s) pid tid es = newest_is-same n RequestsLaw.calls_sem_wait sem_wait-same pid tid es
    act-same (what.Answer caller.SemTimedWait k) pid tid es = newest_is-same n (reports_call sem_timedwait_point) (calls-same sem_timedwait_point) pid tid es
    act-same (what.Answer caller.CondTimedWait k) pid tid es = ap RequestsLaw.is_to_time_out (stage-same n apart.conds pid tid es) ∙ to_time_out-same (wait_stage pid tid es)
    act-same (what.WaitExpired c) pid tid es = ap RequestsLaw.is_in_timed_wait (stage-same n apart.conds pid tid es) ∙ timed_wait-same (wait_stage pid tid es)
    act-same (what.Reaped q k) pid tid es = newest_is-same n (reports_call waitpid_point) (calls-same waitpid_point) pid tid es
    act-same (what.Answer caller.WaitPid k) pid tid es =
        rw (has_to_act-same n pid tid es, newest_is-same n (reports_call waitpid_point) (calls-same waitpid_point) pid tid es) refl
    act-same (what.StateSet true) pid tid es = not_begun-same n pid tid es
    act-same _ pid tid es = refl

-- ---- the laws

pub changes_no_law : RenamingChangesNoLaw
changes_no_law passes slots n apart = record {
  once = once-exact n apart.functions passes;
  ran_all = ran_all-exact n apart.functions;
  after_end = each-same n AfterEnd.allows (follow_end-same n);
  leftovers = all_followed-same n;
  keys = each-same n KeysLaw.allows (λ e earlier. destroy-same n e.what e.pid earlier);
  requests = each-same n RequestsLaw.allows (λ e earlier. act-same n apart e.what e.pid e.tid earlier);
  joins = each-same n JoinLaw.allows (λ e earlier. name-same n e.what e.pid e.tid earlier);
  conds = each-same n CondLaw.allows (cond-same n apart);
  controls = controls-exact n apart.onces;
  creations = each-same n (SlotLaw.allows slots) (λ e earlier. create-same n slots e.what e.pid earlier);
  processes = each-same n ProcessLaw.allows (process-same n);
}

pub kept_by_renaming : RenamingKeepsLaws
kept_by_renaming passes slots n events apart laws = let same = changes_no_law passes slots n apart in record {
  once = same.once events ∙ laws.once;
  ran_all = same.ran_all events ∙ laws.ran_all;
  after_end = same.after_end events ∙ laws.after_end;
  leftovers = same.leftovers events ∙ laws.leftovers;
  keys = same.keys events ∙ laws.keys;
  requests = same.requests events ∙ laws.requests;
  joins = same.joins events ∙ laws.joins;
  conds = same.conds events ∙ laws.conds;
  controls = same.controls events ∙ laws.controls;
  creations = same.creations events ∙ laws.creations;
  processes = same.processes events ∙ laws.processes;
}
