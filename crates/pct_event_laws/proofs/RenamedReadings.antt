-- What renamed events report: of threads, processes and keys the same, of handlers, owners, once controls and waits the same with other
-- numbers.
use Rattle.pct_names.proofs.Names.{[], ap, Bool, cond, Event, false, is_some, list_any, List, map, map-append, nat_eq, None}
use Rattle.pct_names.proofs.Names.{option_map, option_map_or, Option, refl, Some, sym, true, What, ℕ, ◌&&◌, ◌++◌, ◌∙◌, ◌∷◌, ◌≡◌}
use Rattle.pct_names.proofs.Names.{OnceState}
use Rattle.pct_model.specs.declared.event.What.TheVariants as what
use Rattle.pct_model.specs.Actions.{without_first}
use Rattle.pct_model.specs.CondCalls.{cond_wait_point, cond_timedwait_point}
use Rattle.pct_laws.specs.CancelEvents.{is_requested, requests_id, is_enabled_last, has_not_begun, has_to_act}
use Rattle.pct_laws.specs.KeyEvents.{has_key}
use Rattle.pct_laws.specs.KnownIds.{known_ids}
use Rattle.pct_laws.specs.KnownThreads.{is_in, is_own, is_fork_of, is_known, is_detached, joins_id, is_joined}
use Rattle.pct_laws.specs.MutexOwners.{owner_after, owner_of}
use Rattle.pct_laws.specs.NewestEvents.{newest_event, newest_is}
use Rattle.pct_laws.specs.OnceControls.{once_after, once_of}
use Rattle.pct_laws.specs.ProcessEnds.{exit_value, end_status}
use Rattle.pct_laws.specs.RanAll.{begins_to_end, has_begun, open_at_ending, handler_run, handlers_run}
use Rattle.pct_laws.specs.ThreadSummary.{ThreadSummary, with_event, summary_of, thread_ended, thread_ended_with, is_reclaimed}
use Rattle.pct_laws.specs.declared.stage.WaitStage.{WaitStage}
use Rattle.pct_laws.specs.declared.stage.WaitStage.TheVariants.{NoWait, AtCall, InWait, ToReturn, Expired, ToTimeOut, Leaving, Left, ToEnd}
use Rattle.pct_laws.specs.WaitStages.{stage_at_call, stage_after, wait_stage}
use Rattle.pct_event_laws.specs.Renamed.{Naming, renamed, renamed_event, renamed_events, IsInjective}
use Rattle.pct_event_laws.proofs.RenamedTests.{begins_to_end-same, created_ids-same, creates-same, detaches-same, enabled-same, exit-same, IgnoresNames}
use Rattle.pct_event_laws.proofs.RenamedTests.{joins-same, key-same, makes-same, requests-same, status-same}

module _ (n : Naming) where
  -- ---- tests of any event

  pub any-same : (p : Event → Bool) → ((e : Event) → p (renamed_event n e) ≡ p e) → (es : List Event) → list_any p (renamed_events n es) ≡ list_any p es
  any-same p same [] = refl
  any-same p same (e ∷ es) = rw (same e, any-same p same es) refl

  pub in-same : (test : What → Bool) → IgnoresNames test → (pid : ℕ) (es : List Event)
      → list_any (λ e. is_in pid e && test e.what) (renamed_events n es) ≡ list_any (λ e. is_in pid e && test e.what) es
  in-same test same pid es = any-same (λ e. is_in pid e && test e.what) (λ e. ap (λ b. is_in pid e && b) (same n e.what)) es

  pub all-same : (test : What → Bool) → IgnoresNames test → (es : List Event) → list_any (λ e. test e.what) (renamed_events n es) ≡ list_any (λ e. test e.what) es
  all-same test same es = any-same (λ e. test e.what) (λ e. same n e.what) es

  pub joined-same : (pid tid : ℕ) (es : List Event) → is_joined pid tid (renamed_events n es) ≡ is_joined pid tid es
  joined-same pid tid es = in-same (joins_id tid) (joins-same tid) pid es

  pub requested-same : (pid tid : ℕ) (es : List Event) → is_requested pid tid (renamed_events n es) ≡ is_requested pid tid es
  requested-same pid tid es = in-same (requests_id tid) (requests-same tid) pid es

  pub begun-same : (pid tid : ℕ) (es : List Event) → has_begun pid tid (renamed_events n es) ≡ has_begun pid tid es
  begun-same pid tid es = any-same (λ e. is_own pid tid e && begins_to_end e.what) (λ e. ap (λ b. is_own pid tid e && b) (begins_to_end-same n e.what)) es

  -- ---- threads

  pub known-same : (pid tid : ℕ) (es : List Event) → is_known pid tid (renamed_events n es) ≡ is_known pid tid es
  known-same pid tid [] = refl
  known-same pid tid (e ∷ es) = rw (creates-same tid n e.what, makes-same pid n e.what, known-same pid tid es) refl

  pub known_ids-same : (pid : ℕ) (es : List Event) → known_ids pid (renamed_events n es) ≡ known_ids pid es
  known_ids-same pid [] = refl
  known_ids-same pid (e ∷ es) = rw (created_ids-same n e.what, makes-same pid n e.what, known_ids-same pid es) refl

  pub detached-same : (pid tid : ℕ) (es : List Event) → is_detached pid tid (renamed_events n es) ≡ is_detached pid tid es
  detached-same pid tid [] = refl
  detached-same pid tid (e ∷ es) = rw (detaches-same tid n e.what, makes-same pid n e.what, detached-same pid tid es, detached-same e.pid tid es) refl

  pub enabled_last-same : (pid tid : ℕ) (es : List Event) → is_enabled_last pid tid (renamed_events n es) ≡ is_enabled_last pid tid es
  enabled_last-same pid tid [] = refl
  enabled_last-same pid tid (e ∷ es) =
      rw (enabled_last-same pid tid es, enabled_last-same e.pid tid es, enabled-same (is_enabled_last pid tid es) n e.what, makes-same pid n e.what) refl

  newest_step : (t : Bool) (w : What) (a b : Option What) → a ≡ option_map (renamed n) b → cond t (Some (renamed n w)) a ≡ option_map (renamed n) (cond t (Some w) b)
  newest_step true w a b same = refl
  newest_step false w a b same = same

  newest-same : (pid tid : ℕ) (es : List Event) → newest_event pid tid (renamed_events n es) ≡ option_map (renamed n) (newest_event pid tid es)
  newest-same pid tid [] = refl
  newest-same pid tid (e ∷ es) = newest_step (is_own pid tid e) e.what (newest_event pid tid (renamed_events n es)) (newest_event pid tid es) (newest-same pid tid es)

  test-same : (test : What → Bool) → IgnoresNames test → (newest : Option What) → option_map_or test (option_map (renamed n) newest) false ≡ option_map_or test newest false
  test-same test same (Some w) = same n w
  test-same test same None = refl

  pub newest_is-same : (test : What → Bool) → IgnoresNames test → (pid tid : ℕ) (es : List Event) → newest_is test pid tid (renamed_events n es) ≡ newest_is test pid tid es
  newest_is-same test same pid tid es = rw (newest-same pid tid es) (test-same test same (newest_event pid tid es))

  -- ---- processes and keys

  pub exit_value-same : (pid : ℕ) (es : List Event) → exit_value pid (renamed_events n es) ≡ exit_value pid es
  exit_value-same pid [] = refl
  exit_value-same pid (e ∷ es) = rw (exit_value-same pid es, exit-same (exit_value pid es) n e.what) refl

  pub end_status-same : (pid : ℕ) (es : List Event) → end_status pid (renamed_events n es) ≡ end_status pid es
  end_status-same pid [] = refl
  end_status-same pid (e ∷ es) = rw (end_status-same pid es, status-same (end_status pid es) n e.what) refl

  pub has_key-same : (pid key : ℕ) (es : List Event) → has_key pid key (renamed_events n es) ≡ has_key pid key es
  has_key-same pid key [] = refl
  has_key-same pid key (e ∷ es) = rw (has_key-same pid key es, has_key-same e.pid key es, key-same key (has_key pid key es) n e.what, makes-same pid n e.what) refl

  -- ---- summaries

  -- the number of the function of a handler
  abbrev pub renamed_handler : ℕ × ℕ → ℕ × ℕ
  renamed_handler handler = (n.function handler.0, handler.1)

  abbrev pub renamed_handlers : List (ℕ × ℕ) → List (ℕ × ℕ)
  renamed_handlers handlers = map renamed_handler handlers

  abbrev pub renamed_summary : ThreadSummary → ThreadSummary
  renamed_summary s = record s { handlers = renamed_handlers s.handlers; left = renamed_handlers s.left }

  without_first-same : (handlers : List (ℕ × ℕ)) → without_first (renamed_handlers handlers) ≡ renamed_handlers (without_first handlers)
  without_first-same [] = refl
  without_first-same (h ∷ handlers) = refl

  with_event-same : (w : What) (s : ThreadSummary) → with_event (renamed n w) (renamed_summary s) ≡ renamed_summary (with_event w s)
  with_event-same (what.Popped f a run) s = ap (λ handlers. record (renamed_summary s) { handlers = handlers }) (without_first-same s.handlers)
  with_event-same (what.HandlerRun f a) s =
      ap (λ handlers. record (renamed_summary s) { handlers = handlers; left = without_first (renamed_handlers s.left) }) (without_first-same s.handlers)
      ∙ ap (λ left. record (renamed_summary s) { handlers = renamed_handlers (without_first s.handlers); left = left }) (without_first-same s.left)
  with_event-same _ s = refl

  summary_step : (own fork : Bool) (a b c a' b' c' : ThreadSummary) → a ≡ renamed_summary a' → b ≡ renamed_summary b' → c ≡ renamed_summary c'
      → cond own a (cond fork (record c { handlers = b.handlers }) c) ≡ renamed_summary (cond own a' (cond fork (record c' { handlers = b'.handlers }) c'))
  summary_step true fork a b c a' b' c' same_a same_b same_c = same_a
  summary_step false true a b c a' b' c' same_a same_b same_c =
      ap (λ (s : ThreadSummary). record s { handlers = b.handlers }) same_c ∙ ap (λ (s : ThreadSummary). record (renamed_summary c') { handlers = s.handlers }) same_b
  summary_step false false a b c a' b' c' same_a same_b same_c = same_c

  pub summary-same : (pid tid : ℕ) (es : List Event) → summary_of pid tid (renamed_events n es) ≡ renamed_summary (summary_of pid tid es)
  summary-same pid tid [] = refl
  summary-same pid tid (e ∷ es) =
      rw (makes-same pid n e.what)
      (summary_step (is_own pid tid e) (is_fork_of pid tid e) _ _ _ (with_event e.what (summary_of pid tid es)) (summary_of e.pid tid es) (summary_of pid tid es)
      (ap (with_event (renamed n e.what)) (summary-same pid tid es) ∙ with_event-same e.what (summary_of pid tid es)) (summary-same e.pid tid es) (summary-same pid tid es))

  pub ended-same : (pid tid : ℕ) (es : List Event) → thread_ended pid tid (renamed_events n es) ≡ thread_ended pid tid es
  ended-same pid tid es = ap (λ (s : ThreadSummary). is_some s.ended) (summary-same pid tid es)

  pub ended_with-same : (v pid tid : ℕ) (es : List Event) → thread_ended_with v pid tid (renamed_events n es) ≡ thread_ended_with v pid tid es
  ended_with-same v pid tid es = ap (λ (s : ThreadSummary). option_map_or (λ value. nat_eq value v) s.ended false) (summary-same pid tid es)

  pub reclaimed-same : (pid tid : ℕ) (es : List Event) → is_reclaimed pid tid (renamed_events n es) ≡ is_reclaimed pid tid es
  reclaimed-same pid tid es = rw (ended-same pid tid es, joined-same pid tid es, detached-same pid tid es) refl

  pub not_begun-same : (pid tid : ℕ) (es : List Event) → has_not_begun pid tid (renamed_events n es) ≡ has_not_begun pid tid es
  not_begun-same pid tid es = rw (summary-same pid tid es) refl

  pub has_to_act-same : (pid tid : ℕ) (es : List Event) → has_to_act pid tid (renamed_events n es) ≡ has_to_act pid tid es
  has_to_act-same pid tid es = rw (requested-same pid tid es, enabled_last-same pid tid es, summary-same pid tid es) refl

  -- ---- handlers that ran

  open_step : (begun ends : Bool) (a b : ThreadSummary) (c d : List (ℕ × ℕ)) → a ≡ renamed_summary b → c ≡ renamed_handlers d
      → cond begun c (cond ends a.handlers []) ≡ renamed_handlers (cond begun d (cond ends b.handlers []))
  open_step true ends a b c d same_a same_c = same_c
  open_step false true a b c d same_a same_c = ap (λ (s : ThreadSummary). s.handlers) same_a
  open_step false false a b c d same_a same_c = refl

  pub open-same : (pid tid : ℕ) (es : List Event) → open_at_ending pid tid (renamed_events n es) ≡ renamed_handlers (open_at_ending pid tid es)
  open-same pid tid [] = refl
  open-same pid tid (e ∷ es) =
      rw (begins_to_end-same n e.what, begun-same pid tid es)
      (open_step (has_begun pid tid es) (is_own pid tid e && begins_to_end e.what) _ (summary_of pid tid es) _ (open_at_ending pid tid es) (summary-same pid tid es) (open-same pid tid es))

  run-same : (w : What) → handler_run (renamed n w) ≡ renamed_handlers (handler_run w)
  run-same (what.HandlerRun f a) = refl
  run-same _ = refl

  run_if : (t : Bool) (w : What) → cond t (handler_run (renamed n w)) [] ≡ renamed_handlers (cond t (handler_run w) [])
  run_if true w = run-same w
  run_if false w = refl

  pub runs-same : (pid tid : ℕ) (es : List Event) → handlers_run pid tid (renamed_events n es) ≡ renamed_handlers (handlers_run pid tid es)
  runs-same pid tid [] = refl
  runs-same pid tid (e ∷ es) =
      ap (λ (run : List (ℕ × ℕ)). run ++ cond (is_own pid tid e) (handler_run (renamed n e.what)) []) (runs-same pid tid es)
      ∙ ap (λ (run : List (ℕ × ℕ)). renamed_handlers (handlers_run pid tid es) ++ run) (run_if (is_own pid tid e) e.what)
      ∙ sym (map-append renamed_handler (handlers_run pid tid es) (cond (is_own pid tid e) (handler_run e.what) []))

  -- ---- owners of mutexes

  module _ (apart : IsInjective n.mutex) where
    owner_after-same : (m tid : ℕ) (w : What) (owner : ℕ) → owner_after (n.mutex m) tid (renamed n w) owner ≡ owner_after m tid w owner
    owner_after-same m tid (what.Acquired mutex) owner = rw (apart mutex m) refl
    owner_after-same m tid (what.Released mutex) owner = rw (apart mutex m) refl
    owner_after-same m tid _ owner = refl

    pub owner-same : (pid m : ℕ) (es : List Event) → owner_of pid (n.mutex m) (renamed_events n es) ≡ owner_of pid m es
    owner-same pid m [] = refl
    owner-same pid m (e ∷ es) = rw (owner-same pid m es, owner-same e.pid m es, owner_after-same m e.tid e.what (owner_of pid m es), makes-same pid n e.what) refl

  -- ---- states of once controls

  module _ (apart : IsInjective n.once) where
    once_after-same : (o tid : ℕ) (w : What) (state : OnceState) → once_after (n.once o) tid (renamed n w) state ≡ once_after o tid w state
    once_after-same o tid (what.OnceCalled control) state = rw (apart control o) refl
    once_after-same o tid (what.OnceDone control) state = rw (apart control o) refl
    once_after-same o tid (what.EndingExit v) state = refl
    once_after-same o tid what.EndingCanceled state = refl
    once_after-same o tid (what.EndingInWait c m) state = refl
    once_after-same o tid _ state = refl

    pub once-same : (pid o : ℕ) (es : List Event) → once_of pid (n.once o) (renamed_events n es) ≡ once_of pid o es
    once-same pid o [] = refl
    once-same pid o (e ∷ es) = rw (once-same pid o es, once-same e.pid o es, once_after-same o e.tid e.what (once_of pid o es), makes-same pid n e.what) refl

  -- ---- condition waits

  abbrev pub renamed_stage : WaitStage → WaitStage
  renamed_stage NoWait = NoWait
  renamed_stage (AtCall timed) = AtCall timed
  renamed_stage (InWait timed m) = InWait timed (n.mutex m)
  renamed_stage (ToReturn timed) = ToReturn timed
  renamed_stage (Expired c m) = Expired (n.cond c) (n.mutex m)
  renamed_stage ToTimeOut = ToTimeOut
  renamed_stage (Leaving timed c m) = Leaving timed (n.cond c) (n.mutex m)
  renamed_stage (Left timed c m) = Left timed (n.cond c) (n.mutex m)
  renamed_stage (ToEnd c m) = ToEnd (n.cond c) (n.mutex m)

  stage_if : (t : Bool) (a b a' b' : WaitStage) → a ≡ renamed_stage a' → b ≡ renamed_stage b' → cond t a b ≡ renamed_stage (cond t a' b')
  stage_if true a b a' b' same_a same_b = same_a
  stage_if false a b a' b' same_a same_b = same_b

  at_call-same : (index : ℕ) → stage_at_call index ≡ renamed_stage (stage_at_call index)
  at_call-same index =
      stage_if (nat_eq index cond_wait_point) _ _ (AtCall false) _ refl (stage_if (nat_eq index cond_timedwait_point) _ _ (AtCall true) NoWait refl refl)

  module _ (apart : IsInjective n.cond) where
    stage_after-same : (w : What) (s : WaitStage) → stage_after (renamed n w) (renamed_stage s) ≡ renamed_stage (stage_after w s)
    stage_after-same (what.Called index) s = at_call-same index
    stage_after-same (what.HandedOn d u) (Leaving timed c m) = rw (apart d c) (stage_if (nat_eq d c) _ _ (Left timed c m) NoWait refl refl)
    stage_after-same (what.Released m) NoWait = refl
    stage_after-same (what.Acquired m) NoWait = refl
    stage_after-same (what.WaitCanceled c) NoWait = refl
    stage_after-same (what.WaitExpired c) (InWait true m) = refl
    stage_after-same (what.WaitExpired c) (InWait false m) = refl
    stage_after-same _ _ = refl

    pub stage-same : (pid tid : ℕ) (es : List Event) → wait_stage pid tid (renamed_events n es) ≡ renamed_stage (wait_stage pid tid es)
    stage-same pid tid [] = refl
    stage-same pid tid (e ∷ es) =
        stage_if (is_own pid tid e) _ _ (stage_after e.what (wait_stage pid tid es)) (wait_stage pid tid es)
        (ap (stage_after (renamed n e.what)) (stage-same pid tid es) ∙ stage_after-same e.what (wait_stage pid tid es)) (stage-same pid tid es)
