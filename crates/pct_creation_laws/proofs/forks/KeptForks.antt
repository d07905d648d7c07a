-- A thread that is neither in fork nor calls it keeps its fork: it has one only in a fork handler, which returns to it.
use Rattle.pct_names.proofs.Names.{ap, Environment, false, ForkAt, Frame, FrameKind, inl, inr, is_fork_kind, is_forking, is_some, List}
use Rattle.pct_names.proofs.Names.{list_any, moved, NextStatement, None, Option, own_after, refl, Script, SharedState, Some, Status, Stmt}
use Rattle.pct_names.proofs.Names.{sym, Thread, thread_at, Transition, true, ℕ, ◌∙◌, ◌≡◌, ◌⊎◌}
use Rattle.std.proofs.lemmas.Bool.{true≢false}
use Rattle.pct_laws.specs.ForkLaw.{calls_fork, fork_by, fork_of}
use Rattle.pct_laws.specs.Kept.{is_in_fork_handler}
use Rattle.pct_laws.specs.RanAll.{leaves_all}
use Rattle.pct_transition_cases.proofs.PlacedStatements.{IsPlaced, on_top}
use Rattle.pct_transition_cases.proofs.TransitionCases.{TransitionCase, call_left, canceled, canceled_at_point, canceled_in_join}
use Rattle.pct_transition_cases.proofs.TransitionCases.{canceled_in_sem_wait, canceled_in_waitpid, ended_in_wait, exit_called}
use Rattle.pct_transition_cases.proofs.TransitionCases.{exit_function_left, fork_begun, fork_failed, fork_handler_called, fork_handler_left}
use Rattle.pct_transition_cases.proofs.TransitionCases.{fork_returned, handler_left, last_ended, last_ended_with_keys, main_returned}
use Rattle.pct_transition_cases.proofs.TransitionCases.{process_exited, process_forked, process_not_forked, routine_left, start_returned}

-- a kind of two that are not that of a fork handler
other_kind : {k a b : FrameKind} → (k ≡ a) ⊎ (k ≡ b) → is_fork_kind a ≡ false → is_fork_kind b ≡ false → is_fork_kind k ≡ false
other_kind (inl is) first second = ap is_fork_kind is ∙ first
other_kind (inr is) first second = ap is_fork_kind is ∙ second

-- what is kept, where nothing is
nothing_kept : (kept : Option ForkAt) → is_some kept ≡ false → None ≡ kept
nothing_kept None none = refl
nothing_kept (Some at) none = absurd (true≢false none)

module _ (passes : ℕ) (shared : SharedState) (t : Thread) (environment : Environment) where
  -- a return from another function than a fork handler finds no fork; by all other transitions of the thread its fork stays, unless it
  -- begins to end or to exit its process
  pub fork_resumes : {script : Script} {frames : List Frame} {body : List Stmt} {next : NextStatement} {s : Status} {o : Transition} → IsPlaced script frames body next
      → TransitionCase passes body shared t environment true next s o → is_some t.kept ≡ is_in_fork_handler s frames → is_forking s ≡ false → calls_fork next s ≡ false
      → list_any leaves_all o.events ≡ false → fork_of (moved o (record t { status = s })) ≡ fork_by s t.kept
  unfolding own_after thread_at
  fork_resumes placed (fork_handler_left frame s v at returned is kept) keeps outside other stays = sym kept
  fork_resumes (on_top frame below s at) (call_left _ _ v returned kinds) keeps outside other stays = nothing_kept t.kept (keeps ∙ other_kind kinds refl refl)
  fork_resumes (on_top frame below s at) (handler_left _ _ v returned kinds) keeps outside other stays = nothing_kept t.kept (keeps ∙ other_kind kinds refl refl)
  fork_resumes (on_top frame below s at) (exit_function_left _ _ v returned is) keeps outside other stays = nothing_kept t.kept (keeps ∙ ap is_fork_kind is)
  fork_resumes (on_top frame below s at) (routine_left _ _ v o returned is) keeps outside other stays = nothing_kept t.kept (keeps ∙ ap is_fork_kind is)
  -- in fork, and at its call
  fork_resumes placed (fork_handler_called next at call is) keeps outside other stays = absurd (true≢false outside)
  fork_resumes placed (process_forked next at new prepares is) keeps outside other stays = absurd (true≢false outside)
  fork_resumes placed (process_not_forked next at prepares) keeps outside other stays = absurd (true≢false outside)
  fork_resumes placed (fork_failed frame result child at returns) keeps outside other stays = absurd (true≢false outside)
  fork_resumes placed (fork_returned frame result child at value) keeps outside other stays = absurd (true≢false outside)
  fork_resumes placed (fork_begun frame result child unbegun) keeps outside other stays = absurd (true≢false other)
  -- the thread begins to end, or to exit its process
  fork_resumes placed (main_returned frame s v returned is once) keeps outside other stays = absurd (true≢false stays)
  fork_resumes placed (start_returned frame s v returned is) keeps outside other stays = absurd (true≢false stays)
  fork_resumes placed (canceled next delivered where_it_may) keeps outside other stays = absurd (true≢false stays)
  fork_resumes placed (canceled_at_point next index delivered) keeps outside other stays = absurd (true≢false stays)
  fork_resumes placed (canceled_in_join next id delivered) keeps outside other stays = absurd (true≢false stays)
  fork_resumes placed (canceled_in_sem_wait next sem delivered) keeps outside other stays = absurd (true≢false stays)
  fork_resumes placed (canceled_in_waitpid next pid delivered) keeps outside other stays = absurd (true≢false stays)
  fork_resumes placed (ended_in_wait next c m free) keeps outside other stays = absurd (true≢false stays)
  fork_resumes placed (exit_called frame v unbegun) keeps outside other stays = absurd (true≢false stays)
  fork_resumes placed (last_ended next none last nothing none_left) keeps outside other stays = absurd (true≢false stays)
  fork_resumes placed (last_ended_with_keys next n none last some limit all none_left) keeps outside other stays = absurd (true≢false stays)
  fork_resumes placed (process_exited frame v once) keeps outside other stays = absurd (true≢false stays)
  fork_resumes placed _ keeps outside other stays = refl
