-- A known thread with the status of its end that was joined or is detached: the events report that the lifetime of its id is over.
use Rattle.pct_names.proofs.Names.{and_from, ap, Bool, Config, Entry, false, false≢true, is_ended_status, is_some, List, made_process}
use Rattle.pct_names.proofs.Names.{made_thread, None, not, not-true, Option, option_and_then, option_map_or, Process, refl, Run, run}
use Rattle.pct_names.proofs.Names.{Script, Some, Status, sym, Thread, thread_with, true, ◌||◌, ℕ, ◌∙◌, ◌≡◌}
use Rattle.pct_model.specs.declared.state.Status.TheVariants as status
use Rattle.pct_laws.specs.Kept.{ThreadKept}
use Rattle.pct_laws.specs.KnownThreads.{is_known, is_detached, is_joined}
use Rattle.pct_laws.specs.ThreadSummary.{summary_of, thread_ended, is_reclaimed}
use Rattle.pct_thread_invariants.proofs.ThreadsOfRun.{threads_kept}
use Rattle.pct_join_laws.proofs.joins.ReportedFlags.{known_of_run, joined_of_run, detached_of_run}

-- ---- one thread

-- the value of a status of an end
value_in : (s : Status) → is_ended_status s ≡ true → (v : ℕ) × (s ≡ status.Ended v)
value_in (status.Ended v) ended = (v, refl)
value_in _ ended = absurd (false≢true ended)

-- the thread was found, and its process inherited it
pub record IsPresent (found : Option Thread) : Type 0 where
  pub thread : Thread
  pub is : found ≡ Some thread
  pub here : thread.gone ≡ false

-- as it is, where one that is not gone was found
present : (found : Option Thread) → option_map_or (λ t. not t.gone) found false ≡ true → IsPresent found
present None none = absurd (false≢true none)
present (Some t) here = record { thread = t; is = refl; here = not-true t.gone here }

-- ---- every run

module _ (script : Script) (config : Config) (entries : List Entry) (r : Run) (is : run script config entries ≡ Some r) (pid : ℕ) (p : Process) (made : made_process pid r.world ≡ Some p) (tid : ℕ) where
  -- the thread with the id is one of the process
  of_process : made_thread pid tid r.world ≡ thread_with tid p
  of_process = ap (option_and_then (thread_with tid)) made

  -- a known thread is one of the process, which inherited it
  pub known_present : is_known pid tid r.events ≡ true → IsPresent (thread_with tid p)
  known_present known =
      present (thread_with tid p) (sym (known_of_run script config entries r is pid tid ∙ ap (λ (found : Option Thread). option_map_or (λ t. not t.gone) found false) of_process) ∙ known)

  -- if it has the status of its end, and was joined or is detached, the lifetime of its id is over
  pub reclaimed_of_run : (t : Thread) → thread_with tid p ≡ Some t → t.gone ≡ false → is_ended_status t.status ≡ true → (t.joined || t.detached) ≡ true → is_reclaimed pid tid r.events ≡ true
  reclaimed_of_run t found here ended released =
      let kept : ThreadKept script p.shared.keys t (summary_of pid tid r.events) = threads_kept script config entries r is pid tid p t made found here in
      let value = value_in t.status ended in
      and_from (thread_ended pid tid r.events) (is_joined pid tid r.events || is_detached pid tid r.events)
      (ap is_some (kept.value value.0 value.1))
      (ap (λ (b : Bool). b || is_detached pid tid r.events) (sym (joined_of_run script config entries r is pid tid t (of_process ∙ found) here))
      ∙ ap (λ (b : Bool). t.joined || b) (sym (detached_of_run script config entries r is pid tid t (of_process ∙ found) here)) ∙ released)
