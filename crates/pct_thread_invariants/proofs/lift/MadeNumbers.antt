-- The numbers of processes and threads, and the threads and forks of a run's events, after every run.
use Rattle.pct_names.proofs.Names.{◌&&◌, ap₂, Bool, cond, Config, Event, false, false_from_ne_true, false≢true, ForksMade, is_some, List}
use Rattle.pct_names.proofs.Names.{list_any, list_any_at, made_process, made_thread, None, NumbersThreads, Option, option_and_then, or_left}
use Rattle.pct_names.proofs.Names.{or_right, Process, refl, Script, slice_index_or, Some, sym, Thread, thread_with, true, What, World, ◌||◌}
use Rattle.pct_names.proofs.Names.{ℕ, ◌∙◌, ◌≡◌}
use Rattle.std.proofs.Common.{eq-eqb}
use Rattle.std.specs.Option.{IsSomeAnd}
use Rattle.pct_model.specs.declared.event.What.TheVariants as what
use Rattle.pct_laws.specs.KnownThreads.{is_own, is_fork_of, makes_process}
use Rattle.pct_thread_invariants.proofs.lift.TakenSteps.{AfterEveryRun}
use Rattle.pct_thread_invariants.proofs.lift.ProcessIds.{have_pids}
use Rattle.pct_thread_invariants.proofs.lift.ReportedBy.{reported_by, ThreadReading, of_thread, is_thread_reading}
use Rattle.pct_thread_invariants.proofs.lift.EveryProcess.{ids_of_run}
use Rattle.pct_thread_invariants.proofs.lift.EveryThread.{OfThread, IsThreadRule, every_thread}

-- ---- the threads of events

-- a thread has an event, or is the replica of a thread that forks
abbrev is_mentioned : ℕ → ℕ → List Event → Bool
is_mentioned pid tid events = list_any (λ e. is_own pid tid e || is_fork_of pid tid e) events

abbrev mentioned : ThreadReading Bool
mentioned = record { start = false; next = λ w k. true; inherits = true; replica = λ parent k. true }

one_mention : (own fork k : Bool) → ((own || fork) || k) ≡ cond own true (cond fork true k)
one_mention true fork k = refl
one_mention false true k = refl
one_mention false false k = refl

mentioned_reading : (tid pid : ℕ) (events : List Event) → is_mentioned pid tid events ≡ reported_by (of_thread mentioned tid) pid events
mentioned_reading tid = is_thread_reading mentioned tid (λ pid events. is_mentioned pid tid events) (λ pid. refl) (λ pid e earlier. one_mention (is_own pid tid e) (is_fork_of pid tid e) (is_mentioned pid tid earlier))

mentioned_rule : (script : Script) (config : Config) → IsThreadRule mentioned (λ t k. Unit {0}) script config (λ p. Unit {0})
mentioned_rule script config = record { initial = tt; created = λ w p t k choice new nothing offered holds makes. tt; named = λ a t k holds. tt; kept = λ w p t k choice nothing offered holds. tt; replica = λ w p t k at nothing forks holds. tt }

here_by : (found : Option Thread) (k : Bool) → OfThread mentioned (λ t k. Unit {0}) found k → k ≡ true → IsSomeAnd found (λ t. t.gone ≡ false)
here_by None k none is = absurd (false≢true (sym none ∙ is))
here_by (Some t) k of is = false_from_ne_true t.gone (λ gone. false≢true (sym (of.gone gone) ∙ is))

-- ---- forks

with_thread : (tid : ℕ) (found : Option Process) → IsSomeAnd (option_and_then (thread_with tid) found) (λ t. t.gone ≡ false) → is_some found ≡ true
with_thread tid None none = absurd none
with_thread tid (Some p) here = refl

fork_made : (w : World) (tid : ℕ) (x : What) → ((pid : ℕ) → makes_process pid x ≡ true → IsSomeAnd (made_thread pid tid w) (λ t. t.gone ≡ false)) → ForksMade w x
fork_made w tid (what.Forked child) made = with_thread tid (made_process child w) (made child (eq-eqb child child refl))
fork_made w tid _ made = tt

-- ---- every run

-- after every run, a thread that is mentioned was made, and its process inherited it
mentioned_of_run : (script : Script) (config : Config) → AfterEveryRun script config (λ r. (pid tid : ℕ) → is_mentioned pid tid r.events ≡ true → IsSomeAnd (made_thread pid tid r.world) (λ t. t.gone ≡ false))
mentioned_of_run script config entries r is pid tid mentions =
    here_by (made_thread pid tid r.world) (reported_by (of_thread mentioned tid) pid r.events) (every_thread mentioned (λ t k. Unit {0}) script config (λ p. Unit {0}) (mentioned_rule script config) (λ entries r is pid p made. tt) entries r is pid tid)
    (sym (mentioned_reading tid pid r.events) ∙ mentions)

-- the numbers after every run, and the threads and forks of its events
pub numbers_of_run : (script : Script) (config : Config) → AfterEveryRun script config (λ r. NumbersThreads config.slots r.world r.events)
numbers_of_run script config entries r is = record {
  processes = (have_pids script config entries r is).numbers;
  threads = λ pid p made. (ids_of_run script config entries r is pid p made).numbers;
  of_threads = λ k d low.
      let x : Event = slice_index_or r.events k d in
      mentioned_of_run script config entries r is x.pid x.tid (list_any_at (λ e. is_own x.pid x.tid e || is_fork_of x.pid x.tid e) r.events k d low
      (or_left (is_own x.pid x.tid x) (is_fork_of x.pid x.tid x) (ap₂ (λ (a b : Bool). a && b) (eq-eqb x.pid x.pid refl) (eq-eqb x.tid x.tid refl))));
  forks = λ k d low.
      let x : Event = slice_index_or r.events k d in
      fork_made r.world x.tid x.what (λ pid makes. mentioned_of_run script config entries r is pid x.tid (list_any_at (λ e. is_own pid x.tid e || is_fork_of pid x.tid e) r.events k d low
      (or_right (is_own pid x.tid x) (is_fork_of pid x.tid x) (ap₂ (λ (a b : Bool). a && b) (eq-eqb x.tid x.tid refl) makes))));
}
