-- The law of what the threads of a process share: made steps that keep it, and made steps that do not. Each step that does not differs from
-- one that does in one thing, and has the name of the sentence that it breaks.
use Rattle.pct_names.proofs.Names.{◌++◌, [], ap, arith, Busy, false, ForkHandlers, Fresh, is_fresh, is_none, length, List, map, new_frame}
use Rattle.pct_names.proofs.Names.{new_thread, NextStatement, None, once_at, OnceState, Option, refl, replicate, Running, SharedState}
use Rattle.pct_names.proofs.Names.{slice_index, Some, StatementIn, Status, Stmt, sym, true, What, ℕ, ◌∷◌, ◌≡◌}
use Rattle.std.proofs.lemmas.Bool.{true≢false}
use Rattle.pct_model.specs.declared.event.Caller.TheVariants as caller
use Rattle.pct_model.specs.declared.event.What.TheVariants as what
use Rattle.pct_model.specs.declared.state.FrameKind.TheVariants as kind
use Rattle.pct_model.specs.declared.state.OnceState.TheVariants.{Done}
use Rattle.pct_model.specs.declared.state.Status.TheVariants as status
use Rattle.pct_model.specs.declared.statement.Dest.TheVariants as destination
use Rattle.pct_model.specs.declared.statement.Stmt.TheVariants as statement
use Rattle.pct_laws.specs.SharedLaw.{ChangesShared, onces_after, takes_above_0, times_out_at_0}
use Rattle.pct_laws.specs.ThreadSteps.{ThreadStep}

-- ---- steps of thread 2

-- these owners, counts and exit functions
abbrev shared : List ℕ → List ℕ → List ℕ → SharedState
shared owners counts functions = record { globals = []; owners = owners; counts = counts; onces = []; keys = []; fork_handlers = []; exit_functions = functions; exit_value = None; restricted = false }

abbrev at : Stmt → NextStatement
at s = StatementIn (new_frame 0 0 kind.Start) s

-- mutex 1 has no owner before the step, semaphore 0 the count 3, and function 4 was registered with atexit
abbrev before : SharedState
before = shared (5 ∷ 0 ∷ []) (3 ∷ []) (4 ∷ [])

abbrev Step : List What → Status → Stmt → SharedState → Type 0
Step events s next after = ChangesShared 2 events s (at next) before after

-- ---- owners and counts

a_lock_gives_the_mutex_to_its_thread : Step (what.Acquired 1 ∷ []) Running (statement.Lock 1) (shared (5 ∷ 2 ∷ []) (3 ∷ []) (4 ∷ []))
a_lock_gives_the_mutex_to_its_thread = record { owners = refl; counts = refl; onces = refl; exit_functions = refl; fork_handlers = refl; exit_value = refl; restricted = refl }

and_to_no_other : Step (what.Acquired 1 ∷ []) Running (statement.Lock 1) (shared (5 ∷ 6 ∷ []) (3 ∷ []) (4 ∷ [])) → ⊥
and_to_no_other law = let n : ◌≡◌ {A = ℕ} 6 2 = ap (λ (owners : List ℕ). slice_index owners 1) law.owners in omega (arith, n)

an_unlock_leaves_no_owner : Step (what.Released 0 ∷ []) Running (statement.Unlock 0) (shared (5 ∷ 0 ∷ []) (3 ∷ []) (4 ∷ [])) → ⊥
an_unlock_leaves_no_owner law = let n : ◌≡◌ {A = ℕ} 5 0 = ap (λ (owners : List ℕ). slice_index owners 0) law.owners in omega (arith, n)

a_mutex_stays_with_its_owner : Step [] Running statement.Nop (shared (0 ∷ 0 ∷ []) (3 ∷ []) (4 ∷ [])) → ⊥
a_mutex_stays_with_its_owner law = let n : ◌≡◌ {A = ℕ} 0 5 = ap (λ (owners : List ℕ). slice_index owners 0) law.owners in omega (arith, n)

a_post_counts : Step (what.Posted 0 ∷ []) Running (statement.SemPost 0) (shared (5 ∷ 0 ∷ []) (4 ∷ []) (4 ∷ []))
a_post_counts = record { owners = refl; counts = refl; onces = refl; exit_functions = refl; fork_handlers = refl; exit_value = refl; restricted = refl }

by_one : Step (what.Posted 0 ∷ []) Running (statement.SemPost 0) (shared (5 ∷ 0 ∷ []) (5 ∷ []) (4 ∷ [])) → ⊥
by_one law = let n : ◌≡◌ {A = ℕ} 5 4 = ap (λ (counts : List ℕ). slice_index counts 0) law.counts in omega (arith, n)

a_wait_takes_one : Step (what.Taken 0 ∷ []) (status.InSem 0) (statement.SemWait 0) (shared (5 ∷ 0 ∷ []) (3 ∷ []) (4 ∷ [])) → ⊥
a_wait_takes_one law = let n : ◌≡◌ {A = ℕ} 3 2 = ap (λ (counts : List ℕ). slice_index counts 0) law.counts in omega (arith, n)

one_that_times_out_takes_none : Step (what.Answer caller.SemTimedWait 4 ∷ []) (status.InSem 0) (statement.SemTimedWait destination.Drop 0) before
one_that_times_out_takes_none = record { owners = refl; counts = refl; onces = refl; exit_functions = refl; fork_handlers = refl; exit_value = refl; restricted = refl }

not_even_one : Step (what.Answer caller.SemTimedWait 4 ∷ []) (status.InSem 0) (statement.SemTimedWait destination.Drop 0) (shared (5 ∷ 0 ∷ []) (2 ∷ []) (4 ∷ [])) → ⊥
not_even_one law = let n : ◌≡◌ {A = ℕ} 2 3 = ap (λ (counts : List ℕ). slice_index counts 0) law.counts in omega (arith, n)

an_expired_wait_owns_nothing_yet : Step (what.WaitExpired 0 ∷ []) (status.Waiting 0 1) (statement.CondTimedWait destination.Drop 0 1) (shared (5 ∷ 2 ∷ []) (3 ∷ []) (4 ∷ [])) → ⊥
an_expired_wait_owns_nothing_yet law = let n : ◌≡◌ {A = ℕ} 2 0 = ap (λ (owners : List ℕ). slice_index owners 1) law.owners in omega (arith, n)

-- ---- once controls

-- four controls after an event of thread 2: a call, a return, three ways in which the thread begins to end, an exit, and another event
once_controls : map (λ w. onces_after 2 w (Fresh ∷ Busy 2 ∷ Busy 5 ∷ Done ∷ [])) (what.OnceCalled 0 ∷ what.OnceDone 1 ∷ what.EndingExit 7 ∷ what.EndingCanceled ∷ what.EndingInWait 0 0 ∷ what.ExitBegun 0 ∷ what.Emit 5 ∷ []) ≡ (Busy 2 ∷ Busy 2 ∷ Busy 5 ∷ Done ∷ []) ∷ (Fresh ∷ Done ∷ Busy 5 ∷ Done ∷ []) ∷ replicate 3 (Fresh ∷ Fresh ∷ Busy 5 ∷ Done ∷ []) ++ replicate 2 (Fresh ∷ Busy 2 ∷ Busy 5 ∷ Done ∷ [])
once_controls = refl

-- a step with these events, before and after which a control has these states
abbrev OnceStep : List What → OnceState → OnceState → Type 0
OnceStep events from to = ChangesShared 2 events Running (at statement.Nop) (record before { onces = from ∷ [] }) (record before { onces = to ∷ [] })

-- the thread that the first control is busy with
abbrev runner : List OnceState → ℕ
runner (Busy id ∷ onces) = id
runner _ = 0

an_end_gives_its_controls_up : OnceStep (what.EndingCanceled ∷ []) (Busy 2) Fresh
an_end_gives_its_controls_up = record { owners = refl; counts = refl; onces = refl; exit_functions = refl; fork_handlers = refl; exit_value = refl; restricted = refl }

no_control_is_left_busy : OnceStep (what.EndingCanceled ∷ []) (Busy 2) (Busy 2) → ⊥
no_control_is_left_busy law = let n : ◌≡◌ {A = ℕ} 2 0 = ap runner law.onces in omega (arith, n)

or_done : OnceStep (what.EndingCanceled ∷ []) (Busy 2) Done → ⊥
or_done law = absurd (true≢false (sym (ap (λ (onces : List OnceState). is_fresh (once_at onces 0)) law.onces)))

and_none_of_another_thread_is_given_up : OnceStep (what.EndingCanceled ∷ []) (Busy 5) Fresh → ⊥
and_none_of_another_thread_is_given_up law = let n : ◌≡◌ {A = ℕ} 0 5 = ap runner law.onces in omega (arith, n)

a_control_stays_done : OnceStep [] Done Fresh → ⊥
a_control_stays_done law = true≢false (ap (λ (onces : List OnceState). is_fresh (once_at onces 0)) law.onces)

-- ---- what is taken

-- a step of thread 2 with these events, before which the semaphores have these counts. The law asks nothing of what is there after it
abbrev takes : List ℕ → List What → ThreadStep
takes counts events = record {
  pid = 1;
  tid = 2;
  earlier = [];
  process = record { pid = 1; parent = 0; ended = None; threads = []; shared = shared [] counts [] };
  before = new_thread 2 false (new_frame 0 0 kind.Start);
  process_after = record { pid = 1; parent = 0; ended = None; threads = []; shared = shared [] counts [] };
  after = new_thread 2 false (new_frame 0 0 kind.Start);
  events = events;
}

a_count_above_0_is_taken : takes_above_0 (takes (1 ∷ 0 ∷ []) (what.Taken 0 ∷ [])) ≡ true
a_count_above_0_is_taken = refl

and_not_one_that_is_0 : takes_above_0 (takes (1 ∷ 0 ∷ []) (what.Taken 1 ∷ [])) ≡ false
and_not_one_that_is_0 = refl

nor_one_that_is_not_there : takes_above_0 (takes (1 ∷ 0 ∷ []) (what.Taken 2 ∷ [])) ≡ false
nor_one_that_is_not_there = refl

a_post_begins_at_any_count : takes_above_0 (takes (1 ∷ 0 ∷ []) (what.Posted 1 ∷ [])) ≡ true
a_post_begins_at_any_count = refl

-- thread 2 waits for this semaphore before the step, in which the time of its wait expires
abbrev times_out : List ℕ → ℕ → ThreadStep
times_out counts sem = record (takes counts (what.Answer caller.SemTimedWait 4 ∷ [])) { before = record (new_thread 2 false (new_frame 0 0 kind.Start)) { status = status.InSem sem } }

a_wait_times_out_at_0 : times_out_at_0 (times_out (1 ∷ 0 ∷ []) 1) ≡ true
a_wait_times_out_at_0 = refl

and_not_while_it_could_take_one : times_out_at_0 (times_out (1 ∷ 0 ∷ []) 0) ≡ false
and_not_while_it_could_take_one = refl

-- ---- what is registered

abbrev atexit : Stmt
atexit = statement.AtExit destination.Drop 6

abbrev atfork : Stmt
atfork = statement.AtFork destination.Drop None (Some 6) None

it_is_the_newest : Step [] Running atexit (shared (5 ∷ 0 ∷ []) (3 ∷ []) (6 ∷ 4 ∷ []))
it_is_the_newest = record { owners = refl; counts = refl; onces = refl; exit_functions = refl; fork_handlers = refl; exit_value = refl; restricted = refl }

not_the_oldest : Step [] Running atexit (shared (5 ∷ 0 ∷ []) (3 ∷ []) (4 ∷ 6 ∷ [])) → ⊥
not_the_oldest law = let n : ◌≡◌ {A = ℕ} 4 6 = ap (λ (functions : List ℕ). slice_index functions 0) law.exit_functions in omega (arith, n)

atexit_registers : Step [] Running atexit before → ⊥
atexit_registers law = let n : ◌≡◌ {A = ℕ} 4 6 = ap (λ (functions : List ℕ). slice_index functions 0) law.exit_functions in omega (arith, n)

unless_it_fails : Step (what.Answer caller.AtExit 1 ∷ []) Running atexit before
unless_it_fails = record { owners = refl; counts = refl; onces = refl; exit_functions = refl; fork_handlers = refl; exit_value = refl; restricted = refl }

an_exit_takes_the_newest : Step (what.ExitRun 4 ∷ []) status.Exiting statement.Nop before → ⊥
an_exit_takes_the_newest law = let n : ◌≡◌ {A = ℕ} 4 0 = ap (λ (functions : List ℕ). slice_index functions 0) law.exit_functions in omega (arith, n)

pthread_atfork_registers : Step [] Running atfork before → ⊥
pthread_atfork_registers law = let n : ◌≡◌ {A = ℕ} 0 1 = ap (λ (handlers : List ForkHandlers). length handlers) law.fork_handlers in omega (arith, n)

as_its_operands_say : Step [] Running atfork (record before { fork_handlers = record { prepare = None; parent = Some 6; child = None } ∷ [] })
as_its_operands_say = record { owners = refl; counts = refl; onces = refl; exit_functions = refl; fork_handlers = refl; exit_value = refl; restricted = refl }

exit_begins_by_its_event : Step [] Running statement.Nop (record before { exit_value = Some 0 }) → ⊥
exit_begins_by_its_event law = true≢false (sym (ap (λ (value : Option ℕ). is_none value) law.exit_value))
