-- The law of pthread_once: lists of events and steps that keep it, and lists and steps that do not, each with the name of the sentence that
-- it breaks; and the threads that run an init routine. Events are listed newest first. Where nothing else is said, they are of control 0.
use Rattle.pct_names.proofs.Names.{[], arith, Bool, Busy, codes, Contents, count_by, Event, false, false≢true, first_process, Fresh}
use Rattle.pct_names.proofs.Names.{if◌then◌else◌, is_static, IsTrue, List, map, new_frame, new_thread, once_at, OnceState, refl, replicate}
use Rattle.pct_names.proofs.Names.{Script, sym, Thread, true, What, ℕ, ◌<◌, ◌∙◌, ◌∷◌, ◌≡◌}
use Rattle.std.proofs.lemmas.Bool.{eqb-true}
use Rattle.pct_model.specs.declared.event.What.TheVariants as what
use Rattle.pct_model.specs.declared.state.FrameKind.TheVariants as kind
use Rattle.pct_model.specs.declared.state.OnceState.TheVariants.{Done}
use Rattle.pct_model.specs.declared.statement.Stmt.TheVariants as statement
use Rattle.pct_laws.specs.Each.{each}
use Rattle.pct_laws.specs.Kept.{is_busy_with, is_routine_of, IsInItsRoutines}
use Rattle.pct_laws.specs.OnceControls.{once_of, routine_returns}
use Rattle.pct_laws.specs.OnceLaw.{allows, returns_after_routine}
use Rattle.pct_laws.specs.ThreadSteps.{ThreadStep}
use Rattle.pct_rows.proofs.ExampleScripts.{function}
use Rattle.pct_rows.proofs.OnLiterals.{checks_on_literals, runs_on_literals}
use Rattle.pct_rows.proofs.Refusals.{refuses}

-- the events keep the law
abbrev keeps : List Event → Bool
keeps events = each allows events

-- they do not: the newest is refused
abbrev refused : List Event → Bool
refused events = refuses allows events

-- ---- lists of events

-- an event of thread 1 of process 1, of another thread of it, and of thread 1 of process 2
abbrev event : What → Event
event w = record { pid = 1; tid = 1; what = w }

abbrev other : What → Event
other w = record { pid = 1; tid = 2; what = w }

abbrev replica : What → Event
replica w = record { pid = 2; tid = 1; what = w }

-- thread 1 makes process 2
abbrev fork : Event
fork = event (what.Forked 2)

-- thread 1 calls the routine, and the routine returns
abbrev called : List Event
called = event (what.OnceCalled 0) ∷ []

abbrev done : List Event
done = event (what.OnceDone 0) ∷ called

-- thread 1 begins to end in the routine: by a request, by pthread_exit, and by a request in a condition wait
abbrev given_up : List (List Event)
given_up = map (λ w. event w ∷ called) (what.EndingCanceled ∷ what.EndingExit 5 ∷ what.EndingInWait 0 0 ∷ [])

-- thread 2 calls the routine
abbrev called_by_another : List Event
called_by_another = other (what.OnceCalled 0) ∷ []

-- it calls the routine after these events, and the routine returns
abbrev done_after : List Event → List Event
done_after earlier = other (what.OnceDone 0) ∷ other (what.OnceCalled 0) ∷ earlier

-- an init routine returns in the replica of the thread that called it
abbrev done_in_child : List Event
done_in_child = replica (what.OnceDone 0) ∷ fork ∷ called

-- ---- calls and returns that may come

called_and_done : keeps done ≡ true
called_and_done = refl

called_again_as_its_thread_ends : map (λ events. keeps (done_after events)) given_up ≡ replicate 3 true
called_again_as_its_thread_ends = refl

-- threads run the routines of several controls at one time, and one of them in the routine of another
by_two_threads : keeps (event (what.OnceDone 0) ∷ other (what.OnceDone 1) ∷ other (what.OnceCalled 1) ∷ called) ≡ true
by_two_threads = refl

in_another_routine : keeps (event (what.OnceDone 0) ∷ event (what.OnceDone 1) ∷ event (what.OnceCalled 1) ∷ called) ≡ true
in_another_routine = refl

-- a child has the controls of its parent at the fork; what becomes of them in one process changes nothing in the other
returned_in_both : keeps (replica (what.OnceDone 0) ∷ event (what.OnceDone 0) ∷ fork ∷ called) ≡ true
returned_in_both = refl

called_in_both : keeps (replica (what.OnceCalled 0) ∷ event (what.OnceDone 0) ∷ event (what.OnceCalled 0) ∷ fork ∷ []) ≡ true
called_in_both = refl

-- ---- calls that may not come

no_routine_is_called_while_it_runs : refused (other (what.OnceCalled 0) ∷ called) ≡ true
no_routine_is_called_while_it_runs = refl

not_even_by_itself : refused (event (what.OnceCalled 0) ∷ called) ≡ true
not_even_by_itself = refl

nor_once_it_has_returned : refused (event (what.OnceCalled 0) ∷ done) ≡ true
nor_once_it_has_returned = refl

by_another_thread_neither : refused (other (what.OnceCalled 0) ∷ done) ≡ true
by_another_thread_neither = refl

-- also if the thread that called it ends later
whatever_becomes_of_its_thread : refused (other (what.OnceCalled 0) ∷ event what.EndingCanceled ∷ done) ≡ true
whatever_becomes_of_its_thread = refl

the_end_of_another_thread_does_not_count : refused (event (what.OnceCalled 0) ∷ other what.EndingCanceled ∷ called) ≡ true
the_end_of_another_thread_does_not_count = refl

nor_does_an_exit : refused (other (what.OnceCalled 0) ∷ event (what.ExitBegun 0) ∷ called) ≡ true
nor_does_an_exit = refl

nor_does_a_return_of_another_routine : refused (other (what.OnceCalled 0) ∷ event (what.OnceDone 1) ∷ event (what.OnceCalled 1) ∷ called) ≡ true
nor_does_a_return_of_another_routine = refl

-- in a child: one that had returned at the fork, one that the replica runs, and one that a thread ran that the child has not
not_in_a_child : map (λ events. refused (replica (what.OnceCalled 0) ∷ fork ∷ events)) (done ∷ called ∷ called_by_another ∷ []) ≡ replicate 3 true
not_in_a_child = refl

no_event_is_passed_over : keeps (event (what.OnceCalled 1) ∷ other (what.OnceCalled 0) ∷ called) ≡ false
no_event_is_passed_over = refl

-- ---- returns that may not come

a_routine_is_called_before_it_returns : refused (event (what.OnceDone 0) ∷ []) ≡ true
a_routine_is_called_before_it_returns = refl

by_the_thread_in_which_it_returns : refused (other (what.OnceDone 0) ∷ called) ≡ true
by_the_thread_in_which_it_returns = refl

and_returns_once : refused (event (what.OnceDone 0) ∷ done) ≡ true
and_returns_once = refl

no_other_routine_returns : refused (event (what.OnceDone 1) ∷ called) ≡ true
no_other_routine_returns = refl

none_after_its_thread_began_to_end : map (λ events. refused (event (what.OnceDone 0) ∷ events)) given_up ≡ replicate 3 true
none_after_its_thread_began_to_end = refl

nor_in_a_child_without_the_call : refused (replica (what.OnceDone 0) ∷ event (what.OnceCalled 0) ∷ fork ∷ []) ≡ true
nor_in_a_child_without_the_call = refl

-- ---- controls, as the events report them

-- busy with its thread from the call on, done by the return, and fresh again as the thread begins to end
states : map (λ events. once_of 1 0 events) ([] ∷ called ∷ done ∷ (event what.EndingCanceled ∷ done) ∷ given_up) ≡ Fresh ∷ Busy 1 ∷ Done ∷ Done ∷ replicate 3 Fresh
states = refl

-- returns of the routine: none of another control, and none in another process
returns : map (λ events. routine_returns 1 0 events) ([] ∷ called ∷ done ∷ (event (what.OnceDone 1) ∷ called) ∷ done_in_child ∷ []) ≡ 0 ∷ 0 ∷ 1 ∷ 0 ∷ 0 ∷ []
returns = refl

-- in a child those before the fork count, and those of its parent after it do not
returns_in_a_child : map (λ events. routine_returns 2 0 events) ((fork ∷ done) ∷ (event (what.OnceDone 0) ∷ fork ∷ called) ∷ done_in_child ∷ []) ≡ 1 ∷ 0 ∷ 1 ∷ []
returns_in_a_child = refl

-- after a call that was given up, that of another thread counts
returns_of_another : map (λ events. routine_returns 1 0 (done_after events)) given_up ≡ replicate 3 1
returns_of_another = refl

-- ---- steps at pthread_once

-- `main` calls pthread_once on a control, with an init routine, and returns
abbrev contents : Contents
contents = record {
  globals = [];
  mutexes = [];
  conds = [];
  sems = [];
  onces = codes "o" ∷ [];
  funcs = function (codes "init") [] ∷ function (codes "main") (statement.CallOnce 0 0 ∷ []) ∷ [];
}

passes : IsTrue (is_static contents)
unfolding checks_on_literals
passes = refl

abbrev script : Script
script = record { globals = []; mutexes = []; conds = []; sems = []; onces = codes "o" ∷ []; funcs = contents.funcs; passes_checks = passes }

-- a step of thread 1 at a statement of `main`, with these events, after those; the law asks nothing of what is there after it
abbrev step : ℕ → List What → List Event → ThreadStep
step pc events earlier = record {
  pid = 1;
  tid = 1;
  earlier = earlier;
  process = first_process script;
  before = record (new_thread 1 false (new_frame 1 0 kind.Main)) { frames = record (new_frame 1 0 kind.Main) { pc = pc } ∷ [] };
  process_after = first_process script;
  after = new_thread 1 false (new_frame 1 0 kind.Main);
  events = events;
}

-- it goes on after one return of the routine, whoever called it
goes_on_after_the_routine : map (λ earlier. returns_after_routine script (step 0 [] earlier)) (done ∷ done_after [] ∷ []) ≡ replicate 2 true
unfolding runs_on_literals
goes_on_after_the_routine = refl

-- and not before its call, while it runs, as it was given up, or after a return in a child alone
not_before_it : map (λ earlier. returns_after_routine script (step 0 [] earlier)) ([] ∷ called ∷ called_by_another ∷ done_in_child ∷ given_up) ≡ replicate 7 false
unfolding runs_on_literals
not_before_it = refl

-- before it the thread may call the routine, and the statement after it asks nothing
calls_it_before : map (returns_after_routine script) (step 0 (what.OnceCalled 0 ∷ []) [] ∷ step 1 [] [] ∷ []) ≡ replicate 2 true
unfolding runs_on_literals
calls_it_before = refl

-- ---- threads that run a routine

busy_with_one : (state : OnceState) (first second : ℕ) → is_busy_with first state ≡ true → is_busy_with second state ≡ true → first ≡ second
busy_with_one (Busy id) first second is_first is_second = sym (eqb-true id first is_first) ∙ eqb-true id second is_second
busy_with_one Fresh first second is_first is_second = absurd (false≢true is_first)
busy_with_one Done first second is_first is_second = absurd (false≢true is_first)

runs_if_some : (b : Bool) (n : ℕ) → n ≡ (if b then 1 else 0) → 0 < n → b ≡ true
runs_if_some true n same some = refl
runs_if_some false n same some = absurd (omega (arith, same, some))

-- in every state that a run reaches, no two threads of a process run the init routine of one control, unless one of them exits the process
pub no_two_run_it : (onces : List OnceState) (t u : Thread) (o : ℕ) → IsInItsRoutines onces t → IsInItsRoutines onces u
    → 0 < count_by (is_routine_of o) t.frames → 0 < count_by (is_routine_of o) u.frames → t.id ≡ u.id
no_two_run_it onces t u o its others runs run =
    busy_with_one (once_at onces o) t.id u.id (runs_if_some _ _ (its o) runs) (runs_if_some _ _ (others o) run)
