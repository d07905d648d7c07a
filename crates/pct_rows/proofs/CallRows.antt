-- The law of calls. Lists of events that keep its law of keys, and lists that do not, each with the name of the sentence that it breaks; they
-- are listed newest first. And made steps that keep the law of a step, and made steps that do not. In these each step that does not differs
-- from one that does in one thing.
use Rattle.pct_names.proofs.Names.{◌+◌, [], All-from_recursion, AllByRecursion, ap, arith, Bool, codes, cond, Event, false, false≢true}
use Rattle.pct_names.proofs.Names.{first_process, Frame, Func, has_no_frame, is_some, is_static, IsTrue, Key, KeyPlace, length, List}
use Rattle.pct_names.proofs.Names.{nat_eq, new_frame, new_shared, new_thread, None, none-some, Option, option_map_or, Process, refl}
use Rattle.pct_names.proofs.Names.{same_Some, Script, slice_index, Some, Stmt, suc, sym, Thread, true, What, zero, ℕ, ◌∷◌, ◌≡◌}
use Rattle.std.proofs.Common.{ne_eqb}
use Rattle.pct_model.specs.declared.event.What.TheVariants as what
use Rattle.pct_model.specs.declared.state.FrameKind.TheVariants as kind
use Rattle.pct_model.specs.declared.state.Status.TheVariants as status
use Rattle.pct_model.specs.declared.statement.Dest.TheVariants as destination
use Rattle.pct_model.specs.declared.statement.Operand.TheVariants as operand
use Rattle.pct_model.specs.declared.statement.Stmt.TheVariants as statement
use Rattle.pct_laws.specs.Calls.{ChangesKeys, IsCalled, EachIsCalled}
use Rattle.pct_laws.specs.Each.{each}
use Rattle.pct_laws.specs.KeysLaw.{allows}
use Rattle.pct_rows.proofs.Refusals.{refuses}
use Rattle.pct_laws.specs.ThreadSteps.{ThreadStep}
use Rattle.pct_rows.proofs.OnLiterals.{checks_on_literals, runs_on_literals}

-- ---- the law of keys

-- an event of thread 1 of process 1, and of the replica of thread 1 in process 2
abbrev event : What → Event
event w = record { pid = 1; tid = 1; what = w }

abbrev replica : What → Event
replica w = record { pid = 2; tid = 1; what = w }

-- key 1 is made, and is deleted; its destructor 4 is called with 7; and thread 1 makes process 2
abbrev makes : What
makes = what.KeyMade 1

abbrev deletes : What
deletes = what.KeyGone 1

abbrev destroys : What
destroys = what.DtorRun 1 1 4 7

abbrev fork : Event
fork = event (what.Forked 2)

destroyed : each allows (event destroys ∷ event makes ∷ []) ≡ true
destroyed = refl

-- another key is deleted meanwhile
another_is_deleted : each allows (event destroys ∷ event (what.KeyGone 2) ∷ event makes ∷ event (what.KeyMade 2) ∷ []) ≡ true
another_is_deleted = refl

-- a child has the keys of its parent, and keeps them
destroyed_in_a_child : each allows (replica destroys ∷ event deletes ∷ fork ∷ event makes ∷ []) ≡ true
destroyed_in_a_child = refl

destroyed_in_the_parent : each allows (event destroys ∷ replica deletes ∷ fork ∷ event makes ∷ []) ≡ true
destroyed_in_the_parent = refl

no_destructor_is_called_with_NULL : refuses allows (event (what.DtorRun 1 1 4 0) ∷ event makes ∷ []) ≡ true
no_destructor_is_called_with_NULL = refl

its_key_was_made : refuses allows (event destroys ∷ []) ≡ true
its_key_was_made = refl

not_another_key : refuses allows (event destroys ∷ event (what.KeyMade 2) ∷ []) ≡ true
not_another_key = refl

before_the_call : each allows (event makes ∷ event destroys ∷ []) ≡ false
before_the_call = refl

and_not_deleted : refuses allows (event destroys ∷ event deletes ∷ event makes ∷ []) ≡ true
and_not_deleted = refl

a_child_has_no_key_that_was_deleted_before_the_fork : refuses allows (replica destroys ∷ fork ∷ event deletes ∷ event makes ∷ []) ≡ true
a_child_has_no_key_that_was_deleted_before_the_fork = refl

nor_one_that_its_parent_made_after_the_fork : refuses allows (replica destroys ∷ event makes ∷ fork ∷ []) ≡ true
nor_one_that_its_parent_made_after_the_fork = refl

nor_one_that_it_deleted : refuses allows (replica destroys ∷ replica deletes ∷ fork ∷ event makes ∷ []) ≡ true
nor_one_that_it_deleted = refl

a_parent_has_no_key_of_its_child : refuses allows (event destroys ∷ replica makes ∷ fork ∷ []) ≡ true
a_parent_has_no_key_of_its_child = refl

-- ---- a script

-- `main` emits 5, makes a key with the destructor 0, and deletes key 1
abbrev statements : List Stmt
statements = statement.Emit (operand.Num 5) ∷ statement.KeyCreate destination.Drop destination.Drop (Some 0) ∷ statement.KeyDelete (operand.Num 1) ∷ statement.End ∷ []

abbrev function : List ℕ → List Stmt → Func
function name body = record { name = name; locals = codes "x" ∷ []; body = body }

abbrev funcs : List Func
funcs = function (codes "f") (statement.End ∷ []) ∷ function (codes "main") statements ∷ []

passes : IsTrue (is_static (record { globals = []; mutexes = []; conds = []; sems = []; onces = []; funcs = funcs }))
unfolding checks_on_literals
passes = refl

abbrev script : Script
script = record { globals = []; mutexes = []; conds = []; sems = []; onces = []; funcs = funcs; passes_checks = passes }

-- ---- steps

-- a key with a number and a destructor, on its place
abbrev key : ℕ → ℕ → KeyPlace
key number destructor = record { made = 1; key = Some (record { number = number; destructor = Some destructor }) }

-- key 1 with the destructor 4
abbrev keys : List KeyPlace
keys = key 1 4 ∷ []

-- a process with these keys, where these functions are registered with atexit, the newest first
abbrev process : List KeyPlace → List ℕ → Process
process keys functions = record (first_process script) { shared = record (new_shared script) { keys = keys; exit_functions = functions } }

-- a thread with these frames, and this value of key 1
abbrev thread : List Frame → ℕ → Thread
thread frames value = record (new_thread 1 false (new_frame 0 0 kind.Start)) { frames = frames; specific = record { values = value ∷ []; in_pass = true ∷ [] } }

-- a thread that is ending, and has the value 7 of key 1
abbrev ending : Thread
ending = record (thread [] 7) { status = status.Ending }

-- a step with an event, of a process with these keys and registered functions
abbrev step : List KeyPlace → List ℕ → Thread → What → Thread → ThreadStep
step keys functions before w after = record { pid = 1; tid = 1; earlier = []; process = process keys functions; before = before; process_after = process keys functions; after = after; events = w ∷ [] }

-- what the law asks of this event is what it asks of the step
asked : {keys : List KeyPlace} → {functions : List ℕ} → {before after : Thread} → {w : What} → EachIsCalled (step keys functions before w after) → IsCalled w (step keys functions before w after)
asked {w = w} law = law 0 w (omega arith)

called : (s : ThreadStep) → AllByRecursion (λ w. IsCalled w s) s.events → EachIsCalled s
called s each = All-from_recursion (λ w. IsCalled w s) s.events each

-- ---- destructors

-- the destructor 4 of key 1 with 7
abbrev destructor : Frame
destructor = new_frame 4 7 kind.Destructor

abbrev destructor_runs : What → Thread → Thread → Type 0
destructor_runs w before after = EachIsCalled (step keys [] before w after)

destructor_is_called : destructor_runs destroys ending (thread (destructor ∷ []) 0)
destructor_is_called = called (step keys [] ending destroys (thread (destructor ∷ []) 0)) (record { key = refl; value = refl; null = refl }, tt)

-- the number of a key, and the index of its destructor, counted from 1
abbrev key_number : Option Key → ℕ
key_number key = option_map_or (λ k. k.number) key 0

abbrev destructor_of : Option Key → ℕ
destructor_of key = option_map_or (λ k. option_map_or (λ n. 1 + n) k.destructor 0) key 0

-- the place of key 2 has no key; that of key 129 has key 1
the_key_is_on_its_place : destructor_runs (what.DtorRun 1 2 4 7) (record ending { specific = record { values = 0 ∷ 7 ∷ []; in_pass = true ∷ true ∷ [] } }) (record (thread (destructor ∷ []) 0) { specific = record { values = 0 ∷ 0 ∷ []; in_pass = true ∷ false ∷ [] } }) → ⊥
the_key_is_on_its_place law = absurd (false≢true (ap is_some (asked law).key))

and_has_its_number : destructor_runs (what.DtorRun 1 129 4 7) ending (thread (destructor ∷ []) 0) → ⊥
and_has_its_number law = let n : ◌≡◌ {A = ℕ} 1 129 = ap key_number (asked law).key in omega (arith, n)

the_destructor_is_that_of_the_key : destructor_runs (what.DtorRun 1 1 5 7) ending (thread (new_frame 5 7 kind.Destructor ∷ []) 0) → ⊥
the_destructor_is_that_of_the_key law = let n : ◌≡◌ {A = ℕ} 5 6 = ap destructor_of (asked law).key in omega (arith, n)

it_gets_the_value_of_its_thread : destructor_runs (what.DtorRun 1 1 4 8) ending (thread (new_frame 4 8 kind.Destructor ∷ []) 0) → ⊥
it_gets_the_value_of_its_thread law = let n : ◌≡◌ {A = ℕ} 7 8 = (asked law).value in omega (arith, n)

the_value_is_NULL_then : destructor_runs destroys ending (thread (destructor ∷ []) 7) → ⊥
the_value_is_NULL_then law = let n : ◌≡◌ {A = ℕ} 7 0 = (asked law).null in omega (arith, n)

-- ---- keys that are made and deleted

-- `main` at a statement
abbrev main : ℕ → Thread
main pc = thread (record (new_frame 1 0 kind.Main) { pc = pc } ∷ []) 0

-- it makes a step at a statement, from these keys to those
abbrev key_step : List KeyPlace → ℕ → What → List KeyPlace → ThreadStep
key_step before pc w after = record (step before [] (main pc) w (main (suc pc))) { process_after = process after [] }

abbrev changes : List KeyPlace → ℕ → What → List KeyPlace → Type 0
changes before pc w after = ChangesKeys script (key_step before pc w after)

-- the place of keys 1 and 129 without a key
abbrev without_it : List KeyPlace
without_it = record { made = 1; key = None } ∷ []

made : changes keys 1 (what.KeyMade 2) (key 1 4 ∷ key 2 0 ∷ [])
unfolding runs_on_literals
made zero = refl
made (suc zero) = refl
made (suc (suc place)) = sym (ap (λ (same : Bool). cond same (Some (record { number = 2; destructor = Some 0 })) None) (ne_eqb 1 (suc (suc place)) other))
  where
    other : ◌≡◌ {A = ℕ} 1 (suc (suc place)) → ⊥
    other same = omega (arith, same)

a_key_is_made_at_its_call : changes keys 0 (what.KeyMade 2) (key 1 4 ∷ key 2 0 ∷ []) → ⊥
unfolding runs_on_literals
a_key_is_made_at_its_call law = absurd (false≢true (sym (ap is_some (law 1))))

on_a_place_without_a_key : EachIsCalled (key_step keys 1 (what.KeyMade 129) (key 129 0 ∷ [])) → ⊥
on_a_place_without_a_key law = absurd (false≢true (sym (ap is_some (law 0 (what.KeyMade 129) (omega arith)))))

it_is_there_then : changes keys 1 (what.KeyMade 2) keys → ⊥
unfolding runs_on_literals
it_is_there_then law = absurd (false≢true (ap is_some (law 1)))

with_its_number : changes keys 1 (what.KeyMade 2) (key 1 4 ∷ key 130 0 ∷ []) → ⊥
unfolding runs_on_literals
with_its_number law = let n : ◌≡◌ {A = ℕ} 130 2 = ap key_number (law 1) in omega (arith, n)

and_the_destructor_of_its_call : changes keys 1 (what.KeyMade 2) (key 1 4 ∷ key 2 4 ∷ []) → ⊥
unfolding runs_on_literals
and_the_destructor_of_its_call law = let n : ◌≡◌ {A = ℕ} 5 1 = ap destructor_of (law 1) in omega (arith, n)

deleted : changes keys 2 deletes without_it
deleted zero = refl
deleted (suc place) = none_left (nat_eq 0 (suc place))
  where
    none_left : (same : Bool) → ◌≡◌ {A = Option Key} None (cond same None None)
    none_left true = refl
    none_left false = refl

it_was_there : EachIsCalled (key_step without_it 2 deletes without_it) → ⊥
it_was_there law = absurd (none-some 1 (law 0 deletes (omega arith)))

with_this_number : EachIsCalled (key_step (key 129 4 ∷ []) 2 deletes without_it) → ⊥
with_this_number law = let n : ◌≡◌ {A = ℕ} 129 1 = same_Some 129 1 (law 0 deletes (omega arith)) in omega (arith, n)

and_does_not_stay : changes keys 2 deletes keys → ⊥
and_does_not_stay law = absurd (false≢true (sym (ap is_some (law 0))))

-- a step keeps the keys on places without an event
keys_kept_at_emit : changes keys 0 (what.Emit 5) keys
keys_kept_at_emit place = refl

no_key_changes_without_an_event : changes keys 0 (what.Emit 5) (key 1 5 ∷ []) → ⊥
no_key_changes_without_an_event law = let n : ◌≡◌ {A = ℕ} 6 5 = ap destructor_of (law 0) in omega (arith, n)

nor_as_another_is_made : changes keys 1 (what.KeyMade 2) (key 1 5 ∷ key 2 0 ∷ []) → ⊥
nor_as_another_is_made law = let n : ◌≡◌ {A = ℕ} 6 5 = ap destructor_of (law 0) in omega (arith, n)

nor_as_another_is_deleted : changes (key 1 4 ∷ key 2 4 ∷ []) 2 deletes [] → ⊥
nor_as_another_is_deleted law = absurd (false≢true (ap is_some (law 1)))

-- ---- exit functions

-- the functions 6 and 5 are registered, 6 last
abbrev two : List ℕ
two = 6 ∷ 5 ∷ []

-- a thread that exits its process
abbrev exiting : Thread
exiting = record (thread [] 0) { status = status.Exiting }

-- it calls a function of these
abbrev exit_step : List ℕ → ℕ → ThreadStep
exit_step functions f = step [] functions exiting (what.ExitRun f) (thread (new_frame f 0 kind.ExitFn ∷ []) 0)

exit_function_is_called : EachIsCalled (exit_step two 6)
exit_function_is_called = called (exit_step two 6) ((refl, refl), tt)

the_newest_exit_function_is_called : EachIsCalled (exit_step two 5) → ⊥
the_newest_exit_function_is_called law = let n : ◌≡◌ {A = ℕ} 6 5 = ap (λ (functions : List ℕ). slice_index functions 0) (asked law).0 in omega (arith, n)

one_that_is_registered : EachIsCalled (exit_step [] 6) → ⊥
one_that_is_registered law = let n : ◌≡◌ {A = ℕ} 0 1 = ap (λ (functions : List ℕ). length functions) (asked law).0 in omega (arith, n)

with_no_frame_below : EachIsCalled (step [] two exiting (what.ExitRun 6) (thread (new_frame 6 0 kind.ExitFn ∷ new_frame 0 0 kind.Start ∷ []) 0)) → ⊥
with_no_frame_below law = let n : ◌≡◌ {A = ℕ} 2 1 = (asked law).1 in omega (arith, n)

-- a thread ends its process, where these functions are registered: by exit where none is left, or by _exit
abbrev ends : List ℕ → Thread → ThreadStep
ends functions before = step [] functions before (what.ProcessEnded 0) before

ended_by_exit : EachIsCalled (ends [] exiting)
ended_by_exit = called (ends [] exiting) (λ exits. refl, tt)

ended_by__exit : EachIsCalled (ends two (main 0))
ended_by__exit = called (ends two (main 0)) (λ exits. absurd (false≢true (ap has_no_frame exits)), tt)

exit_ends_the_process_with_no_function_left : EachIsCalled (ends two exiting) → ⊥
exit_ends_the_process_with_no_function_left law = let n : ◌≡◌ {A = ℕ} 2 0 = ap (λ (functions : List ℕ). length functions) (asked law refl) in omega (arith, n)
