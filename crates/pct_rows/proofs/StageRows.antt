-- Made steps that keep the law of the stages of an end with a limit of four passes, and its law of values, and made steps that do not. Each
-- step that does not differs from one that does in one thing, and has the name of the sentence that it breaks.
use Rattle.pct_names.proofs.Names.{[], ap, arith, Bool, codes, false, false≢true, first_process, Frame, Func, is_static, IsTrue, KeyPlace}
use Rattle.pct_names.proofs.Names.{List, map, new_frame, new_shared, new_thread, None, none-some, Option, option_map_or, Process, refl}
use Rattle.pct_names.proofs.Names.{Script, slice_get, Some, Stmt, suc, sym, Thread, true, value_at, What, zero, ℕ, ◌∷◌, ◌≡◌}
use Rattle.pct_model.specs.declared.event.What.TheVariants as what
use Rattle.pct_model.specs.declared.state.FrameKind.TheVariants as kind
use Rattle.pct_model.specs.declared.state.Status.TheVariants as status
use Rattle.pct_model.specs.declared.statement.Operand.TheVariants as operand
use Rattle.pct_model.specs.declared.statement.Stmt.TheVariants as statement
use Rattle.pct_model.specs.declared.stop.Why.TheVariants as why
use Rattle.pct_laws.specs.Ends.{count_due, each_may_begin, is_due, KeepsValue, KeepsValues}
use Rattle.pct_laws.specs.ThreadSteps.{ThreadStep}
use Rattle.pct_rows.proofs.ExampleScripts.{smallest}
use Rattle.pct_rows.proofs.OnLiterals.{checks_on_literals, runs_on_literals}

-- ---- steps

-- a key with a number and a destructor, if it has one
abbrev key : ℕ → Option ℕ → KeyPlace
key number destructor = record { made = 1; key = Some (record { number = number; destructor = destructor }) }

-- a process with these keys and threads
abbrev process : List KeyPlace → List Thread → Process
process keys threads = record (first_process smallest) { threads = threads; shared = record (new_shared smallest) { keys = keys } }

-- the keys 1 and 3 have the destructor 4, and key 2 has none
abbrev keys : List KeyPlace
keys = key 1 (Some 4) ∷ key 2 None ∷ key 3 (Some 4) ∷ []

-- thread 1, which is ending and has no handler left, in this pass over the destructors, with these values of the keys; the pass has these
abbrev ending : ℕ → List ℕ → List Bool → Thread
ending pass values in_pass = record (new_thread 1 false (new_frame 0 0 kind.Start)) { status = status.Ending; frames = []; pass = pass; specific = record { values = values; in_pass = in_pass } }

-- a new thread, which has not ended
abbrev another : ℕ → Thread
another id = new_thread id false (new_frame 0 0 kind.Start)

-- a step of a thread with these events, in a process with these keys and one other thread; that is a new one, and the thread stays as it is,
-- where nothing else is said
abbrev step_to : Thread → Thread → Thread → List What → ThreadStep
step_to beside before after events = record {
  pid = 1;
  tid = 1;
  earlier = [];
  process = process keys (before ∷ beside ∷ []);
  before = before;
  process_after = process keys (after ∷ beside ∷ []);
  after = after;
  events = events;
}

abbrev step_beside : Thread → Thread → List What → ThreadStep
step_beside beside before events = step_to beside before before events

abbrev step : Thread → List What → ThreadStep
step before events = step_beside (another 2) before events

-- the law of a step
abbrev keeps : ThreadStep → Bool
keeps s = each_may_begin 4 s

-- a call that goes on
abbrev calling : List Frame
calling = new_frame 3 30 kind.Handler ∷ []

-- the keys that are due, by their places, in a thread with these values: not key 2, which has no destructor
all_with_a_destructor : map (is_due keys (record { values = 7 ∷ 7 ∷ 7 ∷ 7 ∷ []; in_pass = [] })) (0 ∷ 1 ∷ 2 ∷ 3 ∷ []) ≡ true ∷ false ∷ true ∷ false ∷ []
all_with_a_destructor = refl

and_none_that_is_NULL : map (is_due keys (record { values = 0 ∷ 0 ∷ []; in_pass = [] })) (0 ∷ 1 ∷ 2 ∷ 3 ∷ []) ≡ false ∷ false ∷ false ∷ false ∷ []
and_none_that_is_NULL = refl

-- the number of keys that are due: those with a destructor and a value that is not NULL
due : map (λ values. count_due keys (ending 0 values [])) ([] ∷ (7 ∷ []) ∷ (0 ∷ 7 ∷ []) ∷ (7 ∷ 7 ∷ 0 ∷ []) ∷ (7 ∷ 7 ∷ 7 ∷ []) ∷ []) ≡ 0 ∷ 1 ∷ 0 ∷ 1 ∷ 2 ∷ []
due = refl

-- ---- handlers

-- a thread with a handler left
abbrev with_handler : Thread
with_handler = record (ending 0 [] []) { handlers = (3, 30) ∷ [] }

abbrev handler_runs : Thread → ThreadStep
handler_runs before = step before (what.HandlerRun 3 30 ∷ [])

handler_may_run : keeps (handler_runs with_handler) ≡ true
handler_may_run = refl

a_handler_runs_in_an_ending_thread : keeps (handler_runs (record with_handler { status = status.Running })) ≡ false
a_handler_runs_in_an_ending_thread = refl

after_the_handler_before_returned : keeps (handler_runs (record with_handler { frames = calling })) ≡ false
after_the_handler_before_returned = refl

-- ---- passes

-- a thread that has the value 7 of the keys 1 and 3, before its first pass, in its first pass with neither left, and with the second left
abbrev before_passes : Thread
before_passes = ending 0 (7 ∷ 0 ∷ 7 ∷ []) []

abbrev after_a_pass : Thread
after_a_pass = ending 1 (7 ∷ 0 ∷ 7 ∷ []) []

abbrev in_a_pass : Thread
in_a_pass = ending 1 (7 ∷ 0 ∷ 7 ∷ []) (false ∷ false ∷ true ∷ [])

-- the next pass begins with the keys 1 and 3
abbrev in_pass : ℕ → Thread
in_pass n = ending n (7 ∷ 0 ∷ 7 ∷ []) (true ∷ false ∷ true ∷ [])

abbrev pass_begins : ℕ → Thread → ThreadStep
pass_begins n before = step_to (another 2) before (in_pass n) (what.PassBegun n ∷ [])

first_pass_may_begin : keeps (pass_begins 1 before_passes) ≡ true
first_pass_may_begin = refl

next_pass_may_begin : keeps (pass_begins 2 after_a_pass) ≡ true
next_pass_may_begin = refl

after_the_last_handler_returned : keeps (pass_begins 1 (record before_passes { frames = calling })) ≡ false
after_the_last_handler_returned = refl

with_no_handler_left : keeps (pass_begins 1 (record before_passes { handlers = (3, 30) ∷ [] })) ≡ false
with_no_handler_left = refl

with_no_key_left_in_the_pass : keeps (pass_begins 2 in_a_pass) ≡ false
with_no_key_left_in_the_pass = refl

with_keys_due : keeps (pass_begins 1 (ending 0 (0 ∷ 7 ∷ 0 ∷ []) [])) ≡ false
with_keys_due = refl

a_pass_has_the_next_number : keeps (pass_begins 1 after_a_pass) ≡ false
a_pass_has_the_next_number = refl

it_takes_a_key : keeps (step_to (another 2) before_passes (ending 1 (7 ∷ 0 ∷ 7 ∷ []) []) (what.PassBegun 1 ∷ [])) ≡ false
it_takes_a_key = refl

and_each_key_that_is_due : keeps (step_to (another 2) before_passes (ending 1 (7 ∷ 0 ∷ 7 ∷ []) (true ∷ false ∷ false ∷ [])) (what.PassBegun 1 ∷ [])) ≡ false
and_each_key_that_is_due = refl

-- ---- destructors

abbrev destructor_runs : ℕ → Thread → ThreadStep
destructor_runs pass before = step before (what.DtorRun pass 3 4 7 ∷ [])

destructor_may_run : keeps (destructor_runs 1 in_a_pass) ≡ true
destructor_may_run = refl

after_the_destructor_before_returned : keeps (destructor_runs 1 (record in_a_pass { frames = new_frame 4 7 kind.Destructor ∷ [] })) ≡ false
after_the_destructor_before_returned = refl

and_with_no_handler_left : keeps (destructor_runs 1 (record in_a_pass { handlers = (3, 30) ∷ [] })) ≡ false
and_with_no_handler_left = refl

in_the_pass_of_its_thread : keeps (destructor_runs 2 in_a_pass) ≡ false
in_the_pass_of_its_thread = refl

-- ---- values that are left

-- thread 1 ends after the last pass with two keys due
abbrev with_values : Thread
with_values = ending 4 (7 ∷ 7 ∷ 7 ∷ []) []

abbrev values_left : ℕ → List What
values_left n = what.Leftover n ∷ []

two_left : keeps (step with_values (values_left 2)) ≡ true
two_left = refl

each_due_key_is_counted : keeps (step with_values (values_left 1)) ≡ false
each_due_key_is_counted = refl

and_no_other : keeps (step with_values (values_left 3)) ≡ false
and_no_other = refl

none_is_no_event : keeps (step (ending 4 (0 ∷ 7 ∷ 0 ∷ []) []) (values_left 0)) ≡ false
none_is_no_event = refl

-- ---- ends

-- thread 1 ends
abbrev end : What
end = what.EndedWith 5

-- without keys that are due, in its first pass
abbrev without_values : Thread
without_values = ending 1 (0 ∷ 7 ∷ 0 ∷ []) []

ends_without_values : keeps (step without_values (end ∷ [])) ≡ true
ends_without_values = refl

-- with two keys that are due, after the last pass
ends_with_values : keeps (step with_values (what.Leftover 2 ∷ end ∷ [])) ≡ true
ends_with_values = refl

after_the_last_call_returned : keeps (step (record without_values { frames = calling }) (end ∷ [])) ≡ false
after_the_last_call_returned = refl

it_has_no_handler_left : keeps (step (record without_values { handlers = (3, 30) ∷ [] }) (end ∷ [])) ≡ false
it_has_no_handler_left = refl

-- the last pass, with the key 3 left in it
and_no_key_left_in_the_pass : keeps (step (record in_a_pass { pass = 4 }) (end ∷ what.Leftover 2 ∷ [])) ≡ false
and_no_key_left_in_the_pass = refl

-- the third pass is over
with_keys_due_it_makes_all_passes : keeps (step (ending 3 (7 ∷ 7 ∷ 7 ∷ []) []) (end ∷ what.Leftover 2 ∷ [])) ≡ false
with_keys_due_it_makes_all_passes = refl

also_before_the_first : keeps (step before_passes (end ∷ what.Leftover 2 ∷ [])) ≡ false
also_before_the_first = refl

it_reports_the_keys_that_are_due : keeps (step with_values (end ∷ [])) ≡ false
it_reports_the_keys_that_are_due = refl

and_their_number : keeps (step with_values (end ∷ what.Leftover 3 ∷ [])) ≡ false
and_their_number = refl

-- ---- the last thread

-- thread 2 has ended, or the process did not inherit it
abbrev ended : Thread
ended = record (another 2) { ended = true }

abbrev gone : Thread
gone = record (another 2) { gone = true }

-- it begins to exit the process with 0
the_last_exits : keeps (step_beside ended without_values (end ∷ what.ExitBegun 0 ∷ [])) ≡ true
the_last_exits = refl

the_last_exits_the_process : keeps (step_beside ended without_values (end ∷ [])) ≡ false
the_last_exits_the_process = refl

where_others_are_gone : keeps (step_beside gone without_values (end ∷ [])) ≡ false
where_others_are_gone = refl

with_0 : keeps (step_beside ended without_values (end ∷ what.ExitBegun 5 ∷ [])) ≡ false
with_0 = refl

-- a running thread may exit the process, and one that is ending may not before its end
a_running_thread_exits : keeps (step (record with_handler { status = status.Running }) (what.ExitBegun 5 ∷ [])) ≡ true
a_running_thread_exits = refl

no_ending_thread_does : keeps (step with_handler (what.ExitBegun 5 ∷ [])) ≡ false
no_ending_thread_does = refl

nor_with_no_handler_left : keeps (step_beside ended without_values (what.ExitBegun 0 ∷ [])) ≡ false
nor_with_no_handler_left = refl

-- each event of a step counts, not the first one alone
no_event_is_passed_over : keeps (step with_values (end ∷ values_left 3)) ≡ false
no_event_is_passed_over = refl

-- ---- values that stay

-- `main` emits 5, gives key 1 a value, deletes it, and returns
abbrev statements : List Stmt
statements =
    statement.Emit (operand.Num 5)
    ∷ statement.SetSpecific (operand.Num 1) (operand.Num 8)
    ∷ statement.KeyDelete (operand.Num 1)
    ∷ statement.Return (operand.Num 0)
    ∷ statement.End
    ∷ []

abbrev funcs : List Func
funcs = record { name = codes "main"; locals = codes "x" ∷ []; body = statements } ∷ []

passes : IsTrue (is_static (record { globals = []; mutexes = []; conds = []; sems = []; onces = []; funcs = funcs }))
unfolding checks_on_literals
passes = refl

abbrev script : Script
script = record { globals = []; mutexes = []; conds = []; sems = []; onces = []; funcs = funcs; passes_checks = passes }

-- a running thread at a statement of `main`, with these values
abbrev at : ℕ → List ℕ → Thread
at pc values = record (new_thread 1 false (new_frame 0 0 kind.Main)) { frames = record (new_frame 0 0 kind.Main) { pc = pc } ∷ []; specific = record { values = values; in_pass = false ∷ true ∷ [] } }

-- the law of a step at a place, where the place stays as it is
stays : {s : ThreadStep} → {place : ℕ} → value_at place s.after.specific ≡ value_at place s.before.specific → slice_get s.after.specific.in_pass place ≡ slice_get s.before.specific.in_pass place → KeepsValue script place s
stays same_value same_pass = record { value = λ quiet sets. same_value; in_pass = λ quiet. same_pass }

emits : KeepsValues script (step_to (another 2) (at 0 (7 ∷ 7 ∷ [])) (at 1 (7 ∷ 7 ∷ [])) (what.Emit 5 ∷ []))
emits place = stays refl refl

-- pthread_setspecific, pthread_key_delete, the call of a destructor and a pass change them
sets_it : KeepsValues script (step_to (another 2) (at 1 (7 ∷ 7 ∷ [])) (at 2 (8 ∷ 7 ∷ [])) [])
unfolding runs_on_literals
sets_it zero = record { value = λ quiet sets. absurd (false≢true (sym sets)); in_pass = λ quiet. refl }
sets_it (suc place) = stays refl refl

deletes_its_key : KeepsValues script (step_to (another 2) (at 2 (7 ∷ 7 ∷ [])) (at 3 (0 ∷ 7 ∷ [])) (what.KeyGone 1 ∷ []))
deletes_its_key zero = record { value = λ quiet sets. absurd (false≢true (sym quiet)); in_pass = λ quiet. refl }
deletes_its_key (suc place) = stays refl refl

-- the destructor of key 3 is called, with these values and this pass then
abbrev destroys : List ℕ → List Bool → ThreadStep
destroys values left = step_to (another 2) (in_pass 1) (ending 1 values left) (what.DtorRun 1 3 4 7 ∷ [])

destroys_it : KeepsValues script (destroys (7 ∷ 0 ∷ 0 ∷ []) (true ∷ false ∷ false ∷ []))
destroys_it zero = stays refl refl
destroys_it (suc zero) = stays refl refl
destroys_it (suc (suc zero)) = record { value = λ quiet sets. absurd (false≢true (sym quiet)); in_pass = λ quiet. absurd (false≢true (sym quiet)) }
destroys_it (suc (suc (suc place))) = stays refl refl

takes_its_keys : KeepsValues script (pass_begins 1 before_passes)
takes_its_keys place = record { value = λ quiet sets. refl; in_pass = λ quiet. absurd (false≢true (sym quiet)) }

no_value_changes_at_emit : KeepsValues script (step_to (another 2) (at 0 (7 ∷ 7 ∷ [])) (at 1 (8 ∷ 7 ∷ [])) (what.Emit 5 ∷ [])) → ⊥
unfolding runs_on_literals
no_value_changes_at_emit law = let n : ◌≡◌ {A = ℕ} 8 7 = (law 0).value refl refl in omega arith

nor_that_of_another_key_at_pthread_setspecific : KeepsValues script (step_to (another 2) (at 1 (7 ∷ 7 ∷ [])) (at 2 (8 ∷ 8 ∷ [])) []) → ⊥
unfolding runs_on_literals
nor_that_of_another_key_at_pthread_setspecific law = let n : ◌≡◌ {A = ℕ} 8 7 = (law 1).value refl refl in omega arith

-- nor there, as the thread acts upon a request, or the call is a stop
none_changes_as_the_thread_acts : KeepsValues script (step_to (another 2) (at 1 (7 ∷ 7 ∷ [])) (record (at 1 (8 ∷ 7 ∷ [])) { status = status.Ending; frames = [] }) (what.EndingCanceled ∷ [])) → ⊥
none_changes_as_the_thread_acts law = let n : ◌≡◌ {A = ℕ} 8 7 = (law 0).value refl refl in omega arith

none_changes_at_a_stop : KeepsValues script (step_to (another 2) (at 1 (7 ∷ 7 ∷ [])) (at 1 (8 ∷ 7 ∷ [])) (what.Stopped why.KeyId ∷ [])) → ⊥
none_changes_at_a_stop law = let n : ◌≡◌ {A = ℕ} 8 7 = (law 0).value refl refl in omega arith

nor_as_a_key_is_deleted : KeepsValues script (step_to (another 2) (at 2 (7 ∷ 7 ∷ [])) (at 3 (0 ∷ 0 ∷ [])) (what.KeyGone 1 ∷ [])) → ⊥
unfolding runs_on_literals
nor_as_a_key_is_deleted law = let n : ◌≡◌ {A = ℕ} 0 7 = (law 1).value refl refl in omega arith

nor_as_a_destructor_is_called : KeepsValues script (destroys (0 ∷ 0 ∷ 0 ∷ []) (true ∷ false ∷ false ∷ [])) → ⊥
nor_as_a_destructor_is_called law = let n : ◌≡◌ {A = ℕ} 0 7 = (law 0).value refl refl in omega arith

no_value_changes_as_a_pass_begins : KeepsValues script (step_to (another 2) before_passes (ending 1 (7 ∷ 0 ∷ 0 ∷ []) (true ∷ false ∷ true ∷ [])) (what.PassBegun 1 ∷ [])) → ⊥
no_value_changes_as_a_pass_begins law = let n : ◌≡◌ {A = ℕ} 0 7 = (law 2).value refl refl in omega arith

no_key_leaves_the_pass_without_an_event : KeepsValues script (step_to (another 2) in_a_pass (ending 1 (7 ∷ 0 ∷ 7 ∷ []) []) []) → ⊥
no_key_leaves_the_pass_without_an_event law = absurd (none-some true ((law 2).in_pass refl))

nor_as_the_destructor_of_another_is_called : KeepsValues script (destroys (7 ∷ 0 ∷ 0 ∷ []) (false ∷ false ∷ false ∷ [])) → ⊥
nor_as_the_destructor_of_another_is_called law = absurd (false≢true (ap (λ (o : Option Bool). option_map_or (λ b. b) o true) ((law 0).in_pass refl)))
