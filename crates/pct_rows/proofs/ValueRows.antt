-- The law of thread-specific data: made steps that keep it, and made steps that do not. Each step that does not differs from one that does in
-- one thing, and has the name of the sentence that it breaks.
use Rattle.pct_names.proofs.Names.{[], ap, arith, Bool, codes, Event, false, false≢true, first_process, is_static, IsTrue, List, map}
use Rattle.pct_names.proofs.Names.{new_frame, new_thread, None, none-some, Process, refl, same_Some, Script, Some, Stmt, sym, Thread, true, value_at}
use Rattle.pct_names.proofs.Names.{What, ℕ, ◌∷◌, ◌≡◌, ◌≢◌}
use Rattle.pct_model.specs.declared.event.What.TheVariants as what
use Rattle.pct_model.specs.declared.state.FrameKind.TheVariants as kind
use Rattle.pct_model.specs.declared.statement.Dest.TheVariants as destination
use Rattle.pct_model.specs.declared.statement.Operand.TheVariants as operand
use Rattle.pct_model.specs.declared.statement.Stmt.TheVariants as statement
use Rattle.pct_model.specs.declared.stop.Why.TheVariants as why
use Rattle.pct_laws.specs.ThreadSteps.{ThreadStep}
use Rattle.pct_laws.specs.ValueLaw.{KeepsProcess, KeepsThread, KeepsThreads, sets_its_value, uses_a_key}
use Rattle.pct_rows.proofs.OnLiterals.{checks_on_literals, runs_on_literals}

-- ---- a script whose `main` sets its value of key 2 to 8, emits 5, and gets its value of key 2

abbrev statements : List Stmt
statements =
    statement.SetSpecific (operand.Num 2) (operand.Num 8)
    ∷ statement.Emit (operand.Num 5)
    ∷ statement.GetSpecific destination.Drop (operand.Num 2)
    ∷ statement.End
    ∷ []

passes : IsTrue (is_static (record { globals = []; mutexes = []; conds = []; sems = []; onces = []; funcs = record { name = codes "main"; locals = codes "x" ∷ []; body = statements } ∷ [] }))
unfolding checks_on_literals
passes = refl

abbrev script : Script
script = record { globals = []; mutexes = []; conds = []; sems = []; onces = []; funcs = record { name = codes "main"; locals = codes "x" ∷ []; body = statements } ∷ []; passes_checks = passes }

-- ---- steps

-- a thread with these values of the keys 1 and 2, at a statement of `main`
abbrev thread : ℕ → ℕ → ℕ → ℕ → Thread
thread id pc first second =
    record (new_thread id false (record (new_frame 0 0 kind.Main) { pc = pc })) { specific = record { values = first ∷ second ∷ []; in_pass = [] } }

-- a process with these threads
abbrev process : List Thread → Process
process threads = record (first_process script) { threads = threads }

-- a step of thread 1 with these events; thread 2 has the values 7 and 7 before it
abbrev step_to : Thread → List What → List Thread → ThreadStep
step_to after events others = record {
  pid = 1;
  tid = 1;
  earlier = [];
  process = process (thread 1 0 7 7 ∷ thread 2 0 7 7 ∷ []);
  before = thread 1 0 7 7;
  process_after = process (after ∷ others);
  after = after;
  events = events;
}

-- ---- keys

-- an event of thread 2
abbrev event : What → Event
event w = record { pid = 1; tid = 2; what = w }

-- a step of thread 1 at a statement of `main`, with these events, after these of thread 2, newest first
abbrev step_at : ℕ → List What → List What → ThreadStep
step_at pc events earlier = record (step_to (thread 1 pc 7 7) events (thread 2 0 7 7 ∷ [])) { earlier = map event earlier; before = thread 1 pc 7 7 }

-- the law of a step at each of the statements
abbrev uses : List What → List What → List Bool
uses events earlier = map (λ (pc : ℕ). uses_a_key script (step_at pc events earlier)) (0 ∷ 1 ∷ 2 ∷ [])

a_key_that_was_made_is_used : uses [] (what.KeyMade 2 ∷ []) ≡ true ∷ true ∷ true ∷ []
unfolding runs_on_literals
a_key_that_was_made_is_used = refl

and_no_other : uses [] (what.KeyMade 1 ∷ []) ≡ false ∷ true ∷ false ∷ []
unfolding runs_on_literals
and_no_other = refl

nor_one_that_was_deleted : uses [] (what.KeyGone 2 ∷ what.KeyMade 2 ∷ []) ≡ false ∷ true ∷ false ∷ []
unfolding runs_on_literals
nor_one_that_was_deleted = refl

a_stop_uses_none : uses (what.Stopped why.KeyId ∷ []) [] ≡ true ∷ true ∷ true ∷ []
unfolding runs_on_literals
a_stop_uses_none = refl

-- ---- pthread_setspecific

sets_the_value : sets_its_value script (step_to (thread 1 1 7 8) [] (thread 2 0 7 7 ∷ [])) ≡ true
unfolding runs_on_literals
sets_the_value = refl

it_sets_no_NULL : sets_its_value script (step_to (thread 1 1 7 0) [] (thread 2 0 7 7 ∷ [])) ≡ false
unfolding runs_on_literals
it_sets_no_NULL = refl

it_sets_something : sets_its_value script (step_to (thread 1 1 7 7) [] (thread 2 0 7 7 ∷ [])) ≡ false
unfolding runs_on_literals
it_sets_something = refl

and_not_for_another_key : sets_its_value script (step_to (thread 1 1 8 7) [] (thread 2 0 7 7 ∷ [])) ≡ false
unfolding runs_on_literals
and_not_for_another_key = refl

a_stop_sets_nothing : sets_its_value script (step_to (thread 1 0 7 7) (what.Stopped why.AsyncCall ∷ []) (thread 2 0 7 7 ∷ [])) ≡ true
unfolding runs_on_literals
a_stop_sets_nothing = refl

-- ---- the threads of the process

differs : ◌≢◌ {A = ℕ} 2 1
differs same = absurd (omega (arith, same))

others_keep_their_values : (place : ℕ) → KeepsThread (step_to (thread 1 1 7 8) [] (thread 2 0 7 7 ∷ [])) place 2 (thread 2 0 7 7)
others_keep_their_values place = record {
  other = λ differs before was quiet. ap (λ (t : Thread). value_at place t.specific) (same_Some (thread 2 0 7 7) before was);
  deleted = λ said. absurd (false≢true said);
  made = λ said. absurd (false≢true said);
  new = λ none. absurd (none-some (thread 2 0 7 7) (sym none));
}

a_value_that_is_set_is_of_its_thread : KeepsThreads (step_to (thread 1 1 7 8) [] (thread 2 1 7 8 ∷ [])) → ⊥
a_value_that_is_set_is_of_its_thread law =
    let n : ◌≡◌ {A = ℕ} 8 7 = (law 1 2 (thread 2 1 7 8) refl).other differs (thread 2 0 7 7) refl refl in omega (arith, n)

a_deleted_key_leaves_NULL : KeepsThreads (step_to (thread 1 1 7 0) (what.KeyGone 2 ∷ []) (thread 2 0 7 7 ∷ [])) → ⊥
a_deleted_key_leaves_NULL law = let n : ◌≡◌ {A = ℕ} 7 0 = (law 1 2 (thread 2 0 7 7) refl).deleted refl in omega (arith, n)

and_only_for_itself : KeepsThreads (step_to (thread 1 1 7 0) (what.KeyGone 2 ∷ []) (thread 2 0 0 0 ∷ [])) → ⊥
and_only_for_itself law =
    let n : ◌≡◌ {A = ℕ} 0 7 = (law 0 2 (thread 2 0 0 0) refl).other differs (thread 2 0 7 7) refl refl in omega (arith, n)

a_new_key_has_NULL : KeepsThreads (step_to (thread 1 1 7 0) (what.KeyMade 2 ∷ []) (thread 2 0 7 7 ∷ [])) → ⊥
a_new_key_has_NULL law = let n : ◌≡◌ {A = ℕ} 7 0 = (law 1 2 (thread 2 0 7 7) refl).made refl in omega (arith, n)

so_has_a_new_thread : KeepsThreads (step_to (thread 1 1 7 7) (what.Created 3 false ∷ []) (thread 2 0 7 7 ∷ thread 3 0 7 0 ∷ [])) → ⊥
so_has_a_new_thread law = let n : ◌≡◌ {A = ℕ} 7 0 = (law 0 3 (thread 3 0 7 0) refl).new refl in omega (arith, n)

-- ---- other processes

-- a step in which thread 1 makes a process
abbrev forks : ThreadStep
forks = step_to (thread 1 0 7 7) (what.Forked 2 ∷ []) (thread 2 0 7 7 ∷ [])

another_process_stays : KeepsProcess forks (Some (process (thread 1 0 6 6 ∷ []))) (process (thread 1 0 6 6 ∷ []))
another_process_stays = (refl, refl)

none_of_its_values_changes : KeepsProcess forks (Some (process (thread 1 0 6 6 ∷ []))) (process (thread 1 0 7 6 ∷ [])) → ⊥
none_of_its_values_changes law = let n : ◌≡◌ {A = ℕ} 7 6 = first_value law.0 in omega (arith, n)
  where
    first_of : List Thread → ℕ
    first_of [] = 0
    first_of (t ∷ threads) = value_at 0 t.specific

    first_value : (thread 1 0 7 6 ∷ []) ≡ (thread 1 0 6 6 ∷ []) → ◌≡◌ {A = ℕ} 7 6
    first_value same = ap first_of same

a_child_has_the_values : KeepsProcess forks None (process (thread 1 0 7 7 ∷ []))
a_child_has_the_values t is = ap (λ (u : Thread). u.specific.values) (sym (same_Some (thread 1 0 7 7) t is))

and_no_others : KeepsProcess forks None (process (thread 1 0 0 0 ∷ [])) → ⊥
and_no_others law = let n : ◌≡◌ {A = ℕ} 0 7 = ap (λ (values : List ℕ). first_of values) (law (thread 1 0 0 0) refl) in omega (arith, n)
  where
    first_of : List ℕ → ℕ
    first_of [] = 0
    first_of (v ∷ values) = v
