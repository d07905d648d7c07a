-- The law of fork handlers: steps that keep it, and steps that do not, each with the name of the sentence that it breaks.
use Rattle.pct_names.proofs.Names.{[], All-from_recursion, ap, arith, codes, false, false≢true, first_process, ForkAt, Forked, ForkHandlers}
use Rattle.pct_names.proofs.Names.{Func, inl, inr, IsTrue, length, List, Main, map, new_frame, new_shared, new_thread, None, none-some}
use Rattle.pct_names.proofs.Names.{Option, Parent, Phase, Prepare, Process, refl, Running, same_Some, Script, Some, Status, subst, sym}
use Rattle.pct_names.proofs.Names.{Thread, What, ℕ, ◌∙◌, ◌∷◌, ◌≡◌, ◌≢◌}
use Rattle.pct_model.specs.declared.event.Caller.TheVariants as caller
use Rattle.pct_model.specs.declared.event.What.TheVariants as what
use Rattle.pct_model.specs.declared.state.FrameKind.TheVariants as kind
use Rattle.pct_model.specs.declared.state.Phase.TheVariants as phase
use Rattle.pct_model.specs.declared.statement.Dest.TheVariants as destination
use Rattle.pct_model.specs.declared.statement.Stmt.TheVariants as statement
use Rattle.pct_laws.specs.ForkLaw.{CallsHandler, EachHandler, fork_of, ForksWithNoneLeft, KeepsFork, left_in, left_to_call}
use Rattle.pct_laws.specs.ThreadSteps.{ThreadStep}
use Rattle.pct_rows.proofs.ExampleScripts.{are_static, forking, function}
use Rattle.pct_rows.proofs.OnLiterals.{checks_on_literals, runs_on_literals}

-- ---- a script whose `main` forks

abbrev funcs : List Func
funcs = function (codes "main") (statement.Fork destination.Drop destination.Drop ∷ []) ∷ []

passes : IsTrue (are_static funcs)
unfolding checks_on_literals
passes = refl

abbrev script : Script
script = record { globals = []; mutexes = []; conds = []; sems = []; onces = []; funcs = funcs; passes_checks = passes }

-- ---- the handlers that are left

-- three registrations: the first has no parent handler, the second has a parent handler alone
abbrev registered : List ForkHandlers
registered =
    record { prepare = Some 10; parent = None; child = Some 30 }
    ∷ record { prepare = None; parent = Some 21; child = None }
    ∷ record { prepare = Some 12; parent = Some 22; child = Some 32 }
    ∷ []

-- before the fork the newest comes first
prepare_handlers : map (λ n. left_in registered phase.Prepare n 3) (3 ∷ 2 ∷ 1 ∷ 0 ∷ []) ≡ (12 ∷ 10 ∷ []) ∷ (10 ∷ []) ∷ (10 ∷ []) ∷ [] ∷ []
prepare_handlers = refl

-- after it the oldest
parent_handlers : map (λ n. left_in registered phase.Parent n 3) (0 ∷ 1 ∷ 2 ∷ 3 ∷ []) ≡ (21 ∷ 22 ∷ []) ∷ (21 ∷ 22 ∷ []) ∷ (22 ∷ []) ∷ [] ∷ []
parent_handlers = refl

child_handlers : map (λ n. left_in registered phase.Child n 3) (0 ∷ 1 ∷ 2 ∷ 3 ∷ []) ≡ (30 ∷ 32 ∷ []) ∷ (32 ∷ []) ∷ (32 ∷ []) ∷ [] ∷ []
child_handlers = refl

-- one that was registered after the call is not called
registered_too_late : (left_in registered phase.Parent 0 2 ≡ 21 ∷ []) × (left_in registered phase.Child 0 2 ≡ 30 ∷ [])
registered_too_late = (refl, refl)

-- ---- steps

-- a thread at the fork, with this status and these kept values
abbrev at_fork : Status → Option ForkAt → Thread
at_fork st kept = record (new_thread 1 false (new_frame 0 0 kind.Main)) { status = st; kept = kept }

-- a step of it with these events
abbrev step_to : Thread → List What → Thread → ThreadStep
step_to before events after =
    let p : Process = record (first_process script) { shared = record (new_shared script) { fork_handlers = registered } } in
    record { pid = 1; tid = 1; earlier = []; process = p; before = before; process_after = p; after = after; events = events }

-- a thread in fork, and one in a handler of its fork
abbrev in_phase : Phase → ℕ → Thread
in_phase at next = at_fork (forking at next 3 0) None

abbrev in_handler : Phase → ℕ → Thread
in_handler at next =
    record (at_fork Running (Some (record { phase = at; next = next; length = 3; answer = 0 }))) { frames = record (new_frame 0 0 kind.ForkFn) { pc = 1 } ∷ new_frame 0 0 kind.Main ∷ [] }

-- it has returned from fork
abbrev returned : Thread
returned = at_fork Running None

-- ---- the call of fork

all_are_left : KeepsFork script (step_to returned [] (in_phase phase.Prepare 3))
unfolding runs_on_literals
all_are_left = record {
  begun = λ calls goes. refl;
  called = All-from_recursion (λ w. EachHandler w (step_to returned [] (in_phase phase.Prepare 3))) [] tt;
  made = λ answer answers. absurd (none-some answer answers);
  returned = λ fork in_fork was none. absurd (false≢true in_fork);
  ends = λ in_fork quiet. absurd (false≢true in_fork);
  resumed = λ outside no_call stays. absurd (false≢true (sym no_call));
  kept = λ no_call no_answer quiet. absurd (false≢true (sym no_call));
}

-- the number of registrations that a fork has left
abbrev left_of : Option ForkAt → ℕ
left_of None = 0
left_of (Some fork) = fork.next

and_not_two_of_three : KeepsFork script (step_to returned [] (in_phase phase.Prepare 2)) → ⊥
unfolding runs_on_literals
and_not_two_of_three law = let n : ◌≡◌ {A = ℕ} 2 3 = ap left_of (law.begun refl refl) in omega (arith, n)

-- ---- handlers

-- the first of the handlers
abbrev first_of : List ℕ → ℕ
first_of [] = 0
first_of (f ∷ fs) = f

the_newest_is_called : CallsHandler phase.Prepare 12 (step_to (in_phase phase.Prepare 3) (what.PrepareRun 12 ∷ []) (in_handler phase.Prepare 2))
the_newest_is_called = record {
  fork = record { phase = phase.Prepare; next = 3; length = 3; answer = 0 };
  next = 2;
  before = refl;
  in_phase = refl;
  after = refl;
  first = refl;
}

-- the handlers that are left to call, of a thread
abbrev left : Option ForkAt → List ℕ
left None = []
left (Some fork) = left_to_call registered fork

-- the handler that is called is the first
called_first : (at : Phase) (f : ℕ) (s : ThreadStep) → s.process.shared.fork_handlers ≡ registered → CallsHandler at f s → left (fork_of s.before) ≡ f ∷ left (fork_of s.after)
called_first at f s is law =
    ap left law.before ∙ subst (λ (hs : List ForkHandlers). left_to_call hs law.fork ≡ f ∷ left_to_call hs (record law.fork { next = law.next })) is law.first
    ∙ ap (λ (found : Option ForkAt). f ∷ left found) (sym law.after)

the_oldest_is_not : CallsHandler phase.Prepare 10 (step_to (in_phase phase.Prepare 3) (what.PrepareRun 10 ∷ []) (in_handler phase.Prepare 0)) → ⊥
the_oldest_is_not law = let n : ◌≡◌ {A = ℕ} 12 10 = ap first_of (called_first phase.Prepare 10 _ refl law) in omega (arith, n)

none_is_passed_over : CallsHandler phase.Prepare 12 (step_to (in_phase phase.Prepare 3) (what.PrepareRun 12 ∷ []) (in_handler phase.Prepare 0)) → ⊥
none_is_passed_over law = let n : ◌≡◌ {A = ℕ} 2 1 = ap (λ (fs : List ℕ). length fs) (called_first phase.Prepare 12 _ refl law) in omega (arith, n)

none_is_called_twice : CallsHandler phase.Parent 21 (step_to (in_phase phase.Parent 2) (what.ParentRun 21 ∷ []) (in_handler phase.Parent 2)) → ⊥
none_is_called_twice law = let n : ◌≡◌ {A = ℕ} 22 21 = ap first_of (called_first phase.Parent 21 _ refl law) in omega (arith, n)

-- a thread in no fork calls none
only_fork_calls_them : CallsHandler phase.Child 30 (step_to returned (what.ChildRun 30 ∷ []) (in_handler phase.Child 1)) → ⊥
only_fork_calls_them law = none-some law.fork law.before

-- ---- the fork, and the return

forks_with_none_left : ForksWithNoneLeft 2 (step_to (in_phase phase.Prepare 0) (what.Forked 2 ∷ []) (at_fork (forking phase.Parent 0 3 2) None))
forks_with_none_left = record {
  fork = record { phase = phase.Prepare; next = 0; length = 3; answer = 0 };
  before = refl;
  prepared = refl;
  none_left = refl;
  after = refl;
}

-- the handlers that are left as a process is made
none_left_then : (answer : ℕ) (s : ThreadStep) → s.process.shared.fork_handlers ≡ registered → ForksWithNoneLeft answer s → left (fork_of s.before) ≡ []
none_left_then answer s is law = ap left law.before ∙ subst (λ (hs : List ForkHandlers). left_to_call hs law.fork ≡ []) is law.none_left

not_with_a_prepare_handler_left : KeepsFork script (step_to (in_phase phase.Prepare 1) (what.Forked 2 ∷ []) (at_fork (forking phase.Parent 0 3 2) None)) → ⊥
not_with_a_prepare_handler_left law = let n : ◌≡◌ {A = ℕ} 1 0 = ap (λ (fs : List ℕ). length fs) (none_left_then 2 _ refl (law.made 2 refl)) in omega (arith, n)

nor_if_it_fails : KeepsFork script (step_to (in_phase phase.Prepare 1) (what.Answer caller.Fork 1 ∷ []) (at_fork (forking phase.Parent 0 3 0) None)) → ⊥
nor_if_it_fails law = let n : ◌≡◌ {A = ℕ} 1 0 = ap (λ (fs : List ℕ). length fs) (none_left_then 0 _ refl (law.made 0 refl)) in omega (arith, n)

the_parent_handlers_are_next : ForksWithNoneLeft 2 (step_to (in_phase phase.Prepare 0) (what.Forked 2 ∷ []) (at_fork (forking phase.Parent 1 3 2) None)) → ⊥
the_parent_handlers_are_next law = let n : ◌≡◌ {A = ℕ} 1 0 = ap left_of law.after in omega (arith, n)

returns_with_none_left : KeepsFork script (step_to (in_phase phase.Parent 3) [] returned)
unfolding runs_on_literals
returns_with_none_left = record {
  begun = λ calls goes. absurd (false≢true calls);
  called = All-from_recursion (λ w. EachHandler w (step_to (in_phase phase.Parent 3) [] returned)) [] tt;
  made = λ answer answers. absurd (none-some answer answers);
  returned = λ fork in_fork was none.
      subst (λ (x : ForkAt). (left_to_call registered x ≡ []) × (x.phase ≢ phase.Prepare)) (same_Some (record { phase = phase.Parent; next = 3; length = 3; answer = 0 }) fork was) (refl, λ is. absurd (cc));
  ends = λ in_fork quiet. refl;
  resumed = λ outside no_call stays. absurd (false≢true (sym outside));
  kept = λ no_call no_answer quiet. inr refl;
}

not_with_a_parent_handler_left : KeepsFork script (step_to (in_phase phase.Parent 2) [] returned) → ⊥
not_with_a_parent_handler_left law =
    let n : ◌≡◌ {A = ℕ} 1 0 = ap (λ (fs : List ℕ). length fs) (law.returned (record { phase = phase.Parent; next = 2; length = 3; answer = 0 }) refl refl refl).0 in omega (arith, n)

nor_with_a_child_handler_left : KeepsFork script (step_to (in_phase phase.Child 1) [] returned) → ⊥
nor_with_a_child_handler_left law =
    let n : ◌≡◌ {A = ℕ} 1 0 = ap (λ (fs : List ℕ). length fs) (law.returned (record { phase = phase.Child; next = 1; length = 3; answer = 0 }) refl refl refl).0 in omega (arith, n)

nor_before_the_fork : KeepsFork script (step_to (in_phase phase.Prepare 0) [] returned) → ⊥
nor_before_the_fork law = (law.returned (record { phase = phase.Prepare; next = 0; length = 3; answer = 0 }) refl refl refl).1 refl

-- with none left, the step without an event is the return
it_returns_then : KeepsFork script (step_to (in_phase phase.Parent 3) [] (in_phase phase.Parent 3)) → ⊥
it_returns_then law = none-some (record { phase = phase.Parent; next = 3; length = 3; answer = 0 }) (sym (law.ends refl refl))

-- ---- the return of a handler

a_handler_returns_to_its_fork : KeepsFork script (step_to (in_handler phase.Prepare 2) [] (in_phase phase.Prepare 2))
unfolding runs_on_literals
a_handler_returns_to_its_fork = record {
  begun = λ calls goes. absurd (false≢true calls);
  called = All-from_recursion (λ w. EachHandler w (step_to (in_handler phase.Prepare 2) [] (in_phase phase.Prepare 2))) [] tt;
  made = λ answer answers. absurd (none-some answer answers);
  returned = λ fork in_fork was none. absurd (false≢true in_fork);
  ends = λ in_fork quiet. absurd (false≢true in_fork);
  resumed = λ outside no_call stays. refl;
  kept = λ no_call no_answer quiet. inl refl;
}

not_to_a_call_of_fork : KeepsFork script (step_to (in_handler phase.Prepare 2) [] returned) → ⊥
unfolding runs_on_literals
not_to_a_call_of_fork law = none-some (record { phase = phase.Prepare; next = 2; length = 3; answer = 0 }) (law.resumed refl refl refl)

nor_past_another_handler : KeepsFork script (step_to (in_handler phase.Parent 1) [] (in_phase phase.Parent 2)) → ⊥
unfolding runs_on_literals
nor_past_another_handler law = let n : ◌≡◌ {A = ℕ} 2 1 = ap left_of (law.resumed refl refl refl) in omega (arith, n)

-- its thread begins to end in it: a step that the law allows
an_end_ends_the_fork : KeepsFork script (step_to (in_handler phase.Prepare 2) (what.EndingCanceled ∷ []) returned)
unfolding runs_on_literals
an_end_ends_the_fork = record {
  begun = λ calls goes. absurd (false≢true calls);
  called = All-from_recursion (λ w. EachHandler w (step_to (in_handler phase.Prepare 2) (what.EndingCanceled ∷ []) returned)) (what.EndingCanceled ∷ []) (tt, tt);
  made = λ answer answers. absurd (none-some answer answers);
  returned = λ fork in_fork was none. absurd (false≢true in_fork);
  ends = λ in_fork quiet. absurd (false≢true in_fork);
  resumed = λ outside no_call stays. absurd (false≢true (sym stays));
  kept = λ no_call no_answer quiet. inr refl;
}

-- a step in a handler changes nothing of its fork
a_handler_keeps_its_fork : KeepsFork script (step_to (in_handler phase.Parent 1) (what.Emit 5 ∷ []) (in_handler phase.Parent 3)) → ⊥
unfolding runs_on_literals
a_handler_keeps_its_fork law = elim (law.kept refl refl refl) [
  | inl same ↦ let n : ◌≡◌ {A = ℕ} 3 1 = ap left_of same in omega (arith, n)
  | inr none ↦ none-some (record { phase = phase.Parent; next = 3; length = 3; answer = 0 }) (sym none)
]

-- ---- the answer of fork, until it returns

-- the answer that a fork has got
abbrev answer_of : Option ForkAt → ℕ
answer_of None = 0
answer_of (Some fork) = fork.answer

the_event_gives_the_answer : ForksWithNoneLeft 2 (step_to (in_phase phase.Prepare 0) (what.Forked 2 ∷ []) (at_fork (forking phase.Parent 0 3 3) None)) → ⊥
the_event_gives_the_answer law = let n : ◌≡◌ {A = ℕ} 3 2 = ap answer_of law.after in omega (arith, n)

where_no_process_is_made_it_is_0 : KeepsFork script (step_to (in_phase phase.Prepare 0) (what.Answer caller.Fork 1 ∷ []) (at_fork (forking phase.Parent 0 3 2) None)) → ⊥
where_no_process_is_made_it_is_0 law = let n : ◌≡◌ {A = ℕ} 2 0 = ap answer_of (law.made 0 refl).after in omega (arith, n)

no_handler_changes_it : KeepsFork script (step_to (in_handler phase.Parent 1) [] (at_fork (forking phase.Parent 1 3 2) None)) → ⊥
unfolding runs_on_literals
no_handler_changes_it law = let n : ◌≡◌ {A = ℕ} 2 0 = ap answer_of (law.resumed refl refl refl) in omega (arith, n)

nor_its_call : CallsHandler phase.Parent 21 (step_to (in_phase phase.Parent 0) (what.ParentRun 21 ∷ []) (record (in_handler phase.Parent 2) { kept = Some (record { phase = phase.Parent; next = 2; length = 3; answer = 2 }) })) → ⊥
nor_its_call law =
    let before : 0 ≡ law.fork.answer = ap answer_of law.before in
    let after : 2 ≡ law.fork.answer = ap answer_of law.after in
    omega (arith, before, after)
