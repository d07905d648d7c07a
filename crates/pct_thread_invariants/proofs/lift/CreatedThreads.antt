-- What each transition creates, by the tables: a process only as a thread forks, and a thread only with an id that is offered.
use Rattle.pct_names.proofs.Names.{◌&&◌, ◌+◌, [], Alt, and_left, arith, body_at, Bool, child_by, choices_of, cond_some, Config, Environment}
use Rattle.pct_names.proofs.Names.{environment_of, false, family_among, filter, ForkAt, Forking, forks_by, free_ids, IfSome, is_unreaped}
use Rattle.pct_names.proofs.Names.{length, List, list_any, map, MAX_PROCESSES, nat_eq, nat_lt, NewThread, next_of, NextStatement, None}
use Rattle.pct_names.proofs.Names.{offers, Option, option_map_or, Prepare, Process, refl, Relative, relative_of, reverse, Script}
use Rattle.pct_names.proofs.Names.{SharedState, Some, Status, Stmt, subst, suc, sym, Thread, Transition, transition_by, true, What, World}
use Rattle.pct_names.proofs.Names.{◌||◌, ℕ, ◌∙◌, ◌∷◌, ◌≡◌, ◌≤◌}
use mathlib.Core.Bool.{and-true, or-false}
use Rattle.std.proofs.Common.{ne_eqb}
use Rattle.pct_laws.specs.KnownThreads.{creates_id, makes_process}
use Rattle.pct_transition_cases.proofs.CaseOfTransition.{case_of}
use Rattle.pct_transition_cases.proofs.TransitionCases.{TransitionCase, thread_made, fork_handler_called, process_forked}
use Rattle.pct_thread_invariants.proofs.lift.HandlerEvents.{of_each_phase}

-- ---- the transitions

-- a thread with this status is in fork, before the process is made, and the transition makes the next process, with this id
pub record Forks (w : World) (s : Status) (new : ℕ) (o : Transition) : Type 0 where
  pub at : ForkAt
  pub prepares : at.phase ≡ Prepare
  pub in_fork : s ≡ Forking at
  pub is : o ≡ forks_by at.length (Some new)
  pub is_next : new ≡ 1 + length w.processes

-- the id of the process that a transition of a thread with a status makes, if it makes one
pub data Makes (w : World) (s : Status) (o : Transition) : Option ℕ → Type 0 where
  makes_none : ((tid : ℕ) (p : Process) → child_by tid p o.process ≡ []) → ((pid : ℕ) → list_any (makes_process pid) (reverse o.events) ≡ false) → Makes w s o None
  forks : (new : ℕ) → Forks w s new o → Makes w s o (Some new)

-- a transition that creates a thread only with one of these ids, and with the event that reports it
pub record CreatesOnly (pid : ℕ) (ids : List ℕ) (o : Transition) : Type 0 where
  pub new_id : IfSome o.created (λ new. list_any (nat_eq new.id) ids ≡ true)
  pub reports : (tid : ℕ) (same : Bool) → list_any (λ w. creates_id tid w || (makes_process pid w && same)) (reverse o.events) ≡ option_map_or (λ new. nat_eq new.id tid && true) o.created false

-- a transition from a state makes a process, if it makes one, with the next id
abbrev pub GivesNext : World → Environment → Type 0
GivesNext w environment = (new : ℕ) → environment.family.new_pid ≡ Some new → new ≡ 1 + length w.processes

module _ (w : World) (passes : ℕ) (body : List Stmt) (shared : SharedState) (t : Thread) (environment : Environment) (gives_next : GivesNext w environment) where
  case_makes : {next : NextStatement} {s : Status} {o : Transition} → TransitionCase passes body shared t environment true next s o → (made : Option ℕ) × Makes w s o made
  unfolding child_by forks_by
  case_makes (process_forked next at new prepares is) = (Some new, forks new (record { at = at; prepares = prepares; in_fork = refl; is = refl; is_next = gives_next new is }))
  case_makes (fork_handler_called next at call is) = (None, makes_none (λ tid p. refl) (λ pid. of_each_phase (λ (w : What). list_any (makes_process pid) (w ∷ []) ≡ false) call.func refl refl refl at.phase))
  case_makes _ = (None, makes_none (λ tid p. refl) (λ pid. refl))

  -- no transition of a process that was made makes that process
  case_creates : (pid : ℕ) → pid ≤ length w.processes → {next : NextStatement} {s : Status} {o : Transition} → TransitionCase passes body shared t environment true next s o → CreatesOnly pid environment.new_ids o
  case_creates pid made (thread_made frame result id f v detached n among) = record { new_id = among refl; reports = λ tid same. or-false (nat_eq n tid || false) ∙ or-false (nat_eq n tid) ∙ sym (and-true (nat_eq n tid)) }
  case_creates pid made (process_forked next at new prepares is) =
      let number : new ≡ 1 + length w.processes = gives_next new is in
      let differs : nat_eq new pid ≡ false = ne_eqb new pid (λ same. absurd (omega (arith, number, made, same))) in
      record { new_id = tt; reports = λ tid same. or-false (nat_eq new pid && same) ∙ and_left (nat_eq new pid) same differs }
  case_creates pid made (fork_handler_called next at call is) = record { new_id = tt; reports = λ tid same. of_each_phase (λ (w : What). list_any (λ (x : What). creates_id tid x || (makes_process pid x && same)) (w ∷ []) ≡ false) call.func refl refl refl at.phase }
  case_creates pid made _ = record { new_id = tt; reports = λ tid same. refl }

-- ---- the results

module _ (script : Script) (config : Config) (w : World) (p : Process) (t : Thread) (choice : Alt) (offered : offers (choices_of script config w p t) choice ≡ true) where
  abbrev environment : Environment
  environment = environment_of config w p t.id

  abbrev o : Transition
  o = transition_by script config w p t choice

  its_case : TransitionCase config.passes (body_at script t.frames) p.shared t environment true (next_of script t.frames) t.status o
  its_case = case_of config.passes (body_at script t.frames) p.shared t environment true choice (next_of script t.frames) t.status (λ known. offered)

  pub gives_next : GivesNext w environment
  unfolding environment_of family_among
  gives_next new is =
      let relatives : List Relative = map relative_of (filter is_unreaped w.processes) in
      let same : suc (length w.processes) ≡ new = (cond_some (nat_lt (length relatives) MAX_PROCESSES) (suc (length w.processes)) new is).1 in
      omega (arith, same)

  -- the process that it makes, if it makes one
  pub its_process : (made : Option ℕ) × Makes w t.status o made
  its_process = case_makes w config.passes (body_at script t.frames) p.shared t environment gives_next its_case

  all_of_it : (pid : ℕ) → pid ≤ length w.processes → CreatesOnly pid (free_ids config.slots p.threads) o
  unfolding environment_of
  all_of_it pid made = case_creates w config.passes (body_at script t.frames) p.shared t environment gives_next pid made its_case

  -- a thread is created with the next id of a free slot
  pub creates_with_next_id : (new : NewThread) → o.created ≡ Some new → list_any (nat_eq new.id) (free_ids config.slots p.threads) ≡ true
  creates_with_next_id new is =
      subst (λ (created : Option NewThread). IfSome created (λ (x : NewThread). list_any (nat_eq x.id) (free_ids config.slots p.threads) ≡ true)) is (all_of_it 0 (omega arith)).new_id

  -- the thread that it creates is the one that its events report, also as a replica in its own process, which they do not make
  pub reports_created : (pid : ℕ) → pid ≤ length w.processes → (tid : ℕ) (same : Bool) → list_any (λ w. creates_id tid w || (makes_process pid w && same)) (reverse o.events) ≡ option_map_or (λ new. nat_eq new.id tid && true) o.created false
  reports_created pid made = (all_of_it pid made).reports
