-- What a transition makes: a thread and a key with the number of the choice, and a process with the id of a new one, if there are any.
use Rattle.pct_names.proofs.Names.{acts_or, Alt, choices_at, Environment, List, list_any, nat_eq, new_keys, NewThread, NextStatement, None}
use Rattle.pct_names.proofs.Names.{offers, Option, ProcessAction, refl, SharedAction, SharedState, Some, Status, Stmt, Thread, Transition}
use Rattle.pct_names.proofs.Names.{transition_at, true, ℕ, ◌≡◌}
use Rattle.std.proofs.lemmas.Bool.{true≢false}
use Rattle.pct_model.specs.declared.transition.ProcessAction.TheVariants as process_action
use Rattle.pct_model.specs.declared.transition.SharedAction.TheVariants as shared_action
use Rattle.pct_transition_cases.proofs.TransitionCases.{TransitionCase, thread_made, key_made, process_forked}
use Rattle.pct_transition_cases.proofs.CaseOfTransition.{case_of}

module _ (P : ℕ → Type 0) where
  -- the id of the thread that is created, if there is one, has a property
  abbrev pub Creates : Option NewThread → Type 0
  Creates None = Unit {0}
  Creates (Some new) = P new.id

  -- the number of the key that an action makes, if it makes one, has a property
  abbrev pub MakesKey : Option SharedAction → Type 0
  MakesKey (Some (shared_action.MakeKey k destructor)) = P k
  MakesKey _ = Unit {0}

  -- the id of the process that an action makes, if it makes one, has a property
  abbrev pub MakesProcess : Option ProcessAction → Type 0
  MakesProcess (Some (process_action.Make pid)) = P pid
  MakesProcess _ = Unit {0}

-- a transition creates at most one thread, whose id has the first property; it makes at most one key, whose number has the second, and at
-- most one process, whose id has the third
pub record MakesWith (P Q R : ℕ → Type 0) (o : Transition) : Type 0 where
  pub thread : Creates P o.created
  pub key : MakesKey Q o.shared
  pub process : MakesProcess R o.process

-- ---- transitions by a choice that is offered

module _ (P Q R : ℕ → Type 0) where
  module _ (passes : ℕ) (body : List Stmt) (shared : SharedState) (t : Thread) (environment : Environment) (new : (n : ℕ) → list_any (nat_eq n) environment.new_ids ≡ true → P n) (made : (k : ℕ) → list_any (nat_eq k) (new_keys shared.keys) ≡ true → Q k) (forked : (pid : ℕ) → environment.family.new_pid ≡ Some pid → R pid) where
    case_makes : {next : NextStatement} {s : Status} {o : Transition} → TransitionCase passes body shared t environment true next s o → MakesWith P Q R o
    case_makes (thread_made frame result id f v detached n among) = record { thread = new n (among refl); key = tt; process = tt }
    case_makes (key_made frame result key destructor k among) = record { thread = tt; key = made k (among refl); process = tt }
    case_makes (process_forked next at child prepares is) = record { thread = tt; key = tt; process = forked child is }
    case_makes _ = record { thread = tt; key = tt; process = tt }

    -- the transition of a thread by a choice that is offered: a thread that it creates has one of the ids for a new thread, a key that
    -- it makes one of the numbers for a new key, and a process that it makes the id of a new one
    pub transition_makes : (choice : Alt) (next : NextStatement) (s : Status) → offers (choices_at body shared t environment next s) choice ≡ true → MakesWith P Q R (acts_or choice s (transition_at passes body shared t environment choice next s))
    transition_makes choice next s offered = case_makes (case_of passes body shared t environment true choice next s (λ known. offered))
