-- The mutexes that a script's statements name are mutexes of the script.
use Rattle.pct_names.proofs.Names.{◌<◌, and_parts, encode, false≢true, Frame, length, List, nat_eq, NextStatement, Script, StatementIn, Stmt}
use Rattle.pct_names.proofs.Names.{subst, syntax_of, true, ℕ, ◌≡◌}
use Rattle.std.proofs.Common.{eqb-true}
use Rattle.pct_model.specs.declared.statement.Stmt.TheVariants as statement
use Rattle.pct_laws.specs.Kept.{is_cond_wait_of}
use Rattle.pct_transition_cases.proofs.PlacedStatements.{IsPlaced}
use Rattle.pct_thread_invariants.proofs.thread.NamedWords.{names_there}

module _ (script : Script) where
  -- the mutex is one of the script
  abbrev pub IsMutex : ℕ → Type 0
  IsMutex m = m < length script.mutexes

  -- the mutex of the condition wait that is the next statement of a thread
  pub reacquired_mutex : (c m : ℕ) (next : NextStatement) {frames : List Frame} {body : List Stmt} → IsPlaced script frames body next → is_cond_wait_of c m next ≡ true → IsMutex m
  unfolding encode syntax_of
  reacquired_mutex c m (StatementIn frame (statement.CondWait cond mutex)) placed is =
      subst IsMutex (eqb-true mutex m (and_parts (nat_eq cond c) (nat_eq mutex m) is).1) (names_there script placed).1.0
  reacquired_mutex c m (StatementIn frame (statement.CondTimedWait result cond mutex)) placed is =
      subst IsMutex (eqb-true mutex m (and_parts (nat_eq cond c) (nat_eq mutex m) is).1) (names_there script placed).1.1.0
  reacquired_mutex c m _ placed is = absurd (false≢true is)
