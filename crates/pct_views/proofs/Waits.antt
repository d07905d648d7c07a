-- What a thread waits for, by its status and its next statement.
use Rattle.pct_names.proofs.Names.{Bool, cond, Environment, false, Frame, None, not, refl, SharedState, Some, StatementIn, Stmt, true, ℕ}
use Rattle.pct_names.proofs.Names.{◌≡◌}
use Rattle.pct_model.specs.declared.statement.Stmt.TheVariants as statement
use Rattle.pct_view_laws.specs.declared.wait.Wait.{Wait}
use Rattle.pct_view_laws.specs.Waits.{wait_at}

-- a wait that is over unless a test holds
pub over_unless : (test : Bool) (w : Wait) → cond (not test) None (Some w) ≡ cond test (Some w) None
over_unless true w = refl
over_unless false w = refl

-- a thread without a choice waits for nothing at another statement than pthread_mutex_lock and pthread_once
pub nothing_elsewhere : (shared : SharedState) (environment : Environment) (frame : Frame) (s : Stmt) → ((m : ℕ) → s ≡ statement.Lock m → ⊥) → ((o f : ℕ) → s ≡ statement.CallOnce o f → ⊥)
    → wait_at shared environment (StatementIn frame s) ≡ None
unfolding wait_at
nothing_elsewhere shared environment frame (statement.Lock m) no_lock no_once = absurd (no_lock m refl)
nothing_elsewhere shared environment frame (statement.CallOnce o f) no_lock no_once = absurd (no_once o f refl)
nothing_elsewhere shared environment frame _ no_lock no_once = refl
