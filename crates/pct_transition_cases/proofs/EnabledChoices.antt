-- Where a thread has a choice.
use Rattle.pct_names.proofs.Names.{◌&&◌, [], Alt, Bool, called_kind, dtor_or_go, ending_choices, Environment, false, Frame, if◌then◌else◌}
use Rattle.pct_names.proofs.Names.{is_asynchronous, is_blocked, is_create, is_deliverable, is_enabled, is_forbidden_in_child, is_key_create}
use Rattle.pct_names.proofs.Names.{is_optional, is_required, is_signal, left_keys, List, new_keys, new_or_go, pick_or_go, refl}
use Rattle.pct_names.proofs.Names.{running_choices, running_rows, SharedState, Stmt, Thread, true, Waiter, waiters_to_signal, ℕ, ◌∷◌, ◌≡◌}

-- where there is a choice whether a test holds or not
always : (test : Bool) (choices environment : List Alt) → is_enabled choices ≡ true → is_enabled environment ≡ true → is_enabled (if test then choices else environment) ≡ true
always true choices environment some other = some
always false choices environment some other = other

-- there is a choice at pthread_create and at pthread_key_create, at pthread_cond_signal, and between destructors
new_enabled : (numbers : List ℕ) → is_enabled (new_or_go numbers) ≡ true
new_enabled [] = refl
new_enabled (n ∷ numbers) = refl

pick_enabled : (waiters : List Waiter) → is_enabled (pick_or_go waiters) ≡ true
pick_enabled [] = refl
pick_enabled (waiter ∷ waiters) = refl

dtor_enabled : (numbers : List ℕ) → is_enabled (dtor_or_go numbers) ≡ true
dtor_enabled [] = refl
dtor_enabled (n ∷ numbers) = refl

module _ (body : List Stmt) (shared : SharedState) (t : Thread) (environment : Environment) where
  -- a running thread has a choice at each statement that does not block it
  pub running_enabled : (frame : Frame) (s : Stmt) → is_blocked s shared ≡ false → is_enabled (running_choices body shared t environment frame s) ≡ true
  unfolding running_choices running_rows
  running_enabled frame s free =
      always (is_forbidden_in_child body shared frame s) _ _ refl
      (always (is_asynchronous t.state t.mode) _ _ refl
      (always (is_deliverable t.state t.pending && is_required (called_kind s)) _ _ refl
      (always (is_deliverable t.state t.pending && is_optional (called_kind s)) _ _ refl
      (rw free
      (always (is_create s) _ _ (new_enabled environment.new_ids)
      (always (is_key_create s) _ _ (new_enabled (new_keys shared.keys))
      (always (is_signal s) _ _ (pick_enabled (waiters_to_signal environment s)) refl)))))))

  -- an ending thread has a choice
  pub ending_enabled : (handlers : List (ℕ × ℕ)) → is_enabled (ending_choices body shared t environment handlers) ≡ true
  unfolding ending_choices
  ending_enabled [] = dtor_enabled (left_keys shared.keys t.specific)
  ending_enabled (handler ∷ handlers) = refl
