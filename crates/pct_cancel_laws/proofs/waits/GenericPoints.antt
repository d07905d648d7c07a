-- A statement that calls a generic cancellation point does not call pthread_cond_wait, pthread_cond_timedwait, pthread_testcancel,
-- pthread_join, sem_wait, sem_timedwait or waitpid, which have statements of their own.
use Rattle.pct_names.proofs.Names.{ap, Bool, cond_timedwait_point, cond_wait_point, encode, false, Frame, has_first_word, has_line}
use Rattle.pct_names.proofs.Names.{join_point, List, nat_eq, point_name, point_of, point_statement, points, refl, Script}
use Rattle.pct_names.proofs.Names.{sem_timedwait_point, sem_wait_point, Some, statement_at, sym, testcancel_point, true, waitpid_point}
use Rattle.pct_names.proofs.Names.{◌||◌, ℕ, ◌∙◌, ◌≡◌}
use Rattle.std.proofs.Common.{eqb-true}
use Rattle.pct_model.specs.declared.statement.Stmt.TheVariants as statement
use Rattle.pct_laws.specs.RequestsLaw.{has_own_return, is_sem_wait_point, is_cond_wait_point}
use Rattle.pct_thread_invariants.proofs.thread.NamedFunctions.{contents, line_of}

module _ (script : Script) where
  -- no line of a script is a generic call of the point
  abbrev NeverSpelled : ℕ → Type 0
  NeverSpelled point = (locals : List (List ℕ)) → has_line (contents script) locals (statement.PointCall point) ≡ false

  -- a statement of the script does not call such a point
  by_index : (point : ℕ) → NeverSpelled point → (frame : Frame) (index : ℕ) → statement_at script frame ≡ Some (statement.PointCall index) → (same : Bool) → nat_eq index point ≡ same → same ≡ false
  by_index point never frame index at false same = refl
  by_index point never frame index at true same =
      let it : index ≡ point = eqb-true index point same in
      let line = line_of script frame (statement.PointCall point) (at ∙ ap (λ (i : ℕ). Some (statement.PointCall i)) it) in
      sym (line.1) ∙ never line.0

  -- pthread_cond_wait, pthread_cond_timedwait and pthread_testcancel are such points
  wait_never : NeverSpelled cond_wait_point
  unfolding has_line has_first_word encode point_statement points point_of point_name
  wait_never locals = refl

  timed_wait_never : NeverSpelled cond_timedwait_point
  unfolding has_line has_first_word encode point_statement points point_of point_name
  timed_wait_never locals = refl

  test_never : NeverSpelled testcancel_point
  unfolding has_line has_first_word encode point_statement points point_of point_name
  test_never locals = refl

  -- so are pthread_join, sem_wait, sem_timedwait and waitpid
  join_never : NeverSpelled join_point
  unfolding has_line has_first_word encode point_statement points point_of point_name
  join_never locals = refl

  sem_wait_never : NeverSpelled sem_wait_point
  unfolding has_line has_first_word encode point_statement points point_of point_name
  sem_wait_never locals = refl

  timed_sem_wait_never : NeverSpelled sem_timedwait_point
  unfolding has_line has_first_word encode point_statement points point_of point_name
  timed_sem_wait_never locals = refl

  waitpid_never : NeverSpelled waitpid_point
  unfolding has_line has_first_word encode point_statement points point_of point_name
  waitpid_never locals = refl

  -- the point of a statement of the script that calls a generic point
  pub is_other_point : (frame : Frame) (index : ℕ) → statement_at script frame ≡ Some (statement.PointCall index) → nat_eq index cond_wait_point ≡ false
  is_other_point frame index at = by_index cond_wait_point wait_never frame index at (nat_eq index cond_wait_point) refl

  pub is_no_timed_wait : (frame : Frame) (index : ℕ) → statement_at script frame ≡ Some (statement.PointCall index) → nat_eq index cond_timedwait_point ≡ false
  is_no_timed_wait frame index at = by_index cond_timedwait_point timed_wait_never frame index at (nat_eq index cond_timedwait_point) refl

  -- it is no condition wait
  pub is_no_cond_wait : (frame : Frame) (index : ℕ) → statement_at script frame ≡ Some (statement.PointCall index) → is_cond_wait_point index ≡ false
  is_no_cond_wait frame index at = ap (λ (b : Bool). b || nat_eq index cond_timedwait_point) (is_other_point frame index at) ∙ is_no_timed_wait frame index at

  pub is_no_test : (frame : Frame) (index : ℕ) → statement_at script frame ≡ Some (statement.PointCall index) → nat_eq index testcancel_point ≡ false
  is_no_test frame index at = by_index testcancel_point test_never frame index at (nat_eq index testcancel_point) refl

  -- such a point returns by no event of its own
  pub has_no_own_return : (frame : Frame) (index : ℕ) → statement_at script frame ≡ Some (statement.PointCall index) → has_own_return index ≡ false
  has_no_own_return frame index at =
      ap (λ (b : Bool). b || is_sem_wait_point index || nat_eq index waitpid_point) (by_index join_point join_never frame index at (nat_eq index join_point) refl)
      ∙ ap (λ (b : Bool). (b || nat_eq index sem_timedwait_point) || nat_eq index waitpid_point) (by_index sem_wait_point sem_wait_never frame index at (nat_eq index sem_wait_point) refl)
      ∙ ap (λ (b : Bool). b || nat_eq index waitpid_point) (by_index sem_timedwait_point timed_sem_wait_never frame index at (nat_eq index sem_timedwait_point) refl)
      ∙ by_index waitpid_point waitpid_never frame index at (nat_eq index waitpid_point) refl
