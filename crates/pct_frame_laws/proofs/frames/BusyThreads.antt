-- After every run a thread that is in a function is busy: it has what its next statement asks of it. A script that passes the checks has a push for
-- each pop, and names no other points than those of the table.
use Rattle.pct_names.proofs.Names.{◌++◌, [], and_parts, ap, body_of, encode, exits, false, false≢true, ForkAt, Frame, has_first_word}
use Rattle.pct_names.proofs.Names.{has_line, has_no_frame, inl, inr, is_fork_kind, is_some, List, map, nat_eq, next_of, NextStatement}
use Rattle.pct_names.proofs.Names.{None, none-some, Operand, Option, option_map, point_kind, point_name, point_of, point_statement}
use Rattle.pct_names.proofs.Names.{PointKind, points, Reacquire, Reason, refl, Script, slice_get, Some, statement_at, StatementIn, Status}
use Rattle.pct_names.proofs.Names.{Stmt, suc, sym, syntax_of, true, ℕ, ◌∙◌, ◌∷◌, ◌≡◌}
use Rattle.std.specs.Option.{option_map_or}
use Rattle.std.proofs.lemmas.Bool.{true≢false}
use Rattle.pct_model.specs.declared.state.Status.TheVariants as status
use Rattle.pct_model.specs.declared.statement.Stmt.TheVariants as statement
use Rattle.pct_model.specs.declared.point.Point.{Point}
use Rattle.pct_model.specs.LineParsing.{is_empty}
use Rattle.pct_model.specs.Points.{Row}
use Rattle.pct_laws.specs.Kept.{AreOpen, is_in_fork_handler, open_functions}
use Rattle.pct_laws.specs.OpenPushes.{open_pushes}
use Rattle.pct_laws.specs.ThreadSummary.{ThreadSummary}
use Rattle.pct_transition_cases.proofs.PlacedStatements.{IsPlaced, is_placed, nowhere, on_top}
use Rattle.pct_thread_invariants.proofs.StaticPushes.{push_matches}
use Rattle.pct_thread_invariants.proofs.exits.PlainFunctions.{is_plain_next, plain_next}
use Rattle.pct_thread_invariants.proofs.thread.NamedFunctions.{line_of}
use Rattle.pct_thread_invariants.proofs.thread.ThreadRule.{ByAnyStatus}
use Rattle.pct_frame_laws.proofs.frames.BusyChoices.{IsBusy}

module _ (script : Script) where
  -- a pop of a thread that runs, in a function that is none of an exit: its handler is open
  has_handler : (frame : Frame) (below : List Frame) (v : Operand) (handlers left : List (ℕ × ℕ)) → statement_at script frame ≡ Some (statement.Pop v)
      → AreOpen (open_functions script (frame ∷ below)) handlers left → is_empty handlers ≡ false
  has_handler frame below v handlers left at opened =
      let pop : (f : ℕ) × (open_pushes (body_of script frame.func) frame.pc ≡ f ∷ open_pushes (body_of script frame.func) (suc frame.pc)) = (push_matches script).pop frame v at in
      by_pushed opened.pushed (opened.named ∙ ap (λ (fs : List ℕ). fs ++ open_functions script below) pop.1) opened.parts
    where
      by_pushed : {f : ℕ} {fs : List ℕ} (pushed : List (ℕ × ℕ)) → map (λ (handler : ℕ × ℕ). handler.0) pushed ≡ f ∷ fs → handlers ≡ pushed ++ left → is_empty handlers ≡ false
      by_pushed (handler ∷ pushed) named parts = ap (λ (hs : List (ℕ × ℕ)). is_empty hs) parts
      by_pushed [] named parts = absurd (true≢false (ap (λ (fs : List ℕ). is_empty fs) named))

  -- a point that a statement calls is in the table
  no_name : (index : ℕ) → point_kind index ≡ None → point_name index ≡ []
  unfolding point_kind point_name
  no_name index none = by_row (slice_get points index) none
    where
      by_row : (row : Option Row) → option_map (λ (p : Point). p.kind) (option_map (λ (r : Row). record { index = index; kind = r.kind; wait = r.wait }) row) ≡ None → option_map_or (λ (r : Row). r.name) row [] ≡ []
      by_row None none = refl
      by_row (Some row) none = absurd (none-some row.kind (sym none))

  has_point : (frame : Frame) (index : ℕ) → statement_at script frame ≡ Some (statement.PointCall index) → is_some (point_kind index) ≡ true
  unfolding has_line has_first_word encode point_statement points point_of
  has_point frame index at = by_kind (point_kind index) refl
    where
      by_kind : (k : Option PointKind) → point_kind index ≡ k → is_some k ≡ true
      by_kind (Some k) is = refl
      by_kind None is =
          let line = line_of script frame (statement.PointCall index) at in
          absurd (false≢true (sym (ap (λ (name : List ℕ). option_map_or (nat_eq index) (point_statement name) false) (no_name index is)) ∙ (and_parts _ _ line.1).0))

  running_busy : (frame : Frame) (below : List Frame) (s : Stmt) (why : Reason) (handlers : List (ℕ × ℕ)) (kept : Option ForkAt) (reported : ThreadSummary) → statement_at script frame ≡ Some s
      → ByAnyStatus script status.Running why (frame ∷ below) handlers reported → is_some kept ≡ is_fork_kind frame.kind → IsBusy handlers kept status.Running (StatementIn frame s)
  unfolding encode syntax_of
  running_busy frame below (statement.Pop v) why handlers kept reported at (inl fits) keeps = has_handler frame below v handlers reported.left at fits.pushes
  running_busy frame [] (statement.Pop v) why handlers kept reported at (inr exits) keeps = no_pop (plain_next script frame [] exits.1 (on_top frame [] (statement.Pop v) at))
    where
      no_pop : is_plain_next (StatementIn frame (statement.Pop v)) ≡ true → is_empty handlers ≡ false
      no_pop plain = absurd (false≢true plain)
  running_busy frame (other ∷ below) (statement.Pop v) why handlers kept reported at (inr exits) keeps = absurd exits
  running_busy frame below (statement.PointCall index) why handlers kept reported at by keeps = has_point frame index at
  running_busy frame below (statement.Return v) why handlers kept reported at by keeps = λ forks. keeps ∙ forks
  running_busy frame below statement.End why handlers kept reported at by keeps = λ forks. keeps ∙ forks
  running_busy frame below _ why handlers kept reported at by keeps = tt

  running_placed : (frames : List Frame) {body : List Stmt} {next : NextStatement} (why : Reason) (handlers : List (ℕ × ℕ)) (kept : Option ForkAt) (reported : ThreadSummary) → IsPlaced script frames body next
      → ByAnyStatus script status.Running why frames handlers reported → is_some kept ≡ is_in_fork_handler status.Running frames → IsBusy handlers kept status.Running next
  running_placed _ why handlers kept reported (on_top frame below s at) by keeps = running_busy frame below s why handlers kept reported at by keeps
  running_placed _ why handlers kept reported (nowhere _ _) by keeps = tt

  pub any_busy : (s : Status) (frames : List Frame) (why : Reason) (handlers : List (ℕ × ℕ)) (kept : Option ForkAt) (reported : ThreadSummary)
      → ByAnyStatus script s why frames handlers reported → is_some kept ≡ is_in_fork_handler s frames → IsBusy handlers kept s (next_of script frames)
  any_busy status.Running frames why handlers kept reported by keeps = running_placed frames why handlers kept reported (is_placed script frames) by keeps
  any_busy (status.AtPoint index) frames why handlers kept reported (inl fits) keeps = fits.1
  any_busy (status.Joining id) frames why handlers kept reported (inl fits) keeps = fits.1
  any_busy (status.InSem sem) frames why handlers kept reported (inl fits) keeps = fits.1
  any_busy (status.InWaitPid pid) frames why handlers kept reported (inl fits) keeps = fits.1
  any_busy (status.Waiting c m) frames why handlers kept reported (inl fits) keeps = fits.1
  any_busy (status.Reacquire c m cause) frames why handlers kept reported (inl fits) keeps = fits.1
  any_busy (status.Forking at) frames why handlers kept reported (inl fits) keeps = fits.1
  any_busy status.Ending frames why handlers kept reported by keeps = tt
  any_busy (status.Ended v) frames why handlers kept reported by keeps = tt
  any_busy status.Exiting frames why handlers kept reported by keeps = tt
  any_busy _ frames why handlers kept reported (inr exits) keeps = absurd exits

  -- a thread with a status that has no frame has none
  pub no_frames : (s : Status) (frames : List Frame) (why : Reason) (handlers : List (ℕ × ℕ)) (reported : ThreadSummary) → ByAnyStatus script s why frames handlers reported → has_no_frame s ≡ true → frames ≡ []
  no_frames status.Ending frames why handlers reported (inl fits) none = fits.no_frames
  no_frames (status.Ended v) frames why handlers reported (inl fits) none = fits.no_frames
  no_frames status.Exiting frames why handlers reported (inl fits) none = fits.0
  no_frames status.Running frames why handlers reported by none = absurd (false≢true none)
  no_frames _ frames why handlers reported (inr exits) none = absurd exits
  no_frames _ frames why handlers reported by none = absurd (false≢true none)
