-- The choices of a running thread, by the rows of the table.
use Rattle.pct_names.proofs.Names.{◌++◌, [], act_if, called_kind, Environment, false, Frame, go_if, is_asynchronous, is_deliverable}
use Rattle.pct_names.proofs.Names.{is_forbidden_in_child, List, None, Option, PointKind, refl, running_choices, running_rows, SharedState}
use Rattle.pct_names.proofs.Names.{Some, Stmt, Thread, true, ◌∷◌, ◌≡◌}
use Rattle.pct_model.specs.declared.point.PointKind.TheVariants as kinds
use Rattle.pct_model.specs.declared.schedule.Alt.TheVariants as alt
use Rattle.pct_transitions.specs.Listed.{statement_choices, choices_at_point, requested_choices}

module _ (body : List Stmt) (shared : SharedState) (t : Thread) (environment : Environment) (frame : Frame) (s : Stmt) where
  -- at a statement that the process may not execute
  pub forbidden_row : is_forbidden_in_child body shared frame s ≡ true → alt.Go ∷ [] ≡ running_choices body shared t environment frame s
  unfolding running_choices running_rows
  forbidden_row forbidden = rw forbidden refl

  module _ (allowed : is_forbidden_in_child body shared frame s ≡ false) where
    -- with asynchronous cancelability
    pub asynchronous_row : is_asynchronous t.state t.mode ≡ true → go_if true ++ act_if t.pending ≡ running_choices body shared t environment frame s
    unfolding running_choices running_rows
    asynchronous_row asynchronous = rw (allowed, asynchronous) refl

    -- where a request is acted upon at points, by the kind of the one that the statement calls
    at_point : (kind : Option PointKind) → is_asynchronous t.state t.mode ≡ false → is_deliverable t.state t.pending ≡ true → called_kind s ≡ kind
        → choices_at_point kind (statement_choices shared environment s) ≡ running_choices body shared t environment frame s
    unfolding running_choices running_rows
    at_point (Some kinds.Required) deferred deliverable is = rw (allowed, deferred, deliverable, is) refl
    at_point (Some kinds.Optional) deferred deliverable is = rw (allowed, deferred, deliverable, is) refl
    at_point None deferred deliverable is = rw (allowed, deferred, deliverable, is) refl

    -- where a request is acted upon at points
    pub requested_row : is_asynchronous t.state t.mode ≡ false → is_deliverable t.state t.pending ≡ true → requested_choices shared environment s ≡ running_choices body shared t environment frame s
    requested_row deferred deliverable = at_point (called_kind s) deferred deliverable refl

    -- where no request is acted upon
    pub statement_row : is_asynchronous t.state t.mode ≡ false → is_deliverable t.state t.pending ≡ false → statement_choices shared environment s ≡ running_choices body shared t environment frame s
    unfolding running_choices running_rows
    statement_row deferred none = rw (allowed, deferred, none) refl
