-- Choices that name a number, and which choices a running thread has at a statement that is neither a stop nor a call of a cancellation point.
use Rattle.pct_names.proofs.Names.{◌&&◌, [], act_if, Alt, ap, Bool, called_kind, ChoiceRow, choices_at, Environment, false, false≢true}
use Rattle.pct_names.proofs.Names.{first_row, Frame, is_allowed_asynchronously, is_asynchronous, is_blocked, is_create, is_deliverable}
use Rattle.pct_names.proofs.Names.{is_forbidden_in_child, is_key_create, is_optional, is_required, is_signal, List, list_any, map, nat_eq}
use Rattle.pct_names.proofs.Names.{new_keys, new_or_go, None, not, offers, pick_or_go, refl, running_choices, running_rows, same_choice}
use Rattle.pct_names.proofs.Names.{SharedState, StatementIn, Stmt, stop_at, sym, Thread, true, Waiter, waiters_to_signal, ◌||◌, ℕ, ◌∙◌, ◌∷◌}
use Rattle.pct_names.proofs.Names.{◌≡◌}
use Rattle.std.proofs.lemmas.Bool.{true≢false}
use Rattle.pct_model.specs.declared.schedule.Alt.TheVariants as alt
use Rattle.pct_model.specs.declared.state.Status.TheVariants as status
use Rattle.pct_transition_cases.proofs.CaseOfTransition.{no_stops}

-- ---- choices that name a number

module _ {T : Type 0} (choose : T → Alt) (choice : Alt) where
  -- a choice that differs from each of some choices is not among them
  pub not_among : ((item : T) → same_choice choice (choose item) ≡ false) → (items : List T) → offers (map choose items) choice ≡ false
  not_among differs [] = refl
  not_among differs (item ∷ items) = ap (λ (b : Bool). b || offers (map choose items) choice) (differs item) ∙ not_among differs items

  -- one that is among them passes the same test as theirs
  pub among : (is_named : T → Bool) → ((item : T) → same_choice choice (choose item) ≡ is_named item) → (items : List T) → offers (map choose items) choice ≡ list_any is_named items
  among is_named same_as [] = refl
  among is_named same_as (item ∷ items) = ap (λ (b : Bool). b || offers (map choose items) choice) (same_as item) ∙ ap (λ (b : Bool). is_named item || b) (among is_named same_as items)

-- a signal picks one of the threads that wait, and `go` is offered only if none waits
pub picked : (id : ℕ) (waiters : List Waiter) → offers (pick_or_go waiters) (alt.Pick id) ≡ true → list_any (λ (w : Waiter). nat_eq id w.id) waiters ≡ true
picked id [] offered = absurd (false≢true offered)
picked id (waiter ∷ waiters) offered = sym (among (λ (w : Waiter). alt.Pick w.id) (alt.Pick id) (λ (w : Waiter). nat_eq id w.id) (λ w. refl) (waiter ∷ waiters)) ∙ offered

pub none_picked : (waiters : List Waiter) → offers (pick_or_go waiters) alt.Go ≡ true → waiters ≡ []
none_picked [] offered = refl
none_picked (waiter ∷ waiters) offered = absurd (true≢false (sym offered ∙ not_among (λ (w : Waiter). alt.Pick w.id) alt.Go (λ w. refl) (waiter ∷ waiters)))

-- ---- the choices at a statement

module _ (body : List Stmt) (shared : SharedState) (t : Thread) (environment : Environment) where
  -- the rows of the choices that a statement has of its own
  abbrev pub own_rows : Stmt → List ChoiceRow
  own_rows s = (is_blocked s shared, []) ∷ (is_create s, new_or_go environment.new_ids) ∷ (is_key_create s, new_or_go (new_keys shared.keys)) ∷ (is_signal s, pick_or_go (waiters_to_signal environment s)) ∷ []

  -- a thread at a statement that is neither a stop nor a call of a cancellation point has no other choices
  pub own_choices : (choice : Alt) (frame : Frame) (s : Stmt) → called_kind s ≡ None → is_allowed_asynchronously s ≡ false → stop_at body shared t environment frame s ≡ None → offers (choices_at body shared t environment (StatementIn frame s) status.Running) choice ≡ true
      → offers (first_row (own_rows s) (alt.Go ∷ [])) choice ≡ true
  unfolding choices_at running_choices running_rows
  own_choices choice frame s no_point unsafe none =
      let allowed = no_stops body shared t environment frame s none in
      by (is_forbidden_in_child body shared frame s) (is_asynchronous t.state t.mode) (is_deliverable t.state t.pending) (is_required (called_kind s)) (is_optional (called_kind s)) (is_allowed_asynchronously s)
      allowed.0 allowed.1.0 (ap is_required no_point) (ap is_optional no_point) unsafe
    where
      by : (forbidden asynchronous deliverable required optional allowed : Bool) → forbidden ≡ false → asynchronous && not allowed ≡ false → required ≡ false → optional ≡ false → allowed ≡ false
          → offers (first_row ((forbidden, alt.Go ∷ []) ∷ (asynchronous, alt.Go ∷ act_if t.pending) ∷ (deliverable && required, alt.Act 0 ∷ []) ∷ (deliverable && optional, alt.Go ∷ alt.Act 0 ∷ []) ∷ own_rows s) (alt.Go ∷ [])) choice ≡ true
          → offers (first_row (own_rows s) (alt.Go ∷ [])) choice ≡ true
      by true _ _ _ _ _ allowed deferred shall may unsafe offered = absurd (true≢false allowed)
      by false true _ _ _ true allowed deferred shall may unsafe offered = absurd (true≢false unsafe)
      by false true _ _ _ false allowed deferred shall may unsafe offered = absurd (true≢false deferred)
      by false false _ true _ _ allowed deferred shall may unsafe offered = absurd (true≢false shall)
      by false false _ false true _ allowed deferred shall may unsafe offered = absurd (true≢false may)
      by false false true false false _ allowed deferred shall may unsafe offered = offered
      by false false false false false _ allowed deferred shall may unsafe offered = offered
