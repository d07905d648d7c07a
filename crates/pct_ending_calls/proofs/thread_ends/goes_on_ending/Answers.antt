use Rattle.pct_names.proofs.Names.{[], Alt, ap, Bool, goes_on_ending, KeyPlace, List, None, slice_get, Some, sym, Thread, Transition, ℕ}
use Rattle.pct_names.proofs.Names.{◌∙◌, ◌∷◌, ◌≡◌}
use Rattle.pct_ending_calls.proofs.thread_ends.goes_on_ending.Goals as goal

module _ (is_last : Bool) (passes : ℕ) (keys : List KeyPlace) (t : Thread) (choice : Alt) (o : Transition) where
  -- with a handler the transition depends on the newest one alone
  runs_newest : (f a : ℕ) (handlers : List (ℕ × ℕ)) → ((below : List (ℕ × ℕ)) → o ≡ goes_on_ending is_last passes keys t choice ((f, a) ∷ below)) → Some (f, a) ≡ slice_get handlers 0 → o ≡ goes_on_ending is_last passes keys t choice handlers
  runs_newest f a [] is newest = absurd cc
  runs_newest f a (h ∷ below) is newest = let same : (f, a) ≡ h = cc in is below ∙ ap (λ (h : ℕ × ℕ). goes_on_ending is_last passes keys t choice (h ∷ below)) same

  -- without one
  runs_none : (handlers : List (ℕ × ℕ)) → o ≡ goes_on_ending is_last passes keys t choice [] → None ≡ slice_get handlers 0 → o ≡ goes_on_ending is_last passes keys t choice handlers
  runs_none [] is none = is
  runs_none (h ∷ below) is none = absurd cc

pub returns-in-Some : goal.returns-in-Some
returns-in-Some c = λ shared t others is.
    runs_newest others.is_last c.args.passes shared.keys t c.args.choice c.runs_handler.result c.in-Some.func c.in-Some.arg t.handlers
    (c.runs_handler.ensures others.is_last c.args.passes shared.keys t c.args.choice)
    (sym c.in-Some.is ∙ c.newest.ensures ∙ ap (λ (handlers : List (ℕ × ℕ)). slice_get handlers 0) is.position_is.handlers_are)

pub returns-in-None : goal.returns-in-None
returns-in-None c = λ shared t others is.
    runs_none others.is_last c.args.passes shared.keys t c.args.choice c.without_handlers.new.transition t.handlers
    (c.without_handlers.ensures shared t others is)
    (sym c.in-None.is ∙ c.newest.ensures ∙ ap (λ (handlers : List (ℕ × ℕ)). slice_get handlers 0) is.position_is.handlers_are)
