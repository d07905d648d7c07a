use Rattle.pct_names.proofs.Names.{[], ap, goes_on_exiting, List, None, Option, slice_get, Some, sym, Transition, ℕ, ◌∙◌, ◌∷◌, ◌≡◌}
use Rattle.pct_statements.proofs.process_exit.goes_on_exiting.Goals as goal

module _ (value : Option ℕ) (o : Transition) where
  -- with a function the transition depends on the newest one alone
  calls_newest : (f : ℕ) (functions : List ℕ) → ((older : List ℕ) → o ≡ goes_on_exiting (f ∷ older) value) → Some f ≡ slice_get functions 0 → o ≡ goes_on_exiting functions value
  calls_newest f [] is newest = absurd cc
  calls_newest f (g ∷ older) is newest = let same : f ≡ g = cc in is older ∙ ap (λ (n : ℕ). goes_on_exiting (n ∷ older) value) same

  -- without one
  calls_none : (functions : List ℕ) → o ≡ goes_on_exiting [] value → None ≡ slice_get functions 0 → o ≡ goes_on_exiting functions value
  calls_none [] is none = is
  calls_none (g ∷ older) is none = absurd cc

pub returns-in-Some : goal.returns-in-Some
returns-in-Some c = calls_newest c.args.exit_value c.calls_exit_function.result c.in-Some.func c.args.functions.now (λ older. c.calls_exit_function.ensures older c.args.exit_value) (sym c.in-Some.is ∙ c.newest.ensures)

pub returns-in-None : goal.returns-in-None
returns-in-None c = calls_none c.args.exit_value c.ends_exit.result c.args.functions.now c.ends_exit.ensures (sym c.in-None.is ∙ c.newest.ensures)
