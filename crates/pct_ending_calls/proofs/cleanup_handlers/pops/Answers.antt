use Rattle.pct_names.proofs.Names.{[], ap, List, pops, slice_get, Some, sym, Transition, ℕ, ◌∙◌, ◌∷◌, ◌≡◌}
use Rattle.pct_ending_calls.proofs.cleanup_handlers.pops.Goals as goal

-- a pop depends on the newest handler alone
pops_newest : (next v f a : ℕ) (o : Transition) (handlers : List (ℕ × ℕ)) → ((below : List (ℕ × ℕ)) → o ≡ pops next v ((f, a) ∷ below)) → Some (f, a) ≡ slice_get handlers 0 → o ≡ pops next v handlers
pops_newest next v f a o [] is newest = absurd cc
pops_newest next v f a o (h ∷ below) is newest = let same : (f, a) ≡ h = cc in is below ∙ ap (λ (h : ℕ × ℕ). pops next v (h ∷ below)) same

pub returns-in-Some : goal.returns-in-Some
returns-in-Some c = λ handlers newest. pops_newest c.args.next c.args.value c.in-Some.func c.in-Some.arg c.pops_newest.result handlers c.pops_newest.ensures (sym c.in-Some.is ∙ newest)
