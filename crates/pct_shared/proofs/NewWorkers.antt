-- New workers, one after the other.
use Rattle.pct_names.proofs.Names.{◌++◌, ◌<◌, [], ap, arith, inl, inr, length, List, none-some, option_map, refl, same_Some, slice_get}
use Rattle.pct_names.proofs.Names.{Some, subst, suc, sym, zero, ℕ, ◌∙◌, ◌∷◌, ◌≡◌, ◌⊎◌}
use Rattle.atomic_table.specs.Table.{Me, Splits}
use Rattle.pct_shared.specs.declared.view.Opening.{Opening}
use Rattle.pct_shared.specs.declared.worker.Worker.{Worker}
use Rattle.pct_shared.specs.Hosts.{IsNewWorker}
use Rattle.pct_shared.specs.Passes.{SharedValue}
use Rattle.pct_shared.specs.TurnRule.{KeepsTurn, SeatView, Slot}
use Rattle.pct_shared.specs.Views.{new_view, next_view, without_next}
use Rattle.pct_shared.proofs.SeatsMade.{further}
use Rattle.pct_shared.proofs.TurnAllowed.{splits_allowed}

-- an item of a list with one more
pub at_front_or_end : {A : Type 0} (xs : List A) (y : A) (i : ℕ) (x : A) → slice_get (xs ++ y ∷ []) i ≡ Some x → (slice_get xs i ≡ Some x) ⊎ ((i ≡ length xs) × (y ≡ x))
at_front_or_end [] y zero x is = inr (refl, same_Some y x is)
at_front_or_end [] y (suc i) x is = absurd (none-some x is)
at_front_or_end (z ∷ xs) y zero x is = inl is
at_front_or_end (z ∷ xs) y (suc i) x is = further i (length xs) (at_front_or_end xs y i x is)

module _ (host : SharedValue) (seed number : ℕ) (workers : List Worker) (w : Worker) (made : suc (length workers) ≡ number)
    (each : (index : ℕ) (x : Worker) → slice_get workers index ≡ Some x → IsNewWorker host seed (suc index) x) (new : IsNewWorker host seed number w) where
  new_by : (index : ℕ) (x : Worker) → (slice_get workers index ≡ Some x) ⊎ ((index ≡ length workers) × (w ≡ x)) → IsNewWorker host seed (suc index) x
  new_by index x (inl front) = each index x front
  new_by index x (inr (at, is)) = subst (λ (n : ℕ). IsNewWorker host seed n x) (omega (arith, at, made)) (subst (IsNewWorker host seed number) is new)

  -- one more
  pub new_more : (items : List Worker) → items ≡ workers ++ w ∷ [] → (index : ℕ) (x : Worker) → slice_get items index ≡ Some x → IsNewWorker host seed (suc index) x
  new_more items all index x is = new_by index x (at_front_or_end workers w index x (ap (λ (l : List Worker). slice_get l index) (sym all) ∙ is))

-- the newest pass may split
pub newest_splits : (key o : Opening) (id number : ℕ) (me : Me Slot SeatView) → key ≡ o → me ≡ (Some (new_view o number), []) → 0 < number → number < o.workers
    → Splits (KeepsTurn key) id me.0 (option_map without_next me.0) (option_map next_view me.0)
newest_splits key o id number me same is some room =
    subst (λ (x : Opening). Splits (KeepsTurn x) id me.0 (option_map without_next me.0) (option_map next_view me.0)) (sym same)
    (subst (λ (m : Me Slot SeatView). Splits (KeepsTurn o) id m.0 (option_map without_next m.0) (option_map next_view m.0)) (sym is)
    (splits_allowed o id (new_view o number) (λ none. omega (arith, none, some)) room))
