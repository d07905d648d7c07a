-- The threads that are ready, by their slots.
use Rattle.pct_names.proofs.Names.{[], ap, arith, Bool, cond, false, filter, IfSome, is_some, length, length-map, List, list_any, map}
use Rattle.pct_names.proofs.Names.{nat_lt, None, none-some, not, Option, option_and_then, option_map, refl, same_Some, slice_get, slice_get-map}
use Rattle.pct_names.proofs.Names.{Some, sym, Thread, true, ◌&&◌, ◌||◌, ℕ, ◌∙◌, ◌∷◌, ◌≡◌}
use Rattle.std.proofs.lemmas.Bool.{lt-ltb}
use Rattle.pct_engine_laws.specs.Seen.{SeenSlot}
use Rattle.pct_process.specs.ProcessViews.{thread_on_slot}

module _ (slots : List SeenSlot) (set : List ℕ) (ready : List Thread) (are : map (thread_on_slot slots) set ≡ map (λ t. Some t) ready) where
  -- there are as many
  pub as_many : length set ≡ length ready
  as_many = sym (length-map set (thread_on_slot slots)) ∙ ap length are ∙ length-map ready (λ t. Some t)

  joined : (o : Option ℕ) (t : Option Thread) → option_map (thread_on_slot slots) o ≡ option_map (λ t. Some t) t → (option_and_then (thread_on_slot slots) o ≡ t) × IfSome o (λ slot. is_some (thread_on_slot slots slot) ≡ true)
  joined None None is = (refl, tt)
  joined None (Some t) is = absurd (none-some (Some t) is)
  joined (Some slot) None is = absurd (none-some (thread_on_slot slots slot) (sym is))
  joined (Some slot) (Some t) is = let here : thread_on_slot slots slot ≡ Some t = same_Some (thread_on_slot slots slot) (Some t) is in (here, ap is_some here)

  -- the thread at an index, and its slot
  pub ready_at : (j : ℕ) (slot : Option ℕ) → slot ≡ slice_get set j → (option_and_then (thread_on_slot slots) slot ≡ slice_get ready j) × IfSome slot (λ s. is_some (thread_on_slot slots s) ≡ true)
  ready_at j slot at =
      joined slot (slice_get ready j)
      (ap (option_map (thread_on_slot slots)) at
      ∙ sym (slice_get-map (thread_on_slot slots) set j)
      ∙ ap (λ (threads : List (Option Thread)). slice_get threads j) are
      ∙ slice_get-map (λ t. Some t) ready j)

-- some thread is ready exactly if one of them is
pub any_ready : (ready : Thread → Bool) (ts : List Thread) → list_any ready ts ≡ nat_lt 0 (length (filter ready ts))
any_ready ready [] = refl
any_ready ready (t ∷ ts) = ap (λ b. ready t || b) (any_ready ready ts) ∙ either (ready t) where
  either : (b : Bool) → (b || nat_lt 0 (length (filter ready ts))) ≡ nat_lt 0 (length (cond b (t ∷ filter ready ts) (filter ready ts)))
  either true = sym (lt-ltb 0 (length (t ∷ filter ready ts)) (omega arith))
  either false = refl

-- the same of a process, which has no ready threads if it has ended
pub any_ready_if : (ready : Thread → Bool) (ts : List Thread) (ended : Bool) → nat_lt 0 (length (cond ended [] (filter ready ts))) ≡ (not ended && list_any ready ts)
any_ready_if ready ts true = refl
any_ready_if ready ts false = sym (any_ready ready ts)
