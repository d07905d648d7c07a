-- Cells that all have a value, or none.
use Rattle.std.proofs.Common.{◌≡◌, ℕ, ◌<◌, ◌≤◌, arith, List, [], ◌∷◌, length, get_or, set, map, replicate, zero, suc, ◌+◌, refl, sym, ap, ◌∙◌, Option, Some, None}
use Rattle.std.proofs.lemmas.List.{length-map, get_or-map, map-set}
use Rattle.std.specs.Option.{unwrap_or}
use Rattle.pct_stack.specs.Cells.{somes, AreFilled, AreAlike}
use Rattle.pct_stack.specs.Rows.{set_from}

module _ {X : Type 0} where
  somes-map : (xs : List X) → somes (map Some xs) ≡ xs
  somes-map [] = refl
  somes-map (x ∷ xs) = ap (λ l. x ∷ l) (somes-map xs)

  pub length-somes : (cells : List (Option X)) → AreFilled cells → length (somes cells) ≡ length cells
  length-somes cells full = sym (length-map (somes cells) Some) ∙ sym (ap length full)

  pub filled_at : (cells : List (Option X)) → AreFilled cells → (i : ℕ) (d : X) → i < length (somes cells) → get_or cells i None ≡ Some (get_or (somes cells) i d)
  filled_at cells full i d inside = ap (λ l. get_or l i None) full ∙ get_or-map Some (somes cells) i d None inside

  set_full : (cells : List (Option X)) → AreFilled cells → (i : ℕ) (x : X) → set cells i (Some x) ≡ map Some (set (somes cells) i x)
  set_full cells full i x = ap (λ l. set l i (Some x)) full ∙ sym (map-set Some (somes cells) i x)

  -- a value is written over one that is there
  pub somes-set : (cells : List (Option X)) → AreFilled cells → (i : ℕ) (x : X) → somes (set cells i (Some x)) ≡ set (somes cells) i x
  somes-set cells full i x = ap somes (set_full cells full i x) ∙ somes-map (set (somes cells) i x)

  pub AreFilled-set : (cells : List (Option X)) → AreFilled cells → (i : ℕ) (x : X) → AreFilled (set cells i (Some x))
  AreFilled-set cells full i x = set_full cells full i x ∙ ap (map Some) (sym (somes-set cells full i x))

  pub somes-replicate : (n : ℕ) (x : X) → somes (replicate n (Some x)) ≡ replicate n x
  somes-replicate zero x = refl
  somes-replicate (suc n) x = ap (λ l. x ∷ l) (somes-replicate n x)

  pub AreFilled-replicate : (n : ℕ) (x : X) → AreFilled (replicate n (Some x))
  AreFilled-replicate n x = filled n ∙ ap (map Some) (sym (somes-replicate n x))
    where
      filled : (m : ℕ) → replicate m (Some x) ≡ map Some (replicate m x)
      filled zero = refl
      filled (suc m) = ap (λ l. Some x ∷ l) (filled m)

  -- ---- cells that are alike

  pub somes-none : (n : ℕ) → somes {X = X} (replicate n None) ≡ []
  somes-none zero = refl
  somes-none (suc n) = somes-none n

  pub AreAlike-none : (n : ℕ) → AreAlike {X = X} (replicate n None)
  AreAlike-none n = λ some. absurd (some (somes-none n))

  -- where one has a value, all have
  pub filled_with : (cells : List (Option X)) → AreAlike cells → (i : ℕ) → i < length (somes cells) → AreFilled cells
  filled_with cells alike i inside = alike (λ none. absurd (omega (arith, inside, ap length none)))

  pub AreAlike-set : (cells : List (Option X)) → AreAlike cells → (i : ℕ) (x : X) → i < length (somes cells) → AreAlike (set cells i (Some x))
  AreAlike-set cells alike i x inside = λ _. AreFilled-set cells (filled_with cells alike i inside) i x

  -- a value is written over many
  AreFilled-set_from : (cells : List (Option X)) → AreFilled cells → (first n : ℕ) (x : X) → AreFilled (set_from (Some x) first n cells)
  AreFilled-set_from cells full first zero x = full
  AreFilled-set_from cells full first (suc n) x = AreFilled-set (set_from (Some x) first n cells) (AreFilled-set_from cells full first n x) (first + n) x

  pub AreAlike-set_from : (cells : List (Option X)) → AreAlike cells → (first n : ℕ) (x : X) → first + n ≤ length (somes cells) → AreAlike (set_from (Some x) first n cells)
  AreAlike-set_from cells alike first zero x within = alike
  AreAlike-set_from cells alike first (suc n) x within = λ _. AreFilled-set_from cells (filled_with cells alike first (omega (arith, within))) first (suc n) x

  pub somes-set_from : (cells : List (Option X)) → AreAlike cells → (first n : ℕ) (x : X) → first + n ≤ length (somes cells) → somes (set_from (Some x) first n cells) ≡ set_from x first n (somes cells)
  somes-set_from cells alike first zero x within = refl
  somes-set_from cells alike first (suc n) x within =
      let full : AreFilled cells = filled_with cells alike first (omega (arith, within)) in
      somes-set (set_from (Some x) first n cells) (AreFilled-set_from cells full first n x) (first + n) x
      ∙ ap (λ l. set l (first + n) x) (somes-set_from cells alike first n x (omega (arith, within)))

pub some_same : {X : Type 0} (d x y : X) → Some x ≡ Some y → x ≡ y
some_same d x y same = ap (λ o. unwrap_or o d) same
