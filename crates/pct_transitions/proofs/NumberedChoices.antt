-- The choice that a number chooses is among the choices.
use Rattle.pct_names.proofs.Names.{◌%◌, [], Alt, ap, item_at, length, List, list_any, none-some, offers, or_left, or_right, refl}
use Rattle.pct_names.proofs.Names.{same_choice, same_Some, slice_get, Some, suc, true, zero, ℕ, ◌∙◌, ◌∷◌, ◌≡◌}
use Rattle.std.proofs.lemmas.Bool.{eq-eqb}
use Rattle.pct_model.specs.declared.schedule.Alt.TheVariants as alt

-- a choice is the same as itself
same_choice-self : (c : Alt) → same_choice c c ≡ true
same_choice-self alt.Go = refl
same_choice-self (alt.Act n) = eq-eqb n n refl
same_choice-self (alt.New n) = eq-eqb n n refl
same_choice-self (alt.Pick n) = eq-eqb n n refl
same_choice-self (alt.Dtor n) = eq-eqb n n refl
same_choice-self alt.Expire = refl

-- a choice of a list is among its choices
pub offers-item : (choices : List Alt) (n : ℕ) (c : Alt) → slice_get choices n ≡ Some c → offers choices c ≡ true
offers-item [] n c at = absurd (none-some c at)
offers-item (x ∷ rest) zero c at = or_left (same_choice c x) (list_any (same_choice c) rest) (ap (same_choice c) (same_Some x c at) ∙ same_choice-self c)
offers-item (x ∷ rest) (suc n) c at = or_right (same_choice c x) (list_any (same_choice c) rest) (offers-item rest n c at)

-- so is the one that a number chooses
pub numbered_offered : (choices : List Alt) (n : ℕ) (c : Alt) → item_at choices n ≡ Some c → offers choices c ≡ true
numbered_offered choices n c at = offers-item choices (n % length choices) c at
