-- Writes of concatenated texts.
use Rattle.pct_names.proofs.Names.{◌+◌, ◌<◌, ap, drop, Err, get_or, length, List, Ok, Option, Result, subst, ℕ, ◌≡◌}
use Rattle.std.specs.List.{flat_map}
use Rattle.pct_io.specs.declared.failed.Failed.{Failed}
use Rattle.pct_io.specs.Inners.{Inner}
use Rattle.pct_io.specs.Writes.{Writes}
use Rattle.pct_io.proofs.WritesInTurn.{Writes-next, Writes-next_fails}

module _ {S : Type 0} {written_of : S → Option (List ℕ)} {errors_of : S → ℕ} {inners_of : S → List Inner} where
  -- the same text
  pub Writes-as : {old new : S} {a b : List ℕ} {r : Result (Unit {0}) Failed} → a ≡ b → Writes written_of errors_of inners_of old new a r → Writes written_of errors_of inners_of old new b r
  Writes-as {old = old} {new = new} {r = r} e writes = subst (λ text. Writes written_of errors_of inners_of old new text r) e writes

  -- an item's text was written, and then the rest was written or failed
  pub Writes-item : {X : Type 0} (text_of : X → List ℕ) (xs : List X) (i : ℕ) (x : X) {old mid new : S} {u : Unit {0}} (r : Result (Unit {0}) Failed) → i < length xs → x ≡ get_or xs i x
      → Writes written_of errors_of inners_of old mid (text_of x) (Ok u) → Writes written_of errors_of inners_of mid new (flat_map text_of (drop (i + 1) xs)) r
      → Writes written_of errors_of inners_of old new (flat_map text_of (drop i xs)) r
  Writes-item text_of xs i x r within is first next = Writes-next text_of xs i x r within (Writes-as (ap text_of is) first) next

  -- an item's text failed, and nothing of the rest was written
  pub Writes-item_fails : {X : Type 0} (text_of : X → List ℕ) (xs : List X) (i : ℕ) (x : X) {old new : S} {e : Failed} → i < length xs → x ≡ get_or xs i x
      → Writes written_of errors_of inners_of old new (text_of x) (Err e) → Writes written_of errors_of inners_of old new (flat_map text_of (drop i xs)) (Err e)
  Writes-item_fails text_of xs i x within is failed = Writes-next_fails text_of xs i x within (Writes-as (ap text_of is) failed)
