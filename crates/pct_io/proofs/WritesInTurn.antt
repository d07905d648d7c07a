-- Lemmas on a text that is written in several calls.
use Rattle.std.proofs.Common.{◌≡◌, ℕ, ◌+◌, ◌<◌, ◌≤◌, List, [], ◌++◌, Option, Result, Ok, Err, length, get_or, drop, refl, sym, ap, subst, ◌∙◌}
use Rattle.std.specs.List.{flat_map}
use Rattle.std.proofs.lemmas.Grind.{flat_map-append}
use Rattle.std.proofs.lemmas.List.{at_drop_more, at_drop_all}
use Rattle.std.proofs.KnownBytes.{Appends-trans, Appends-nil}
use Rattle.pct_io.specs.declared.failed.Failed.{Failed}
use Rattle.pct_io.specs.Inners.{Inner}
use Rattle.pct_io.specs.Writes.{Writes}
use Rattle.pct_io.proofs.ErrorCounts.{Rose-unchanged}
use Rattle.pct_io.proofs.Appending.{AppendsPrefix-more, AppendsPrefix-after}
use Rattle.pct_io.proofs.Unchanged.{KeepsInners-refl, KeepsInners-trans}

module _ {S : Type 0} {written_of : S → Option (List ℕ)} {errors_of : S → ℕ} {inners_of : S → List Inner} where
  -- without a call nothing is written
  pub Writes-nothing : (sink : S) {x : Unit {0}} → Writes written_of errors_of inners_of sink sink [] (Ok x)
  Writes-nothing sink = record {
    ok = Appends-nil (written_of sink);
    no_error = refl;
    err = tt;
    cause = tt;
    inners = KeepsInners-refl (inners_of sink);
  }

  -- a whole text, followed by the result of the next text
  pub Writes-then : {old mid new : S} {a b : List ℕ} {x : Unit {0}} (r : Result (Unit {0}) Failed)
      → Writes written_of errors_of inners_of old mid a (Ok x) → Writes written_of errors_of inners_of mid new b r
      → Writes written_of errors_of inners_of old new (a ++ b) r
  Writes-then {old = old} {mid = mid} {new = new} {a = a} {b = b} (Ok y) first next = record {
    ok = Appends-trans (written_of old) (written_of mid) (written_of new) a b first.ok next.ok;
    no_error = next.no_error ∙ first.no_error;
    err = tt;
    cause = tt;
    inners = KeepsInners-trans (inners_of old) (inners_of mid) (inners_of new) first.inners next.inners;
  }
  Writes-then {old = old} {mid = mid} {new = new} {a = a} {b = b} (Err e) first next = record {
    ok = tt;
    no_error = tt;
    err = AppendsPrefix-after (written_of old) (written_of mid) (written_of new) a b first.ok next.err;
    cause = Rose-unchanged (errors_of old) (errors_of mid) (errors_of new) first.no_error next.cause;
    inners = KeepsInners-trans (inners_of old) (inners_of mid) (inners_of new) first.inners next.inners;
  }

  -- a failed text, followed by nothing
  pub Writes-fails : {old new : S} {a : List ℕ} (b : List ℕ) {e : Failed} → Writes written_of errors_of inners_of old new a (Err e) → Writes written_of errors_of inners_of old new (a ++ b) (Err e)
  Writes-fails {old = old} {new = new} {a = a} b failed = record {
    ok = tt;
    no_error = tt;
    err = AppendsPrefix-more (written_of old) (written_of new) a b failed.err;
    cause = failed.cause;
    inners = failed.inners;
  }

  -- the texts of a list's items in turn: at the end of the list nothing is left
  pub Writes-last : {X : Type 0} (text_of : X → List ℕ) (xs : List X) (i : ℕ) (sink : S) {x : Unit {0}} → length xs ≤ i
      → Writes written_of errors_of inners_of sink sink (flat_map text_of (drop i xs)) (Ok x)
  Writes-last text_of xs i sink {x = x} past =
      subst (λ text. Writes written_of errors_of inners_of sink sink text (Ok x)) (sym (at_drop_all (flat_map text_of) xs i past)) (Writes-nothing sink)

  -- the whole text of an item, followed by the result of the remaining items
  pub Writes-next : {X : Type 0} (text_of : X → List ℕ) (xs : List X) (i : ℕ) (d : X) {old mid new : S} {x : Unit {0}} (r : Result (Unit {0}) Failed) → i < length xs
      → Writes written_of errors_of inners_of old mid (text_of (get_or xs i d)) (Ok x) → Writes written_of errors_of inners_of mid new (flat_map text_of (drop (i + 1) xs)) r
      → Writes written_of errors_of inners_of old new (flat_map text_of (drop i xs)) r
  Writes-next text_of xs i d {old = old} {new = new} r within first next =
      subst (λ text. Writes written_of errors_of inners_of old new text r) (sym (at_drop_more (flat_map text_of) xs i d within)) (Writes-then r first next)

  -- the failed text of an item, followed by nothing
  pub Writes-next_fails : {X : Type 0} (text_of : X → List ℕ) (xs : List X) (i : ℕ) (d : X) {old new : S} {e : Failed} → i < length xs
      → Writes written_of errors_of inners_of old new (text_of (get_or xs i d)) (Err e) → Writes written_of errors_of inners_of old new (flat_map text_of (drop i xs)) (Err e)
  Writes-next_fails text_of xs i d {old = old} {new = new} {e = e} within failed =
      subst (λ text. Writes written_of errors_of inners_of old new text (Err e)) (sym (at_drop_more (flat_map text_of) xs i d within)) (Writes-fails (flat_map text_of (drop (i + 1) xs)) failed)

  -- the whole texts of the first items, followed by the result of the remaining items
  pub Writes-first : {X : Type 0} (text_of : X → List ℕ) (xs front after : List X) {old mid new : S} {x : Unit {0}} (r : Result (Unit {0}) Failed) → xs ≡ front ++ after
      → Writes written_of errors_of inners_of old mid (flat_map text_of front) (Ok x) → Writes written_of errors_of inners_of mid new (flat_map text_of after) r
      → Writes written_of errors_of inners_of old new (flat_map text_of xs) r
  Writes-first text_of xs front after {old = old} {new = new} r e first next =
      subst (λ text. Writes written_of errors_of inners_of old new text r) (sym (ap (flat_map text_of) e ∙ flat_map-append text_of front after)) (Writes-then r first next)

  -- the failed texts of the first items, followed by nothing
  pub Writes-first_fails : {X : Type 0} (text_of : X → List ℕ) (xs front after : List X) {old new : S} {e : Failed} → xs ≡ front ++ after
      → Writes written_of errors_of inners_of old new (flat_map text_of front) (Err e) → Writes written_of errors_of inners_of old new (flat_map text_of xs) (Err e)
  Writes-first_fails text_of xs front after {old = old} {new = new} {e = e} split failed =
      subst (λ text. Writes written_of errors_of inners_of old new text (Err e)) (sym (ap (flat_map text_of) split ∙ flat_map-append text_of front after)) (Writes-fails (flat_map text_of after) failed)
