-- Lemmas on the inner sinks of a sink.
use Rattle.std.proofs.Common.{ℕ, List, [], ◌∷◌, ◌++◌, Option, Result, Ok, Err, take, refl, ◌∙◌}
use Rattle.std.specs.Io.KnownBytes.{Keeps, WriteAppends}
use Rattle.std.proofs.KnownBytes.{Appends-trans, Appends-nil, Appends-kept}
use Rattle.pct_io.specs.Inners.{Inner, Grows, KeepsInners}

pub Grows-refl : (old : Option (List ℕ)) → Grows old old
Grows-refl old = ([], Appends-nil old)

pub Grows-trans : (old mid new : Option (List ℕ)) → Grows old mid → Grows mid new → Grows old new
Grows-trans old mid new first next = (first.0 ++ next.0, Appends-trans old mid new first.0 next.0 first.1 next.1)

-- bytes that stayed the same grew by none
pub Grows-kept : (old new : Option (List ℕ)) → Keeps old new → Grows old new
Grows-kept old new kept = ([], Appends-kept old old new [] (Appends-nil old) kept)

-- a write makes the bytes of a sink grow
pub Grows-written : {E : Type 0} (old new : Option (List ℕ)) (r : Result ℕ E) (piece : List ℕ) → WriteAppends old new r piece → Grows old new
Grows-written old new (Ok n) piece appends = (take n piece, appends)
Grows-written old new (Err e) piece keeps = Grows-kept old new keeps

pub KeepsInners-refl : (olds : List Inner) → KeepsInners olds olds
KeepsInners-refl [] = tt
KeepsInners-refl (old ∷ olds) = (record { same_reference = refl; grows = Grows-refl old.written }, KeepsInners-refl olds)

pub KeepsInners-trans : (olds mids news : List Inner) → KeepsInners olds mids → KeepsInners mids news → KeepsInners olds news
KeepsInners-trans [] [] [] first next = tt
KeepsInners-trans [] [] (new ∷ news) first next = absurd next
KeepsInners-trans [] (mid ∷ mids) news first next = absurd first
KeepsInners-trans (old ∷ olds) [] news first next = absurd first
KeepsInners-trans (old ∷ olds) (mid ∷ mids) [] first next = absurd next
KeepsInners-trans (old ∷ olds) (mid ∷ mids) (new ∷ news) first next = (
  record {
    same_reference = next.0.same_reference ∙ first.0.same_reference;
    grows = Grows-trans old.written mid.written new.written first.0.grows next.0.grows;
  },
  KeepsInners-trans olds mids news first.1 next.1,
)
