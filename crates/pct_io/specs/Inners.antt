-- The sinks that a sink writes to.
use Rattle.std.specs.Prelude.{◌≡◌, ℕ, List, [], ◌∷◌, Option}
use Rattle.std.specs.Borrow.{GName}
use Rattle.std.specs.Io.KnownBytes.{Appends}

-- a sink behind a reference: the ghost name of the reference, and the bytes written to the sink if it reports them
pub record Inner : Type 0 where
  pub name : GName
  pub written : Option (List ℕ)

-- the reported bytes grow at their end
abbrev pub Grows : Option (List ℕ) → Option (List ℕ) → Type 0
Grows old new = (more : List ℕ) × Appends old new more

-- the reference is the same, and the bytes of its sink grew at their end
pub record KeepsInner (old new : Inner) : Type 0 where
  pub same_reference : new.name ≡ old.name
  pub grows : Grows old.written new.written

-- the references are the same, and the bytes of each sink grew at their end
abbrev pub KeepsInners : List Inner → List Inner → Type 0
KeepsInners [] [] = Unit {0}
KeepsInners [] (new ∷ news) = ⊥
KeepsInners (old ∷ olds) [] = ⊥
KeepsInners (old ∷ olds) (new ∷ news) = KeepsInner old new × KeepsInners olds news
