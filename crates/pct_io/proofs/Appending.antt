-- Lemmas on bytes that are appended in several steps.
use Rattle.std.proofs.Common.{ℕ, ◌+◌, List, ◌++◌, Option, length, take, sym, subst, arith, length-append}
use Rattle.std.proofs.Math.Seq.{take-append-add, take-append-le}
use Rattle.std.specs.Io.KnownBytes.{Appends}
use Rattle.std.proofs.KnownBytes.{Appends-trans}
use Rattle.pct_io.specs.Sinks.{AppendsPrefix}

-- a prefix of a text is a prefix of a longer text
pub AppendsPrefix-more : (old new : Option (List ℕ)) (a b : List ℕ) → AppendsPrefix old new a → AppendsPrefix old new (a ++ b)
AppendsPrefix-more old new a b part = (
  part.0,
  omega (arith, length-append a b, part.1),
  subst (Appends old new) (sym (take-append-le part.0 a b part.1)) part.2,
)

-- a whole text, followed by a prefix of the next
pub AppendsPrefix-after : (old mid new : Option (List ℕ)) (a b : List ℕ) → Appends old mid a → AppendsPrefix mid new b → AppendsPrefix old new (a ++ b)
AppendsPrefix-after old mid new a b whole part = (
  length a + part.0,
  omega (arith, length-append a b, part.1),
  subst (Appends old new) (sym (take-append-add a b part.0)) (Appends-trans old mid new a (take part.0 b) whole part.2),
)
