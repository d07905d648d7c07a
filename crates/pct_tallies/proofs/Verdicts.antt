-- The equality that verdicts derive is equality.
use Rattle.std.proofs.Common.{◌≡◌, true, refl, ap, rules}
use denote.Enum.Bare.{same_true, true_same}
use Rattle.pct_model.specs.declared.stop.Why.{Why}
use Rattle.pct_model.specs.declared.stop.Verdict.{Verdict}
use Rattle.pct_model.specs.declared.stop.Verdict.TheVariants as verdict
use Rattle.pct_model.specs.contracts.stop.Why.{the_type}
use Rattle.pct_model.specs.contracts.stop.VerdictPartialEq.TheImpl as verdict_eq
use Rattle.pct_model.specs.contracts.stop.WhyPartialEq.TheImpl as why_eq

pub same_why : (a b : Why) → why_eq.ghosts.eq a b ≡ true → a ≡ b
same_why a b h = same_true the_type (search rules) a b h

pub why_is_itself : (w : Why) → why_eq.ghosts.eq w w ≡ true
why_is_itself w = true_same the_type w w refl

-- verdicts that compare equal are one
pub same_verdict : (a b : Verdict) → verdict_eq.ghosts.eq a b ≡ true → a ≡ b
same_verdict (verdict.Undefined a) (verdict.Undefined b) h = ap verdict.Undefined (same_why a b h)
same_verdict verdict.Complete verdict.Complete h = refl
same_verdict verdict.Deadlock verdict.Deadlock h = refl
same_verdict verdict.Budget verdict.Budget h = refl
same_verdict verdict.Open verdict.Open h = refl
same_verdict a b h = search rules

-- a verdict compares equal to itself
pub same_as_itself : (v : Verdict) → verdict_eq.ghosts.eq v v ≡ true
same_as_itself (verdict.Undefined w) = true_same the_type w w refl
same_as_itself verdict.Complete = refl
same_as_itself verdict.Deadlock = refl
same_as_itself verdict.Budget = refl
same_as_itself verdict.Open = refl
