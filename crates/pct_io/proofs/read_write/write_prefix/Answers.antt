use Rattle.std.proofs.Common.{◌-◌, ◌++◌, length, take, drop, refl, sym, ap, subst, ◌∙◌, arith, length-take}
use Rattle.std.proofs.Math.Seq.{take-add, take-take}
use Rattle.std.specs.Io.KnownBytes.{Appends}
use Rattle.std.proofs.KnownBytes.{Appends-trans, Appends-nil}
use Rattle.pct_io.proofs.Unchanged.{KeepsInners-refl, KeepsInners-trans}
use Rattle.pct_io.proofs.read_write.write_prefix.Goals as goal

pub loop-done-init : goal.loop-done-init
loop-done-init g c = record {
  within = omega arith;
  written = Appends-nil _;
  no_error = refl;
  inners = KeepsInners-refl _;
}

pub loop-done-preserved : goal.loop-done-preserved
loop-done-preserved g c =
    let done = c.loop-done.done in
    let count = c.in-Ok.count in
    let piece = c.args.piece.now in
    let before = c.loop-done.invariant in
    let fits = c.in-Ok.ensures.bound.bound in
    let most = length-take (length piece - done) (drop done piece) in
    let joined = ap (λ l. take done piece ++ l) (take-take count (length piece - done) (drop done piece) (omega arith)) ∙ sym (take-add done count piece) in
    record {
      within = omega arith;
      written = subst (Appends _ _) joined (Appends-trans _ _ _ _ _ before.written c.in-Ok.ensures.bytes);
      no_error = c.in-Ok.ensures.cause.ok ∙ before.no_error;
      inners = KeepsInners-trans _ _ _ before.inners c.write.ensures.inners;
    }

pub returns-in-Err-clause-inners : goal.returns-in-Err-clause-inners
returns-in-Err-clause-inners g c = KeepsInners-trans _ _ _ c.loop-done.invariant.inners c.write.ensures.inners
