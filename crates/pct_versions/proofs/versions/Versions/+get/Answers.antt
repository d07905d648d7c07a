-- The answers for `get`.
use Rattle.std.proofs.Common.{◌-◌, ◌/◌, sym, ap, ◌∙◌}
use Rattle.pct_versions.specs.Tries.{nodes_of, value_at}
use Rattle.pct_versions.proofs.TrieLemmas.{value_at_half, value_at_zero}
use Rattle.pct_versions.proofs.versions.Versions.+get.Goals as goal

pub returns-then-height-eq0 : goal.returns-then-height-eq0
returns-then-height-eq0 t c = sym (value_at_zero c.args.height _ c.args.root c.args.key c.if-height-eq0.true)

pub returns : goal.returns
returns t c =
    c.get.ensures ∙ ap (λ root. value_at (nodes_of c.args.self.now) (c.args.height - 1) root (c.args.key / 2)) c.child.ensures
    ∙ value_at_half c.args.height _ c.args.root c.args.key c.if-height-eq0.false
