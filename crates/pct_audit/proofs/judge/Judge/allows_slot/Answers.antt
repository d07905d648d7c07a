-- The answer for `allows_slot`.
use Rattle.std.proofs.Common.{sym, ap, ◌∙◌}
use Rattle.pct_model.specs.declared.event.What.{What}
use Rattle.pct_laws.specs.SlotLaw.{may_create}
use Rattle.pct_audit.proofs.judge.Judge.allows_slot.Goals as goal

pub returns-in-Created : goal.returns-in-Created
returns-in-Created c = λ events told.
    c.is_open.ensures c.in-Created.detached events told ∙ ap (λ (w : What). may_create c.args.self.now.slots w c.args.event.pid events) (sym c.in-Created.is)
