use Rattle.pct_names.proofs.Names.{ap, ◌∙◌}
use Rattle.pct_model.specs.Schedule.{begins}
use Rattle.pct_schedule.proofs.BySplits.{begins_after_word, begins_otherwise}
use Rattle.pct_schedule.proofs.line.begins_with.Goals as goal

pub returns-then-starts_with : goal.returns-then-starts_with
returns-then-starts_with c =
    begins_after_word c.text-word.result.now c.args.line.now _ _ c.starts_with.ensures.value c.if-starts_with.true c.starts_with-then-starts_with.ensures.value
    ∙ ap (λ word. begins word c.args.line.now) c.text-word.ensures

pub returns-else-starts_with : goal.returns-else-starts_with
returns-else-starts_with c =
    begins_otherwise c.text-word.result.now c.args.line.now _ c.starts_with.ensures.value c.if-starts_with.false ∙ ap (λ word. begins word c.args.line.now) c.text-word.ensures
