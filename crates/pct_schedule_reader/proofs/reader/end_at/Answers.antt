use Rattle.pct_names.proofs.Names.{sym, ◌∙◌}
use Rattle.pct_schedule.proofs.LineLoops.{is_last, is_not_last}
use Rattle.pct_schedule_reader.proofs.reader.end_at.Goals as goal

pub returns-then-is_empty : goal.returns-then-is_empty
returns-then-is_empty c =
    is_last c.args.number c.args.count c.args.line.now c.args.after.now (cc) (sym c.is_empty.ensures ∙ c.if-is_empty.true)

pub returns-else-is_empty : goal.returns-else-is_empty
returns-else-is_empty c =
    is_not_last c.args.number c.args.count c.args.line.now c.args.after.now (cc) (sym c.is_empty.ensures ∙ c.if-is_empty.false)
