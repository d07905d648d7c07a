use Rattle.pct_names.proofs.Names.{sym, ◌∙◌}
use Rattle.pct_schedule.proofs.Prefixes.{prefix_of_none, prefix_of_some}
use Rattle.pct_schedule_reader.proofs.reader.read_prefix.Goals as goal

pub returns-then-is_empty-clause-read : goal.returns-then-is_empty-clause-read
returns-then-is_empty-clause-read c =
    rw (c.of.ensures, c.new.ensures.items) (prefix_of_none c.args.format c.args.text.now (sym c.is_empty.ensures ∙ c.if-is_empty.true))

pub returns-clause-read : goal.returns-clause-read
returns-clause-read c = rw (prefix_of_some c.args.format c.args.text.now (sym c.is_empty.ensures ∙ c.if-is_empty.false)) c.read_text.ensures.read
