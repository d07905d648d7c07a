use Rattle.pct_names.proofs.Names.{decimal_digit, keyword_text}
use Rattle.pct_schedule.proofs.writer.prepend_go.Goals as goal

pub returns-then-entry-lt10-3 : goal.returns-then-entry-lt10-3
unfolding keyword_text
returns-then-entry-lt10-3 c =
    let entry = c.args.entry in
    rw (decimal_digit entry.worker c.if-entry-lt10.true, decimal_digit entry.pid c.if-entry-lt10-2.true, decimal_digit entry.tid c.if-entry-lt10-3.true) c.prepend.ensures
