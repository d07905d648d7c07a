-- The answer for `next_row`.
use Rattle.pct_audit.proofs.changes.next_row.Goals as goal

pub returns-clause-row : goal.returns-clause-row
returns-clause-row c = λ s row. let made = c.in_ok-next.ensures.row s row in record {
  handlers_number = made.handlers_number;
  handlers = made.handlers;
  left_number = made.left_number;
  left = made.left;
  reason = made.reason;
  ended = made.ended;
  passes = made.passes;
}
