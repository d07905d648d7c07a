use Rattle.pct_names.proofs.Names.{reverse, take, total_of, ◌≡◌}
use Rattle.pct_demo.proofs.summary.total_of.Given as goal

-- the total of the events so far
abbrev pub invariant-loop-event : goal.invariant-loop-event
invariant-loop-event l = l.total ≡ total_of (reverse (take l.event-index l.events))
