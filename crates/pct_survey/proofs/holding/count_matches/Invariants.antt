use Rattle.pct_names.proofs.Names.{count_by, event_line, take, ◌≡◌, ◌≤◌}
use Rattle.pct_expect.specs.Events.{matches}
use Rattle.pct_survey.proofs.holding.count_matches.Given as goal

-- the events so far are counted
abbrev pub invariant-loop-event : goal.invariant-loop-event
invariant-loop-event l = record {
  counted : l.count ≡ count_by (λ event. matches l.pattern (event_line l.script event)) (take l.event-index l.events);
  within : l.count ≤ l.event-index;
}
