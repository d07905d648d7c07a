use Rattle.pct_names.proofs.Names.{drop, is_some, run, take, true, ◌≡◌}
use Rattle.pct_history.proofs.replaying.make_steps.Given as goal

-- the steps of the entries so far were made, and the others are still planned
abbrev pub invariant-loop-index : goal.invariant-loop-index
invariant-loop-index g l = record {
  made : l.run.engine ≡ record l.initial.run.engine { history = take l.index l.initial.run.planned };
  planned : l.run.planned ≡ drop l.index l.initial.run.planned;
  legal : is_some (run l.initial.run.engine.script l.initial.run.engine.config (take l.index l.initial.run.planned)) ≡ true;
}
