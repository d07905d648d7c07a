-- The laws of events are among those of runs.
use Rattle.pct_event_laws.proofs.law.laws_are_of_events.Goals as goal

pub returns : goal.returns
returns c = λ script config entries r laws. record {
  once = laws.once;
  ran_all = laws.ran_all;
  after_end = laws.after_end;
  leftovers = laws.ends.left;
  keys = laws.calls.keys;
  requests = laws.cancels.requests;
  joins = laws.joins;
  conds = laws.conds;
  controls = laws.controls.called;
  creations = laws.creations;
  processes = laws.processes;
}
