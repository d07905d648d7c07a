-- The answer for `add`.
use Rattle.std.proofs.Common.{◌∷◌}
use Rattle.pct_audit.specs.Tells.{handler_stacks}
use Rattle.pct_handler_monitor.proofs.MoreStacks.{monitors_grows}
use Rattle.pct_event_judge.proofs.monitors.Monitors.add.Goals as goal

pub returns-clause-told : goal.returns-clause-told
returns-clause-told c = λ events told. let old = c.args.self in record {
  judge = c.in_ok-tables.ensures.told events told.judge;
  handlers = monitors_grows c.add.new.self (handler_stacks old.judge) (handler_stacks c.in_ok-tables.tables.judge) (c.args.event ∷ events)
      (c.in_ok-add.ensures.ok events told.judge told.handlers) c.in_ok-tables.ensures.stacks;
  threads = c.in_ok-tables.ensures.threads events told.threads;
  processes = c.in_ok-tables.ensures.processes events told.processes;
  keys = c.in_ok-add-2.ensures.ok events told.keys;
}
