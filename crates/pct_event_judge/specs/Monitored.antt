-- What the monitors of all laws keep of some events, newest first.
use Rattle.std.specs.Prelude.{ℕ, List}
use Rattle.pct_model.specs.declared.event.Event.{Event}
use Rattle.pct_audit.specs.Tells.{Tells, handler_stacks, slot_count}
use Rattle.pct_handler_monitor.specs.Monitors.{MonitorsHandlers}
use Rattle.pct_process_monitors.specs.KeysOfProcesses.{AreKeys}
use Rattle.pct_process_monitors.specs.ProcessesSoFar.{MonitorsProcesses}
use Rattle.pct_thread_monitors.specs.Monitors.{Monitors as MonitorsThreads}
use Rattle.pct_event_judge.specs.declared.monitors.Monitors.{Monitors}

-- each monitor keeps what its laws read of the events
pub record AreMonitored (m : Monitors) (events : List Event) : Type 0 where
  pub judge : Tells m.judge events
  pub handlers : MonitorsHandlers m.handlers (handler_stacks m.judge) events
  pub threads : MonitorsThreads m.threads events
  pub processes : MonitorsProcesses m.processes events
  pub keys : AreKeys m.keys events

-- the number of thread slots of a process
abbrev pub slots_in : Monitors → ℕ
slots_in m = slot_count m.judge
