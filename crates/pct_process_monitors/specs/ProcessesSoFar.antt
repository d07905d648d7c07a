-- What the monitor of the law of processes keeps of the events that it has seen.
use Rattle.std.specs.Prelude.{◌≡◌, ℕ, ◌||◌, List}
use Rattle.std.specs.List.{list_any}
use Rattle.std.specs.Ordering.{nat_cmp}
use Rattle.std.specs.BTreeMap.{get}
use Rattle.pct_model.specs.declared.event.Event.{Event}
use Rattle.pct_laws.specs.KnownThreads.{is_in, makes_process}
use Rattle.pct_laws.specs.ProcessEnds.{end_status, exit_value}
use Rattle.pct_laws.specs.ProcessLaw.{is_stop, has_in, reaps_process}
use Rattle.pct_process_monitors.specs.declared.processes.ProcessMonitor.{ProcessMonitor}
use Rattle.pct_process_monitors.specs.ProcessSets.{has_process, has_child}

-- the monitor keeps what some events report, newest first
pub record MonitorsProcesses (monitor : ProcessMonitor) (events : List Event) : Type 0 where
  -- whether the run was stopped
  pub stopped : monitor.stopped ≡ list_any (λ e. is_stop e.what) events
  -- the status with which each process ended, and the value with which exit began in it
  pub statuses : (pid : ℕ) → get nat_cmp monitor.statuses pid ≡ end_status pid events
  pub exits : (pid : ℕ) → get nat_cmp monitor.exits pid ≡ exit_value pid events
  -- the processes that a fork made, or that have an event
  pub present : (pid : ℕ) → has_process monitor.present pid ≡ (list_any (λ e. makes_process pid e.what) events || list_any (is_in pid) events)
  -- the children of each process
  pub children : (pid child : ℕ) → has_child monitor.children pid child ≡ has_in (makes_process child) pid events
  -- the processes that were reaped
  pub reaped : (pid : ℕ) → has_process monitor.reaped pid ≡ list_any (λ e. reaps_process pid e.what) events
