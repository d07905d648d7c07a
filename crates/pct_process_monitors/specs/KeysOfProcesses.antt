-- What the monitor of the law of keys keeps of the events that it has seen.
use Rattle.std.specs.Prelude.{◌≡◌, ℕ, ◌<◌, ◌^◌, if◌then◌else◌, List}
use Rattle.pct_model.specs.declared.event.Event.{Event}
use Rattle.pct_laws.specs.KeyEvents.{has_key}
use Rattle.pct_process_maps.specs.Values.{value_in}
use Rattle.pct_process_monitors.specs.declared.keys.KeyMonitor.{KeyMonitor}

-- the monitor has the keys that processes have after some events, newest first
abbrev pub AreKeys : KeyMonitor → List Event → Type 0
AreKeys monitor events = (pid key : ℕ) → key < 2 ^ 32 → value_in monitor.keys pid key ≡ (if has_key pid key events then 1 else 0)
