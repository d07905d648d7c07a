-- The states of once controls.
use Rattle.std.specs.Prelude.{ℕ}
use Rattle.pct_model.specs.declared.state.OnceState.{OnceState}
use Rattle.pct_audit.specs.declared.controls.Controls.{Controls}
use Rattle.pct_audit.specs.ControlStates.{state_at}

-- the state of control o in process pid
abbrev pub state_in : Controls → ℕ → ℕ → OnceState
state_in controls pid o = state_at controls.states.items controls.indexes controls.ends pid o
