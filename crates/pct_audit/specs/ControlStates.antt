-- The states of once controls by process: indexes into the states that events gave, and the number of them as a thread last began to end.
use Rattle.std.specs.Prelude.{◌≡◌, ℕ, ◌<◌, ◌≤◌, ◌^◌, if◌then◌else◌, List, length, Option, Some, None, slice_get, nat_lt}
use Rattle.std.specs.Coded.{×_prop, Π_prop, le_prop}
use Rattle.pct_model.specs.declared.state.OnceState.{OnceState}
use Rattle.pct_model.specs.declared.state.OnceState.TheVariants.{Fresh, Busy, Done}
use Rattle.pct_process_maps.specs.declared.process_maps.ProcessMaps.{ProcessMaps}
use Rattle.pct_process_maps.specs.Values.{value_in}

-- the state with an index, where the states before an index are given up by the thread that is busy with them
abbrev pub state_by : (ℕ → ℕ) → ℕ → Option OnceState → OnceState
state_by ends index None = Fresh
state_by ends index (Some Fresh) = Fresh
state_by ends index (Some (Busy tid)) = if nat_lt index (ends tid) then Fresh else Busy tid
state_by ends index (Some Done) = Done

-- the state of control o in process pid
abbrev pub state_at : List OnceState → ProcessMaps → ProcessMaps → ℕ → ℕ → OnceState
state_at states indexes ends pid o = state_by (value_in ends pid) (value_in indexes pid o) (slice_get states (value_in indexes pid o))

-- each index is that of a state; no more states than there are were given up; and the ids of threads are numbers of 32 bits
abbrev pub AreControls : List OnceState → ProcessMaps → ProcessMaps → Type 0
AreControls states indexes ends =
    ((pid o : ℕ) → o < 2 ^ 32 → value_in indexes pid o < length states)
    × (((pid tid : ℕ) → tid < 2 ^ 32 → value_in ends pid tid ≤ length states)
    × ((index tid : ℕ) → slice_get states index ≡ Some (Busy tid) → tid < 2 ^ 32))

-- it is so in at most one way
pub AreControls-prop : (states : List OnceState) (indexes ends : ProcessMaps) → IsProp (AreControls states indexes ends)
AreControls-prop states indexes ends =
    ×_prop (Π_prop (λ pid. Π_prop (λ o. Π_prop (λ low. le_prop))))
    (×_prop (Π_prop (λ pid. Π_prop (λ tid. Π_prop (λ low. le_prop)))) (Π_prop (λ index. Π_prop (λ tid. Π_prop (λ is. le_prop)))))
