-- The form of a law of the events of a run: a test of an event against those before it. The events are listed newest first, as in the
-- trace of a run.
use Rattle.std.specs.Prelude.{Bool, true, ◌&&◌, List, [], ◌∷◌}
use Rattle.pct_model.specs.declared.event.Event.{Event}

-- each event may come after those before it
abbrev pub each : (Event → List Event → Bool) → List Event → Bool
each allows [] = true
each allows (e ∷ earlier) = allows e earlier && each allows earlier
