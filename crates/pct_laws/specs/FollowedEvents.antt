-- Events of one kind that are each directly followed by an event of another kind, of the same thread. The events are listed newest first, as
-- in the trace of a run.
use Rattle.std.specs.Prelude.{Bool, true, false, not, ◌&&◌, ◌||◌, List, [], ◌∷◌}
use Rattle.pct_model.specs.declared.event.Event.{Event}
use Rattle.pct_model.specs.declared.event.What.{What}
use Rattle.pct_laws.specs.Each.{each}
use Rattle.pct_laws.specs.KnownThreads.{is_own}

-- the newest of some events passes a test
abbrev pub newest_passes : (What → Bool) → List Event → Bool
newest_passes test [] = false
newest_passes test (e ∷ earlier) = test e.what

module _ (first second : What → Bool) where
  -- an event may come after those before it: if the newest of them is of the first kind, it is of the second kind and of the same thread
  abbrev pub follows : Event → List Event → Bool
  follows e [] = true
  follows e (x ∷ earlier) = not (first x.what) || (is_own x.pid x.tid e && second e.what)

  -- so it is with each event, and the newest is not of the first kind
  abbrev pub are_followed : List Event → Bool
  are_followed events = each follows events && not (newest_passes first events)
