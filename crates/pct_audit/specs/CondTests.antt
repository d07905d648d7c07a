-- What the law of mutexes and condition waits reads of the events so far.
use Rattle.std.specs.Prelude.{List, [], ◌∷◌, Option, Some, None}
use Rattle.pct_model.specs.declared.event.Event.{Event}

-- the newest of some events
abbrev pub newest_of : List Event → Option Event
newest_of [] = None
newest_of (e ∷ events) = Some e

-- the event alone, if there is one
abbrev pub listed : Option Event → List Event
listed None = []
listed (Some e) = e ∷ []
