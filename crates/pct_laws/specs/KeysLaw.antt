-- The law of keys: a destructor is called with a value that is not NULL, for a key that was made and not deleted (XSH pthread_key_create,
-- pthread_key_delete). It speaks of the events of a run alone.
use Rattle.std.specs.Prelude.{ℕ, Bool, true, not, ◌&&◌, List, nat_eq}
use Rattle.pct_model.specs.declared.event.Event.{Event}
use Rattle.pct_model.specs.declared.event.What.{What}
use Rattle.pct_model.specs.declared.event.What.TheVariants as what
use Rattle.pct_laws.specs.KeyEvents.{has_key}

-- what the law asks of an event of process pid, by those before it
abbrev pub may_destroy : What → ℕ → List Event → Bool
-- a destructor is called with a value that is not NULL, and its key is there
may_destroy (what.DtorRun pass key f v) pid earlier = not (nat_eq v 0) && has_key pid key earlier
-- the law asks nothing of the other events
may_destroy _ pid earlier = true

-- an event may come after those before it
abbrev pub allows : Event → List Event → Bool
allows e earlier = may_destroy e.what e.pid earlier
