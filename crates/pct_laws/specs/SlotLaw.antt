-- The law of thread ids and slots: a new thread gets an id that no thread of its process had, and each earlier thread of its slot has ended
-- and was joined or is detached (XSH 2.9.2, pthread_create, pthread_join, pthread_detach; slots are a choice of this host). It speaks of the
-- events of a run alone, and of the number of slots.
use Rattle.std.specs.Prelude.{ℕ, Bool, true, not, ◌&&◌, ◌||◌, List, nat_eq}
use Rattle.std.specs.List.{list_all}
use Rattle.pct_model.specs.declared.event.Event.{Event}
use Rattle.pct_model.specs.declared.event.What.{What}
use Rattle.pct_model.specs.declared.event.What.TheVariants as what
use Rattle.pct_laws.specs.KnownThreads.{is_known}
use Rattle.pct_model.specs.ThreadSlots.{slot_of}
use Rattle.pct_laws.specs.KnownIds.{known_ids}
use Rattle.pct_laws.specs.ThreadSummary.{is_reclaimed}

module _ (slots : ℕ) where
  -- a thread of process pid leaves the slot of thread id free: it has another slot, or the lifetime of its id is over
  abbrev pub leaves_slot : ℕ → ℕ → List Event → ℕ → Bool
  leaves_slot pid id earlier tid = not (nat_eq (slot_of slots tid) (slot_of slots id)) || is_reclaimed pid tid earlier

  -- what the law asks of an event of process pid, by those before it
  abbrev pub may_create : What → ℕ → List Event → Bool
  -- no thread of the process had the id of a new one, and each known thread leaves its slot free
  may_create (what.Created id detached) pid earlier = not (is_known pid id earlier) && list_all (leaves_slot pid id earlier) (known_ids pid earlier)
  -- the law asks nothing of the other events
  may_create _ pid earlier = true

  -- an event may come after those before it
  abbrev pub allows : Event → List Event → Bool
  allows e earlier = may_create e.what e.pid earlier
