-- The law of cleanup handlers and destructors: no handler is removed twice; the newest is removed first, by a pop or as the thread
-- ends; a thread ends once, with none left; and after the handlers, pass by pass, no key has two events of its destructor in a pass
-- (XSH 2.9.5.3, pthread_exit, pthread_cleanup_push, pthread_key_create). It speaks of the events of a run alone, and of the limit on the
-- passes. That the functions named by the events are called is said by the law of calls, and that a thread that has ended makes no
-- further event of this kind by the law of what follows the end.
use Rattle.std.specs.Prelude.{ℕ, suc, Bool, true, false, not, ◌&&◌, ◌||◌, List, [], ◌∷◌, length, is_none, nat_eq, nat_lt, nat_le}
use Rattle.std.specs.List.{list_any}
use Rattle.pct_model.specs.declared.event.Event.{Event}
use Rattle.pct_model.specs.declared.event.What.{What}
use Rattle.pct_model.specs.declared.event.What.TheVariants as what
use Rattle.pct_model.specs.declared.state.Reason.{Reason}
use Rattle.pct_model.specs.declared.state.Reason.TheVariants as reason
use Rattle.pct_model.specs.LineParsing.{is_empty}
use Rattle.pct_model.specs.StopTable.{has_begun_to_end}
use Rattle.pct_laws.specs.ThreadSummary.{ThreadSummary, summary_of}

-- the pair of a pass and a key, or of a function and its argument
abbrev pub is_pair : ℕ → ℕ → (ℕ × ℕ) → Bool
is_pair pass key pair = nat_eq pair.0 pass && nat_eq pair.1 key

-- the newest of some handlers is this one, with its argument
abbrev pub is_newest : ℕ → ℕ → List (ℕ × ℕ) → Bool
is_newest f a [] = false
is_newest f a (handler ∷ older) = is_pair f a handler

-- the value PTHREAD_CANCELED: this number is a choice of this host (XBD pthread.h)
abbrev pub PTHREAD_CANCELED : ℕ
PTHREAD_CANCELED = 4294967295

-- the value with which a thread ends, by the reason for its end (XSH pthread_exit, 2.9.5.3)
abbrev pub value_of_end : Reason → ℕ
value_of_end reason.None = 0
value_of_end (reason.Exit v) = v
value_of_end reason.Canceled = PTHREAD_CANCELED

module _ (passes : ℕ) where
  -- what the law asks of an event of a thread, by the summary of the thread before it
  abbrev pub may_come : What → ThreadSummary → Bool
  -- a pop removes the newest open handler (XSH pthread_cleanup_pop): after the ending event, one that was pushed since then
  may_come (what.Popped f a run) s = is_newest f a s.handlers && (not (has_begun_to_end s.reason) || nat_lt (length s.left) (length s.handlers))
  -- the newest open handler runs, after the ending event: it is one of those that were open then, and each that was pushed since is
  -- popped (XSH 2.9.5.3, pthread_exit)
  may_come (what.HandlerRun f a) s = is_newest f a s.handlers && has_begun_to_end s.reason && nat_eq (length s.handlers) (length s.left)
  -- a thread has one ending event
  may_come (what.EndingExit v) s = not (has_begun_to_end s.reason)
  may_come what.EndingCanceled s = not (has_begun_to_end s.reason)
  may_come (what.EndingInWait c m) s = not (has_begun_to_end s.reason)
  -- a thread ends once, after its ending event, with no open handler, and with the value of its reason (XSH pthread_exit, 2.9.5.3)
  may_come (what.EndedWith v) s = has_begun_to_end s.reason && is_none s.ended && is_empty s.handlers && nat_eq v (value_of_end s.reason)
  -- a pass over the destructors begins after the ending event, with no open handler (XSH 2.9.5.3); the passes are numbered from 1,
  -- up to their limit (XSH pthread_key_create)
  may_come (what.PassBegun n) s = has_begun_to_end s.reason && is_empty s.handlers && nat_eq n (suc s.passes) && nat_le n passes
  -- the destructor of a key is called in the current pass, with no open handler, and once in it (XSH pthread_key_create)
  may_come (what.DtorRun pass key f v) s =
      nat_eq pass s.passes && nat_lt 0 pass && is_empty s.handlers && not (list_any (is_pair pass key) s.destroyed)
  -- values with destructors are left only after the last pass (XSH pthread_key_create)
  may_come (what.Leftover n) s = nat_lt 0 n && nat_eq s.passes passes
  -- the law asks nothing of the other events
  may_come _ s = true

  -- an event may come after those before it
  abbrev pub allows : Event → List Event → Bool
  allows e earlier = may_come e.what (summary_of e.pid e.tid earlier)
