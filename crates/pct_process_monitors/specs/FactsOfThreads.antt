-- What the law of processes reads of threads.
use Rattle.std.specs.Prelude.{◌≡◌, ℕ, List}
use Rattle.pct_model.specs.declared.event.Event.{Event}
use Rattle.pct_model.specs.declared.event.What.TheVariants as what
use Rattle.pct_laws.specs.KnownThreads.{is_known}
use Rattle.pct_laws.specs.ThreadSummary.{summary_of, thread_ended}
use Rattle.pct_process_monitors.specs.declared.facts.ThreadFacts.{ThreadFacts}

-- the facts are those of an event that comes after some events, newest first
pub record AreFacts (facts : ThreadFacts) (event : Event) (events : List Event) : Type 0 where
  -- the thread of the event
  pub known : facts.known ≡ is_known event.pid event.tid events
  pub ended : facts.ended ≡ thread_ended event.pid event.tid events
  pub exiting : facts.exiting ≡ (summary_of event.pid event.tid events).exiting
  -- the thread that it joins
  pub joined : (id v : ℕ) → event.what ≡ what.Joined id v → facts.joined_known ≡ is_known event.pid id events
