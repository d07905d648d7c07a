-- That a thread has ended, and has begun to exit its process, in its summary: an event of it changes both, and no event takes them back.
use Rattle.pct_names.proofs.Names.{Bool, cond, Event, false, is_some, List, or_right, refl, true, What, ◌||◌, ℕ, ◌∙◌, ◌∷◌, ◌≡◌}
use Rattle.pct_model.specs.declared.event.What.TheVariants as what
use Rattle.pct_laws.specs.KnownThreads.{is_own, is_fork_of, reports_end}
use Rattle.pct_laws.specs.ThreadSummary.{ThreadSummary, with_event, summary_of, thread_ended}

-- the event is that exit begins
abbrev pub begins_exit : What → Bool
begins_exit (what.ExitBegun v) = true
begins_exit _ = false

-- after an event of the thread
pub ended_after : (w : What) (s : ThreadSummary) → is_some (with_event w s).ended ≡ (reports_end w || is_some s.ended)
ended_after (what.EndedWith v) s = refl
ended_after _ s = refl

pub exiting_after : (w : What) (s : ThreadSummary) → (with_event w s).exiting ≡ (begins_exit w || s.exiting)
exiting_after (what.ExitBegun v) s = refl
exiting_after _ s = refl

-- after any event
ended_by : (own fork : Bool) (w : What) (s parent : ThreadSummary) → is_some s.ended ≡ true → is_some (cond own (with_event w s) (cond fork (record s { handlers = parent.handlers }) s)).ended ≡ true
ended_by true fork w s parent ended = ended_after w s ∙ or_right (reports_end w) (is_some s.ended) ended
ended_by false true w s parent ended = ended
ended_by false false w s parent ended = ended

pub ended_stays : (pid tid : ℕ) (e : Event) (earlier : List Event) → thread_ended pid tid earlier ≡ true → thread_ended pid tid (e ∷ earlier) ≡ true
ended_stays pid tid e earlier = ended_by (is_own pid tid e) (is_fork_of pid tid e) e.what (summary_of pid tid earlier) (summary_of e.pid tid earlier)

exiting_by : (own fork : Bool) (w : What) (s parent : ThreadSummary) → s.exiting ≡ true → (cond own (with_event w s) (cond fork (record s { handlers = parent.handlers }) s)).exiting ≡ true
exiting_by true fork w s parent exits = exiting_after w s ∙ or_right (begins_exit w) s.exiting exits
exiting_by false true w s parent exits = exits
exiting_by false false w s parent exits = exits

pub exiting_stays : (pid tid : ℕ) (e : Event) (earlier : List Event) → (summary_of pid tid earlier).exiting ≡ true → (summary_of pid tid (e ∷ earlier)).exiting ≡ true
exiting_stays pid tid e earlier = exiting_by (is_own pid tid e) (is_fork_of pid tid e) e.what (summary_of pid tid earlier) (summary_of e.pid tid earlier)
