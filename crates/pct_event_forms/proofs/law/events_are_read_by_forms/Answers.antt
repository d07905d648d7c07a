-- The answer for `events_are_read_by_forms`.
use Rattle.pct_event_forms.proofs.EventsRead.{event_read}
use Rattle.pct_event_forms.proofs.law.events_are_read_by_forms.Goals as goal

pub returns : goal.returns
returns c = event_read
