use Rattle.pct_view_texts.proofs.Appending.{then_text}
use Rattle.pct_view_texts.proofs.FieldTexts.{events_each}
use Rattle.pct_view_texts.proofs.events.push_events.Goals as goal

pub returns-in_ok-push_event-in-Some : goal.returns-in_ok-push_event-in-Some
returns-in_ok-push_event-in-Some c =
    rw (c.in-Some.ensures.cases.0, events_each c.args.script.now c.in-Some.first.now c.in-Some.rest.now) (then_text _ _ _ _ _ _ c.in_ok-push_event-in-Some.ensures c.push_other_events.ensures)
