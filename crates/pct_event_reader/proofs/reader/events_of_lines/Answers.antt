use Rattle.pct_names.proofs.Names.{All, All-push, arith, List, map, slice_index_or, subst, sym, take, words_of, ℕ}
use Rattle.pct_expect.specs.Events.{part_at}
use Rattle.pct_name_numbers.specs.EventReading.{events_of, no_names}
use Rattle.pct_event_reader.specs.EventReports.{HasIds}
use Rattle.pct_event_reader.specs.Numberings.{Numbers}
use Rattle.pct_event_reader.proofs.EventLists.{numbers_more, part_more}
use Rattle.pct_event_reader.proofs.reader.events_of_lines.Goals as goal

pub read_event-requires-clause-event : goal.read_event-requires-clause-event
read_event-requires-clause-event c = c.requires.events c.loop-span.span-index (record { start = 0; end = 0 }) c.loop-span-test.true

pub loop-span-preserved : goal.loop-span-preserved
loop-span-preserved c =
    let i = c.loop-span.span-index in
    let text = c.args.text.now in
    let spans = c.args.lines.now in
    let event = c.in_ok-read_event.field-0 in
    let before = c.loop-span.invariant.read in
    let line = part_at text (slice_index_or spans i (record { start = 0; end = 0 })) in
    record {
      read = subst (λ (lines : List (List (List ℕ))). Numbers (events_of no_names lines) c.read_event.new.names c.push.new.self.items)
          (sym (part_more text spans i (record { start = 0; end = 0 }) c.loop-span-test.true))
          (numbers_more (map (λ span. words_of (part_at text span)) (take i spans)) (words_of line) c.loop-span.names c.read_event.new.names c.loop-span.events.items c.push.new.self.items event c.in_ok-push.ensures.items
          before c.in_ok-read_event.ensures.event);
      ids = subst (All HasIds) (sym c.in_ok-push.ensures.items) (All-push HasIds c.loop-span.events.items event c.loop-span.invariant.ids (c.in_ok-read_event.ensures.ids before.0 before.2));
      count = omega (arith, c.loop-span.invariant.count, c.in_ok-read_event.ensures.count);
      length = omega (arith, c.loop-span.invariant.length, c.in_ok-push.ensures.len);
    }
