-- A report with its events, from its parts.
use Rattle.pct_names.proofs.Names.{map-map, words_of, All, ap, Config, Err, lines_of, List, map, Ok, Option, refl, Some, sym, true, ℕ, ◌∙◌, ◌≡◌, length, ◌≤◌}
use Rattle.std.specs.Prelude.{IsOk}
use Rattle.pct_expect.specs.declared.span.Span.{Span}
use Rattle.pct_expect.specs.Events.{part_at}
use Rattle.pct_model.specs.declared.event.Event.{Event}
use Rattle.pct_model.specs.Lines.{strip_cr}
use Rattle.pct_report_reader.proofs.EventPlaces.{few_places}
use Rattle.pct_report_reader.proofs.ReadLines.{parts_are_events, parts_read, places_read}
use Rattle.pct_report_reader.specs.declared.fault.ReportFault.{ReportFault}
use Rattle.pct_report_reader.specs.declared.fault.ReportFault.TheVariants as fault
use Rattle.pct_report_reader.specs.EventWords.{event_words_in}
use Rattle.pct_report_reader.specs.Gives.{Fails}
use Rattle.pct_report_reader.specs.Reading.{Read, ReadBody, body_in, config_with, event_lines, is_event, report_in, with_lines}
use Rattle.pct_event_reader.specs.EventReports.{event_report_in, events_of_words, report_events, with_events}
use Rattle.pct_event_reader.proofs.EventLists.{All-of_map}

pub report_refused : (e : ReportFault) (text : List ℕ) → Fails e (report_in text) → Fails e (event_report_in text)
unfolding event_report_in
report_refused fault.NoMemory text refused = tt
report_refused (fault.Refused line reason) text refused = ap (with_events (report_events text)) refused

-- of a report that is read the lines down to the verdict have no fault
body_by : (body : Read ReadBody) (lines : List (ℕ × List ℕ)) (report : Config × List Span) → with_lines lines (config_with body) ≡ Ok report → IsOk body
body_by (Ok body) lines report is = refl
body_by (Err e) lines report is = absurd cc

pub body_read : (text : List ℕ) (report : Config × List Span) → report_in text ≡ Ok report → IsOk (body_in (map strip_cr (lines_of text)))
unfolding report_in
body_read text report is = body_by (body_in (map strip_cr (lines_of text))) (event_lines text) report is

module _ (text : List ℕ) (config : Config) (lines : List Span) (read : report_in text ≡ Ok (config, lines)) where
  pub lines_are_events : All (λ span. is_event (part_at text span) ≡ true) lines
  lines_are_events = All-of_map (λ line. is_event line ≡ true) (part_at text) lines (parts_are_events text (config, lines) read)

  pub few_lines : length lines ≤ length text
  few_lines = rw (places_read text (config, lines) read) (few_places text)

  words_read : map (λ span. words_of (part_at text span)) lines ≡ event_words_in text
  words_read =
      sym (map-map words_of (part_at text) lines) ∙ ap (map words_of) (parts_read text (config, lines) read)
      ∙ map-map words_of (λ line. line.1) (event_lines text)

  pub report_read : (events : List Event) → events_of_words (map (λ span. words_of (part_at text span)) lines) ≡ Some events → event_report_in text ≡ Ok (config, (Some events, lines))
  unfolding event_report_in report_events
  report_read events found =
      ap (with_events (report_events text)) read
      ∙ ap (λ (o : Option (List Event)). Ok (config, (o, lines))) (ap events_of_words (sym words_read) ∙ found)
