-- The event lines of a report that is read are events, and they are the parts of the text at their places.
use Rattle.pct_names.proofs.Names.{length, None, Option, Some, All-map, ◌+◌, [], All, All-cons, All-nil, ap, Bool, cond, Config, Err, false, Format, IsOk, lines_of, List, map, Ok}
use Rattle.pct_names.proofs.Names.{strip_cr, subst, sym, true, ℕ, ◌∙◌, ◌∷◌, ◌≡◌, refl}
use Rattle.pct_expect.specs.declared.span.Span.{Span}
use Rattle.pct_expect.specs.Events.{part_at}
use Rattle.pct_report_reader.specs.declared.fault.ReportWhy.{ReportWhy}
use Rattle.pct_report_reader.specs.declared.fault.ReportWhy.TheVariants as why
use Rattle.pct_report_reader.specs.Reading.{Read, ReadBody, begins_verdict, body_from, body_in, body_of, config_with, event_lines, event_lines_after_title, event_lines_from, format_of_title, is_event, is_verdict, report_in, span_of, with_lines}
use Rattle.pct_report_reader.proofs.EventPlaces.{parts_of_places}

-- the line is an event
abbrev IsEventLine : ℕ × List ℕ → Type 0
IsEventLine line = is_event line.1 ≡ true

by_line : (ends event : Bool) (verdict rest : Read ReadBody) (fault : ℕ × ReportWhy) (line : ℕ × List ℕ) (lines : List (ℕ × List ℕ)) → is_event line.1 ≡ event
    → IsOk (cond ends verdict (cond event rest (Err fault))) → (IsOk rest → All IsEventLine lines) → All IsEventLine (cond ends [] (line ∷ lines))
by_line true event verdict rest fault line lines is passed others = All-nil IsEventLine
by_line false true verdict rest fault line lines is passed others = All-cons IsEventLine line lines is (others passed)
by_line false false verdict rest fault line lines is passed others = absurd cc

lines_from : (format : Format) (n offset : ℕ) (lines : List (List ℕ)) → IsOk (body_from format n (map strip_cr lines)) → All IsEventLine (event_lines_from offset lines)
unfolding body_from event_lines_from
lines_from format n offset [] passed = All-nil IsEventLine
lines_from format n offset (line ∷ lines) passed =
    by_line (begins_verdict (strip_cr line)) (is_event (strip_cr line))
    (cond (is_verdict (strip_cr line)) (Ok (record { format = format; number = n; after = map strip_cr lines })) (Err (n, why.BadVerdict)))
    (body_from format (n + 1) (map strip_cr lines)) (n, why.BadEvent) (offset, strip_cr line) (event_lines_from (offset + length line + 1) lines) refl
    passed (lines_from format (n + 1) (offset + length line + 1) lines)

by_format : (found : Option Format) (offset : ℕ) (lines : List (List ℕ)) → IsOk (body_of found (map strip_cr lines)) → All IsEventLine (event_lines_from offset lines)
by_format None offset lines passed = absurd cc
by_format (Some format) offset lines passed = lines_from format 2 offset lines passed

lines_after_title : (lines : List (List ℕ)) → IsOk (body_in (map strip_cr lines)) → All IsEventLine (event_lines_after_title lines)
unfolding body_in
lines_after_title [] passed = All-nil IsEventLine
lines_after_title (title ∷ lines) passed = by_format (format_of_title (strip_cr title)) (length title + 1) lines passed

body_passed : (lines : List (ℕ × List ℕ)) (body : Read ReadBody) (report : Config × List Span) → with_lines lines (config_with body) ≡ Ok report → IsOk body
body_passed lines (Ok body) report is = refl
body_passed lines (Err fault) report is = absurd cc

lines_kept : (lines : List (ℕ × List ℕ)) (config : Read Config) (report : Config × List Span) → with_lines lines config ≡ Ok report → report.1 ≡ map span_of lines
lines_kept lines (Ok config) report is = ap (λ (r : Read (Config × List Span)). spans_of r) (sym is)
  where
    spans_of : Read (Config × List Span) → List Span
    spans_of (Ok r) = r.1
    spans_of (Err fault) = map span_of lines
lines_kept lines (Err fault) report is = absurd cc

-- the lines of a report that is read
module _ (text : List ℕ) (report : Config × List Span) (read : report_in text ≡ Ok report) where
  pub places_read : report.1 ≡ map span_of (event_lines text)
  unfolding report_in
  places_read = lines_kept (event_lines text) (config_with (body_in (map strip_cr (lines_of text)))) report read

  pub parts_read : map (part_at text) report.1 ≡ map (λ line. line.1) (event_lines text)
  parts_read = ap (map (part_at text)) places_read ∙ parts_of_places text

  lines_passed : All IsEventLine (event_lines text)
  unfolding report_in event_lines
  lines_passed = lines_after_title (lines_of text) (body_passed (event_lines text) (body_in (map strip_cr (lines_of text))) report read)

  pub parts_are_events : All (λ line. is_event line ≡ true) (map (part_at text) report.1)
  parts_are_events =
      subst (All (λ line. is_event line ≡ true)) (sym parts_read) (All-map (λ line. is_event line ≡ true) (λ line. line.1) (event_lines text) lines_passed)
