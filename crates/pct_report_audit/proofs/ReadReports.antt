-- A report that is read with its events is read, and is not empty.
use Rattle.pct_names.proofs.Names.{◌<◌, [], ap, arith, Config, Err, false≢true, length, lines_of, List, map, Ok, Option, refl, ℕ, ◌∷◌, ◌≡◌}
use Rattle.std.specs.Prelude.{IsOk}
use Rattle.pct_model.specs.declared.event.Event.{Event}
use Rattle.pct_model.specs.Lines.{strip_cr}
use Rattle.pct_expect.specs.declared.span.Span.{Span}
use Rattle.pct_judgement.proofs.OneJudgement.{same_value}
use Rattle.pct_report_reader.specs.declared.fault.ReportWhy.{ReportWhy}
use Rattle.pct_report_reader.specs.Reading.{Read, body_in, report_in}
use Rattle.pct_event_reader.proofs.ReportParts.{body_read}
use Rattle.pct_event_reader.specs.EventReports.{event_report_in, report_events, with_events}

-- what is read with events is read
read_by : (events : Option (List Event)) (report : Read (Config × List Span)) (config : Config) (found : Option (List Event)) (lines : List Span)
    → with_events events report ≡ Ok (config, (found, lines)) → report ≡ Ok (config, lines)
read_by events (Ok report) config found lines is =
    let same : ◌≡◌ {A = Config × (Option (List Event) × List Span)} (report.0, (events, report.1)) (config, (found, lines)) = same_value (with_events events (Ok report)) _ _ refl is in
    ap (λ (r : Config × (Option (List Event) × List Span)). Ok (r.0, r.1.1)) same
read_by events (Err fault) config found lines is = absurd cc

pub report_read : (text : List ℕ) (config : Config) (events : Option (List Event)) (lines : List Span) → event_report_in text ≡ Ok (config, (events, lines)) → report_in text ≡ Ok (config, lines)
unfolding event_report_in
report_read text config events lines is = read_by (report_events text) (report_in text) config events lines is

-- and what is refused with events is refused
refused_by : (events : Option (List Event)) (report : Read (Config × List Span)) (line : ℕ) (why : ReportWhy) → with_events events report ≡ Err (line, why) → report ≡ Err (line, why)
refused_by events (Ok report) line why is = absurd cc
refused_by events (Err fault) line why is = cc

pub report_refused : (text : List ℕ) (line : ℕ) (why : ReportWhy) → event_report_in text ≡ Err (line, why) → report_in text ≡ Err (line, why)
unfolding event_report_in
report_refused text line why is = refused_by (report_events text) (report_in text) line why is

-- ---- texts that are not empty

empty_has_none : IsOk (body_in (map strip_cr (lines_of []))) → ⊥
unfolding body_in lines_of
empty_has_none ok = absurd (false≢true ok)

-- a text whose lines down to the verdict have no fault
pub some_body : (text : List ℕ) → IsOk (body_in (map strip_cr (lines_of text))) → 0 < length text
some_body [] ok = absurd (empty_has_none ok)
some_body (b ∷ bytes) ok = omega arith

pub some_report : (text : List ℕ) (config : Config) (events : Option (List Event)) (lines : List Span) → event_report_in text ≡ Ok (config, (events, lines)) → 0 < length text
some_report text config events lines is = some_body text (body_read text (config, lines) (report_read text config events lines is))
