-- A report has one judgement, and is not empty.
use Rattle.pct_names.proofs.Names.{◌<◌, ◌≡◌, ap, Config, Err, length, List, Option, same_Some, Some, subst, ℕ}
use Rattle.pct_model.specs.declared.event.Event.{Event}
use Rattle.pct_expect.specs.declared.span.Span.{Span}
use Rattle.pct_report_reader.specs.declared.fault.ReportWhy.{ReportWhy}
use Rattle.pct_report_reader.specs.Reading.{report_in}
use Rattle.pct_event_reader.specs.EventReports.{event_report_in}
use Rattle.pct_judgement.proofs.OneJudgement.{same_value, value_or_error}
use Rattle.pct_event_judge.specs.declared.findings.Findings.{Findings}
use Rattle.pct_event_judge.specs.Findings.{AreFindings}
use Rattle.pct_event_judge.proofs.OneFindings.{findings_are_one}
use Rattle.pct_report_audit.proofs.ReadReports.{report_read, some_report}
use Rattle.pct_report_judge.specs.ReportFindings.{IsJudged}

-- a report with its events
abbrev EventReport : Type 0
EventReport = Config × (Option (List Event) × List Span)

-- a report has the same findings in each judgement, and the same event lines
pub judgements_are_one : (text : List ℕ) (found other : Findings) (lines others : List Span) → IsJudged text found lines → IsJudged text other others → (found ≡ other) × (lines ≡ others)
judgements_are_one text found other lines others a b =
    let same : ◌≡◌ {A = EventReport} (a.config, (Some a.events, lines)) (b.config, (Some b.events, others)) = same_value (event_report_in text) (a.config, (Some a.events, lines)) (b.config, (Some b.events, others)) a.read b.read in
    let config : a.config ≡ b.config = ap (λ (r : EventReport). r.0) same in
    let events : a.events ≡ b.events = same_Some a.events b.events (ap (λ (r : EventReport). r.1.0) same) in
    let by_config : AreFindings b.config.passes b.config.slots a.events found = subst (λ (c : Config). AreFindings c.passes c.slots a.events found) config a.are_findings in
    let by_events : AreFindings b.config.passes b.config.slots b.events found = subst (λ (es : List Event). AreFindings b.config.passes b.config.slots es found) events by_config in
    (findings_are_one b.config.passes b.config.slots b.events found other by_events b.are_findings, ap (λ (r : EventReport). r.1.1) same)

-- a report that is judged is not refused
pub judged_or_refused : (text : List ℕ) (found : Findings) (lines : List Span) (line : ℕ) (why : ReportWhy) → IsJudged text found lines → report_in text ≡ Err (line, why) → ⊥
judged_or_refused text found lines line why a refused = value_or_error (report_in text) (a.config, lines) (line, why) (report_read text a.config (Some a.events) lines a.read) refused

-- a report that is judged is not empty
pub some_judged : (text : List ℕ) (found : Findings) (lines : List Span) → IsJudged text found lines → 0 < length text
some_judged text found lines a = some_report text a.config (Some a.events) lines a.read
