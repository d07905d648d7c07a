-- A report from its parts.
use Rattle.pct_names.proofs.Names.{◌+◌, ap, Bool, cond, Config, Err, Format, IsOk, lines_of, List, map, Ok, refl, sched_of, schedule_from}
use Rattle.pct_names.proofs.Names.{strip_cr, subst, sym, true, ℕ, ◌∙◌, ◌≡◌}
use Rattle.pct_report_reader.specs.declared.fault.ReportFault.{ReportFault}
use Rattle.pct_report_reader.specs.declared.fault.ReportFault.TheVariants as fault
use Rattle.pct_report_reader.specs.declared.fault.ReportWhy.TheVariants as why
use Rattle.pct_report_reader.specs.Gives.{Fails, Refuses}
use Rattle.pct_report_reader.specs.Reading.{Read, ReadBody, body_in, config_after, config_with, event_lines, report_in, schedule_after}
use Rattle.pct_report_reader.specs.Reading.{schedule_follows, with_lines}

-- the schedule after the verdict
pub after_verdict : (format : Format) (n : ℕ) (text : List ℕ) → schedule_follows format (map strip_cr (lines_of text)) ≡ true → schedule_after format n (map strip_cr (lines_of text)) ≡ config_after n (sched_of text)
unfolding sched_of
after_verdict format n text follows =
    ap (λ (t : Bool). cond t (config_after n (schedule_from 1 (map strip_cr (lines_of text)))) (Err (n + 1, why.BadSchedule))) follows

-- ---- a refused report

pub body_refused : (e : ReportFault) (text : List ℕ) → Refuses e (body_in (map strip_cr (lines_of text))) → Fails e (report_in text)
unfolding report_in
body_refused fault.NoMemory text refused = tt
body_refused (fault.Refused line reason) text refused = ap (λ (body : Read ReadBody). with_lines (event_lines text) (config_with body)) refused

pub schedule_refused : (e : ReportFault) (text : List ℕ) (body : ReadBody) → body_in (map strip_cr (lines_of text)) ≡ Ok body → Fails e (schedule_after body.format body.number body.after) → Fails e (report_in text)
unfolding report_in
schedule_refused fault.NoMemory text body is refused = tt
schedule_refused (fault.Refused line reason) text body is refused =
    ap (λ (b : Read ReadBody). with_lines (event_lines text) (config_with b)) is ∙ ap (with_lines (event_lines text)) refused

pub body_is_read : (text : List ℕ) (body : ReadBody) → body_in (map strip_cr (lines_of text)) ≡ Ok body → IsOk (body_in (map strip_cr (lines_of text)))
body_is_read text body is = subst (λ (b : Read ReadBody). IsOk b) (sym is) refl

-- ---- a report that is read

pub report_read : (text : List ℕ) (body : ReadBody) (config : Config) → body_in (map strip_cr (lines_of text)) ≡ Ok body → schedule_after body.format body.number body.after ≡ Ok config
    → report_in text ≡ with_lines (event_lines text) (Ok config)
unfolding report_in
report_read text body config is read = ap (λ (b : Read ReadBody). with_lines (event_lines text) (config_with b)) is ∙ ap (with_lines (event_lines text)) read
