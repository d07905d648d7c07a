-- `audit` of the report of a run answers that its events keep the laws.
use Rattle.pct_names.proofs.Names.{◌≡◌, [], codes, length, refl, sym, true, ◌∷◌}
use Rattle.pct_report_audit.specs.declared.report_audit.ReportAudit.TheVariants.{Passed}
use Rattle.pct_command.specs.PassedAudits.{ReportsPassAudit}
use Rattle.pct_command.specs.Words.{asks_audit}
use Rattle.pct_command.proofs.Outcomes.{audit-answer}

asks : asks_audit (codes "audit" ∷ []) ≡ true
unfolding asks_audit
asks = refl

pub reports_pass : ReportsPassAudit
reports_pass words input text lawful fits =
    let passes = lawful.audited in
    audit-answer (codes "audit" ∷ []) text (Passed (length lawful.after.events)) asks fits (record {
      config = lawful.config;
      events = passes.events;
      audited = record { lines = passes.lines; read = passes.read; is_audit = passes.audit };
      number_is = sym passes.events_count;
    })
