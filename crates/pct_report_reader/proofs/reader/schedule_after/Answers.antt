use Rattle.pct_names.proofs.Names.{ap, arith, sym, ◌∙◌}
use Rattle.pct_report_reader.specs.Reading.{config_after}
use Rattle.pct_report_reader.proofs.LineCount.{few_lines}
use Rattle.pct_report_reader.proofs.FaultLines.{fault_line}
use Rattle.pct_report_reader.proofs.ReportParts.{after_verdict}
use Rattle.pct_report_reader.proofs.reader.schedule_after.Goals as goal
use Rattle.pct_report_reader.proofs.reader.schedule_after.Goals.{in-Ok, in-Err-Refused, in-Err-NoMemory}

pub overflow_add-result-in-Err-Refused : goal.overflow_add-result-in-Err-Refused
overflow_add-result-in-Err-Refused c =
    let text = c.args.body.after.now in
    let refused = rw c.in-Err-Refused.field-0-is at c.in-Err-Refused.ensures.read in
    omega (arith, fault_line text c.in-Err-Refused.line c.in-Err-Refused.field-0-1 refused, few_lines text, c.requires)

pub returns-clause-read : goal.returns-clause-read
returns-clause-read c =
    let n = c.args.body.number in
    let read = after_verdict c.args.body.format n c.args.body.after.now (sym c.if-not-schedule_follows.ensures) in
    elim c.match-read_schedule.branch [
      | in-Ok w ↦ rw w.result-is (read ∙ ap (config_after n) w.in-Ok.ensures.read)
      | in-Err-Refused w ↦ rw w.result-is (read ∙ ap (config_after n) (rw w.in-Err-Refused.field-0-is at w.in-Err-Refused.ensures.read))
      | in-Err-NoMemory w ↦ rw w.result-is tt
    ]

pub returns-clause-config : goal.returns-clause-config
returns-clause-config c =
    elim c.match-read_schedule.branch [
      | in-Ok w ↦ rw w.result-is w.in-Ok.ensures.within.config_fits
      | in-Err-Refused w ↦ rw w.result-is tt
      | in-Err-NoMemory w ↦ rw w.result-is tt
    ]
