-- The text of a judgement.
use Rattle.std.specs.Prelude.{ℕ, if◌then◌else◌, List, [], ◌∷◌, ◌++◌, map, codes, decimal}
use Rattle.pct_model.specs.declared.keyword.Keyword.TheVariants as keyword
use Rattle.pct_model.specs.Keywords.{keyword_text, line_text, text_of}
use Rattle.pct_expect.specs.declared.verdict.Judged.{Judged}
use Rattle.pct_expect.specs.Faults.{why_text}
use Rattle.pct_report_reader.specs.declared.fault.ReportWhy.{ReportWhy}
use Rattle.pct_report_reader.specs.declared.fault.ReportWhy.TheVariants as report_why
use Rattle.pct_judgement.specs.declared.judgement.Judgement.{Judgement}
use Rattle.pct_judgement.specs.declared.judgement.Judgement.TheVariants.{Answered, ExpectRefused, ReportRefused}
use Rattle.pct_judgement.specs.Judgements.{failed_count}

-- `expect LINE yes`, or `expect LINE no N` for a rule that does not hold
unfoldable pub answer_line : Judged → List (List ℕ)
answer_line answer =
    if answer.holds then codes "expect" ∷ decimal answer.line ∷ codes "yes" ∷ []
    else codes "expect" ∷ decimal answer.line ∷ codes "no" ∷ decimal answer.number ∷ []

-- a line for each rule, then `failed M`
unfoldable pub answer_lines : List Judged → List (List (List ℕ))
answer_lines answers = map answer_line answers ++ (codes "failed" ∷ decimal (failed_count answers) ∷ []) ∷ []

-- `refused PART LINE WHY`
unfoldable pub refusal_line : List ℕ → ℕ → List ℕ → List (List ℕ)
refusal_line part line why = keyword_text keyword.Refused ∷ part ∷ decimal line ∷ why ∷ []

-- the word for the reason why a report is refused
unfoldable pub report_why_text : ReportWhy → List ℕ
report_why_text report_why.BadHeader = codes "bad_header"
report_why_text report_why.BadEvent = codes "bad_event"
report_why_text report_why.BadVerdict = codes "bad_verdict"
report_why_text report_why.BadSchedule = codes "bad_schedule"

-- `refused report LINE WHY`
abbrev pub refused_report : ℕ → ReportWhy → List (List ℕ)
refused_report line why = refusal_line (codes "report") line (report_why_text why)

-- the text of a judgement
abbrev pub judgement_text : Judgement → List ℕ
judgement_text (Answered answers) = text_of (answer_lines answers)
judgement_text (ExpectRefused line why) = line_text (refusal_line (codes "expect") line (why_text why))
judgement_text (ReportRefused line why) = line_text (refused_report line why)
