-- The outcome of an input that is not refused, the answer to all that a source had left, and what a status promises.
use Rattle.pct_names.proofs.Names.{◌<◌, ap, Appends, arith, Bool, code_of_verdict, cond, Config, Consumes, Entry, Err, first_illegal, IfSome, inl, inr}
use Rattle.pct_names.proofs.Names.{false, is_accepted, length, List, nat_eq, None, subst, none-some, Ok, Option, Outcome, refl, sched_of, Schedule, schedule_part}
use Rattle.pct_names.proofs.Names.{ScheduleWhy, Script, Some, sym, true, Verdict, ℕ, ◌∙◌, ◌≡◌, ◌≤◌}
use Rattle.std.proofs.lemmas.Bool.{true≢false}
use Rattle.std.proofs.lemmas.List.{length-append}
use Rattle.pct_model.specs.declared.stop.Verdict.TheVariants as verdict
use Rattle.pct_model.specs.Outcome as outcome
use Rattle.pct_grammar.proofs.Scripts.{spells_one_script}
use Rattle.pct_expect.specs.Reading.{expects_in}
use Rattle.pct_report_reader.specs.Reading.{report_in}
use Rattle.pct_judgement.specs.declared.judgement.Judgement.{Judgement}
use Rattle.pct_judgement.specs.declared.judgement.Judgement.TheVariants as judgement
use Rattle.pct_judgement.specs.Judgements.{IsJudgement, failed_count, report_part, rules_part}
use Rattle.pct_judgement.proofs.OneJudgement.{value_or_error}
use Rattle.pct_report_audit.specs.declared.report_audit.ReportAudit.{ReportAudit}
use Rattle.pct_report_audit.specs.declared.report_audit.ReportAudit.TheVariants as audit
use Rattle.pct_report_audit.specs.ReportAudits.{IsReportAudit}
use Rattle.pct_command.specs.declared.answers.Answer.{Answer}
use Rattle.pct_command.specs.declared.status.Status.{Status}
use Rattle.pct_command.specs.declared.status.Status.TheVariants as status
use Rattle.pct_command.specs.Status.{code_of, IsAnswered}
use Rattle.pct_command.specs.declared.words.Job.TheVariants.{Sample}
use Rattle.pct_command.specs.Expectations.{ExpectOutcome, HasReadParts, InputRefused, IsJudgedCode, Judged, code_of_judgement}
use Rattle.pct_command.specs.Audits as audits
use Rattle.pct_command.specs.Audits.{AuditOutcome, HasReadReport, IsAuditedCode, code_of_audit}
use Rattle.pct_command.specs.Words.{asks_audit, asks_expect}
use Rattle.pct_command.specs.Command.{Audited, CommandOutcome, Expected, Other, Sampled, Outside, Decides, Answers, HasLegalSchedule, IsValid, IsComplete}
use Rattle.pct_command.specs.Answer.{AnswersRead, status_of_answer, text_of_answer}
use Rattle.pct_command.proofs.AskedWords.{audit_judges, expect_is_no_audit, expect_judges, judging_is_no_other, other_job}
use Rattle.pct_command.proofs.Scripts.{spelled_or_fault}

-- ---- an input that is not refused

-- a text gives one schedule
given_by : Schedule → Config × List Entry → Config × List Entry
given_by (Ok given) other = given
given_by (Err fault) other = other

pub same_given : (s : Schedule) (one other : Config × List Entry) → s ≡ Ok one → s ≡ Ok other → one ≡ other
unfolding given_by
same_given s one other reads also = ap (λ (x : Schedule). given_by x one) (sym reads ∙ also)

-- and then no fault
pub given_or_fault : (s : Schedule) (given : Config × List Entry) (fault : ℕ × ScheduleWhy) → s ≡ Ok given → s ≡ Err fault → ⊥
given_or_fault s given fault good bad = absurd cc

pub verdict_code : (v : Verdict) → code_of_verdict v < 5
unfolding code_of_verdict
verdict_code verdict.Complete = omega arith
verdict_code verdict.Deadlock = omega arith
verdict_code verdict.Budget = omega arith
verdict_code (verdict.Undefined why) = omega arith
verdict_code verdict.Open = omega arith

-- an entry that is legal is not the first that is not
not_illegal : (input : List ℕ) (script other : Script) (config : Config) (entries : List Entry) (entry_number : ℕ) (valid : HasLegalSchedule script input) → other ≡ script → sched_of (schedule_part input) ≡ Ok (config, entries) → first_illegal other config entries ≡ Some entry_number → ⊥
not_illegal input script other config entries entry_number valid same read illegal =
    let schedules : (config, entries) ≡ (valid.config, valid.entries) = same_given (sched_of (schedule_part input)) (config, entries) (valid.config, valid.entries) read valid.read in
    none-some entry_number
    (sym valid.legal
    ∙ ap (λ (s : Config × List Entry). first_illegal script s.0 s.1) (sym schedules)
    ∙ ap (λ (s : Script). first_illegal s config entries) (sym same)
    ∙ illegal)

-- an input that is not refused has an outcome with another code
not_refused : (words : List (List ℕ)) (input : List ℕ) (schedule : List Entry) (code : ℕ) (text : List ℕ) → is_accepted words ≡ true → IsValid words input → Outcome words input schedule code text → code < 5
not_refused words input schedule code text accepted valid (outcome.WordsRefused refuses) = absurd (true≢false (sym accepted ∙ refuses.refused))
not_refused words input schedule code text accepted valid (outcome.InputRefused refuses) = absurd (omega (arith, valid.fits, refuses.too_long))
not_refused words input schedule code text accepted valid (outcome.ScriptRefused refuses) = absurd (spelled_or_fault _ valid.script refuses.line refuses.why valid.spelled refuses.first)
not_refused words input schedule code text accepted valid (outcome.ScheduleRefused refuses) =
    let legal = valid.schedule refuses.accepted in
    absurd (given_or_fault (sched_of (schedule_part input)) (legal.config, legal.entries) (refuses.line, refuses.why) legal.read refuses.first)
not_refused words input schedule code text accepted valid (outcome.EntryRefused refuses) =
    absurd (not_illegal input valid.script refuses.script refuses.config refuses.entries refuses.entry_number (valid.schedule refuses.accepted) (spells_one_script _ refuses.script valid.script refuses.spelled valid.spelled) refuses.read refuses.illegal)
not_refused words input schedule code text accepted valid (outcome.Replayed replays) = rw replays.code_is (verdict_code _)
not_refused words input schedule code text accepted valid (outcome.Ran runs) = rw runs.code_is (verdict_code _)
not_refused words input schedule code text accepted valid (outcome.Checked checks) = omega (arith, checks.code_is)
not_refused words input schedule code text accepted valid (outcome.PointsWritten written) = omega (arith, written.code_is)
not_refused words input schedule code text accepted valid (outcome.Demonstrated written) = omega (arith, written.code_is)

-- the outcome of `expect` is one of its words
pub is_expect : (words : List (List ℕ)) (input : List ℕ) (code : ℕ) (text : List ℕ) → ExpectOutcome words input code text → asks_expect words ≡ true
is_expect words input code text (InputRefused o) = o.accepted
is_expect words input code text (Judged o) = o.accepted

-- and that of `audit`
pub is_audit : (words : List (List ℕ)) (input : List ℕ) (code : ℕ) (text : List ℕ) → AuditOutcome words input code text → asks_audit words ≡ true
is_audit words input code text (audits.InputRefused o) = o.accepted
is_audit words input code text (audits.Audited o) = o.accepted

-- so has the outcome of `sample`
pub valid_below_five : (words : List (List ℕ)) (input : List ℕ) (schedule : List Entry) (code : ℕ) (text : List ℕ) → is_accepted words ≡ true → IsValid words input → CommandOutcome words input schedule code text → code < 5
valid_below_five words input schedule code text accepted valid (Sampled samples) = omega (arith, samples.code_is)
valid_below_five words input schedule code text accepted valid (Expected e) = absurd (true≢false (sym accepted ∙ judging_is_no_other words (expect_judges words (is_expect words input code text e))))
valid_below_five words input schedule code text accepted valid (Audited a) = absurd (true≢false (sym accepted ∙ judging_is_no_other words (audit_judges words (is_audit words input code text a))))
valid_below_five words input schedule code text accepted valid (Other _ other) = not_refused words input schedule code text accepted valid other

-- ---- an input of `expect` that is not refused

tested_code : (b : Bool) → IsJudgedCode (cond b 0 14)
tested_code true = inl refl
tested_code false = inr refl

-- rules that are read are judged over a report that is read
judged_code : (input : List ℕ) (j : Judgement) → HasReadParts input → IsJudgement (rules_part input) (report_part input) j → IsJudgedCode (code_of_judgement j)
judged_code input (judgement.Answered answers) parts is = tested_code (nat_eq (failed_count answers) 0)
judged_code input (judgement.ExpectRefused line why) parts is = absurd (value_or_error (expects_in (rules_part input)) parts.rules (line, why) parts.read_rules is)
judged_code input (judgement.ReportRefused line why) parts is = absurd (value_or_error (report_in (report_part input)) (parts.config, parts.lines) (line, why) parts.read_report is.first)

pub valid_is_judged : (words : List (List ℕ)) (input : List ℕ) (schedule : List Entry) (code : ℕ) (text : List ℕ) → asks_expect words ≡ true → HasReadParts input → CommandOutcome words input schedule code text → IsJudgedCode code
valid_is_judged words input schedule code text asked parts (Sampled s) = absurd (true≢false (sym (expect_judges words asked) ∙ other_job words (Sample s.number) s.accepted refl))
valid_is_judged words input schedule code text asked parts (Expected (InputRefused o)) = absurd (omega (arith, parts.fits, o.too_long))
valid_is_judged words input schedule code text asked parts (Expected (Judged o)) = subst IsJudgedCode (sym o.code_is) (judged_code input o.judgement parts o.is_judgement)
valid_is_judged words input schedule code text asked parts (Audited a) = absurd (true≢false (sym (is_audit words input code text a) ∙ expect_is_no_audit words asked))
valid_is_judged words input schedule code text asked parts (Other no_judging o) = absurd (true≢false (sym (expect_judges words asked) ∙ no_judging))

-- ---- an input of `audit` that is not refused

-- a report that is read is audited
audited_code : (input : List ℕ) (a : ReportAudit) → HasReadReport input → IsReportAudit input a → IsAuditedCode (code_of_audit a)
audited_code input (audit.Passed events) report is = inl refl
audited_code input (audit.Failed fault) report is = inr refl
audited_code input (audit.Refused line why) report is = absurd (value_or_error (report_in input) (report.config, report.lines) (line, why) report.read_report is)

pub valid_is_audited : (words : List (List ℕ)) (input : List ℕ) (schedule : List Entry) (code : ℕ) (text : List ℕ) → asks_audit words ≡ true → HasReadReport input → CommandOutcome words input schedule code text → IsAuditedCode code
valid_is_audited words input schedule code text asked report (Sampled s) = absurd (true≢false (sym (audit_judges words asked) ∙ other_job words (Sample s.number) s.accepted refl))
valid_is_audited words input schedule code text asked report (Expected e) = absurd (true≢false (sym asked ∙ expect_is_no_audit words (is_expect words input code text e)))
valid_is_audited words input schedule code text asked report (Audited (audits.InputRefused o)) = absurd (omega (arith, report.fits, o.too_long))
valid_is_audited words input schedule code text asked report (Audited (audits.Audited o)) = subst IsAuditedCode (sym o.code_is) (audited_code input o.audit report o.is_audit)
valid_is_audited words input schedule code text asked report (Other no_judging o) = absurd (true≢false (sym (audit_judges words asked) ∙ no_judging))

-- ---- all that a source had left

-- what was read to the end is all that the source had left
pub all_left : (before : Option (List ℕ)) (bytes left : List ℕ) → IfSome before (λ known. known ≡ bytes) → before ≡ Some left → bytes ≡ left
all_left None bytes left same has = absurd cc
all_left (Some known) bytes left same has = cc

-- and a prefix of it is no longer
pub front_length : (before after : Option (List ℕ)) (given left : List ℕ) → Consumes before after given → before ≡ Some left → length given ≤ length left
front_length None after given left prefix has = absurd cc
front_length (Some xs) None given left prefix has = absurd prefix
front_length (Some xs) (Some ys) given left prefix has =
    let same : xs ≡ left = cc in
    rw (← same, prefix, length-append) (omega arith)

-- if the source reports its bytes, the answer to all of them was written
pub complete : (words : List (List ℕ)) (before after : Outside) (a : Answer) → AnswersRead words before.left after.left a → Appends before.written after.written (text_of_answer a) → IsComplete words before after (status_of_answer a)
complete words before after a read wrote = λ input has no_read_fault no_write_fault.
    let answer = read.of_all input has in
    inr (
      record { text = text_of_answer a; answer = answer; wrote = wrote },
      λ accepted valid. valid_below_five words input answer.schedule _ _ accepted valid answer.is_outcome,
      λ asked parts. valid_is_judged words input answer.schedule _ _ asked parts answer.is_outcome,
      λ asked report. valid_is_audited words input answer.schedule _ _ asked report answer.is_outcome,
    )

-- ---- what is promised of a status

-- what holds of an answer that was written whole is what its status promises
pub decides : (needs allocates : Bool) (is_answer : List ℕ → ℕ → List ℕ → Type 0) (before after : Outside) (s : Status) → IsAnswered s → Decides needs is_answer before after (code_of s) → Answers needs allocates is_answer before after s
decides needs allocates is_answer before after status.ReadFault answered whole = absurd (answered.no_read_fault refl)
decides needs allocates is_answer before after status.WriteFault answered whole = absurd (answered.no_write_fault refl)
decides needs allocates is_answer before after status.NoMemory answered whole = absurd (answered.some_memory refl)
decides needs allocates is_answer before after _ answered whole = whole
