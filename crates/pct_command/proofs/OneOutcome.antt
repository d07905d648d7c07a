-- Words, an input and a schedule have one outcome at the most.
use Rattle.pct_names.proofs.Names.{ap, arith, asks_demo, Bool, canon, code_of_verdict, Config, config_for, default_config, Demonstrates, Entry}
use Rattle.pct_names.proofs.Names.{Err, false, Fault, first_fault, first_illegal, generated_text, is_asked, is_some, IsCountedRun, le-ltb}
use Rattle.pct_names.proofs.Names.{le_refl, length, line_text, List, nat_lt, needs_input, None, none-some, Ok, Option, option_map, Outcome}
use Rattle.pct_names.proofs.Names.{points_text, refl, refused_entry, refused_input, refused_schedule, refused_script, refused_words, report}
use Rattle.pct_names.proofs.Names.{Run, run, same_Some, sched_of, Schedule, schedule_part, Script, script_part, Some, some_pair_parts}
use Rattle.pct_names.proofs.Names.{sample_number, Spells, subst, summary_of, sym, take-length, text_of, true, verdict_of, ℕ, ◌∙◌, ◌≡◌, ◌≤◌, ◌⊎◌, inl, inr}
use Rattle.std.proofs.lemmas.Bool.{lt-ltb, true≢false}
use Rattle.pct_model.specs.declared.keyword.Keyword.TheVariants as keyword
use Rattle.pct_model.specs.Outcome as outcome
use Rattle.pct_history.proofs.IllegalEntries.{follows-all}
use Rattle.pct_grammar.proofs.Scripts.{spelled_is_faultless, spells_one_script}
use Rattle.pct_grammar.proofs.CanonSpells.{canon_spells}
use Rattle.pct_command.specs.declared.words.Job.{Job}
use Rattle.pct_command.specs.declared.words.Job.TheVariants as job
use Rattle.pct_command.specs.Expectations.{code_of_judgement, ExpectOutcome, InputRefused, Judged}
use Rattle.pct_command.specs.Audits as audits
use Rattle.pct_command.specs.Audits.{AuditOutcome, code_of_audit}
use Rattle.pct_command.specs.Words.{Asks, HasScriptInput, job_asked, judges_report}
use Rattle.pct_command.proofs.AskedWords.{audit_judges, expect_is_no_audit, expect_judges, has_input, names_job, other_job, job_needs_input, points_need_none, demo_needs_none, demo_is_no_points, none_asked, part_of_run, part_of_check, part_of_sample, sample_within}
use Rattle.pct_demo.proofs.CountedRuns.{counted_is_one}
use Rattle.pct_tallies.specs.declared.tally.Tally.{Tally}
use Rattle.pct_tallies.specs.Seeds.{first_seeds}
use Rattle.pct_sample.specs.Samples.{TallyOf}
use Rattle.pct_tallies.specs.TallyTexts.{tally_lines}
use Rattle.pct_sample.proofs.OneTally.{tallies_are_one}
use Rattle.pct_judgement.specs.declared.judgement.Judgement.{Judgement}
use Rattle.pct_judgement.specs.AnswerTexts.{judgement_text}
use Rattle.pct_judgement.specs.Judgements.{report_part, rules_part}
use Rattle.pct_judgement.proofs.OneJudgement.{judgements_are_one}
use Rattle.pct_command.specs.Command.{Audited, CommandOutcome, Expected, Other, Sampled, Samples}
use Rattle.pct_report_audit.specs.declared.report_audit.ReportAudit.{ReportAudit}
use Rattle.pct_report_audit.specs.AuditTexts.{audit_text}
use Rattle.pct_report_audit.proofs.OneAudit.{audits_are_one}
use Rattle.pct_command.proofs.CompleteOutcomes.{is_audit, is_expect}

-- ---- legal runs

-- no entry of a run is illegal
run_is_legal : (script : Script) (config : Config) (after : Run) (entries : List Entry) → run script config entries ≡ Some after → first_illegal script config entries ≡ None
run_is_legal script config after entries ran =
    let all = take-length entries in
    (follows-all (record { script = script; config = config; history = entries }) script config entries (length entries)
    (ap (λ (xs : List Entry). record { script = script; config = config; history = xs }) (sym all)) (le_refl _) (ap (λ (xs : List Entry). is_some (run script config xs)) all ∙ ap is_some ran)).illegal_is

-- ---- the code and the text, by the order of the checks

-- of words without an input: `points`, `demo`, or neither
abbrev pub by_words : Bool → Bool → Option (ℕ × List ℕ)
by_words true demo = Some (0, points_text)
by_words false true = None
by_words false false = Some (5, line_text refused_words)

-- before the script is known
abbrev pub by_checks : Bool → Bool → Bool → Bool → Option Fault → Option (ℕ × List ℕ)
by_checks false points demo too_long fault = by_words points demo
by_checks true points demo true fault = Some (8, line_text refused_input)
by_checks true points demo false fault = option_map (λ f. (6, line_text (refused_script f.0 f.1))) fault

abbrev pub decided_of : List (List ℕ) → List ℕ → Option (ℕ × List ℕ)
decided_of words input = by_checks (needs_input words) (is_asked keyword.Points words) (asks_demo words) (nat_lt 16777216 (length input)) (first_fault (script_part words input))

-- of a run
abbrev pub by_run : Script → Config → List Entry → Option Run → Option (List ℕ) → Option (ℕ × List ℕ)
by_run script config entries after None = None
by_run script config entries None (Some text) = None
by_run script config entries (Some after) (Some text) = Some (code_of_verdict (verdict_of script config after.world (length entries)), text)

abbrev pub run_of : Script → Config → List Entry → Option (ℕ × List ℕ)
run_of script config entries = by_run script config entries (run script config entries) (report script config entries)

-- of a schedule
abbrev pub by_illegal : Option ℕ → Option (ℕ × List ℕ) → Option (ℕ × List ℕ)
by_illegal (Some entry_number) ran = Some (7, line_text (refused_entry entry_number))
by_illegal None ran = ran

abbrev pub by_schedule : Script → Schedule → Option (ℕ × List ℕ)
by_schedule script (Err fault) = Some (7, line_text (refused_schedule fault.0 fault.1))
by_schedule script (Ok given) = by_illegal (first_illegal script given.0 given.1) (run_of script given.0 given.1)

-- of a script, by the job that the words name
abbrev pub by_job : Option Job → List ℕ → List Entry → Script → Option (ℕ × List ℕ)
by_job (Some (job.Run options)) input schedule script = run_of script (config_for script options.config) schedule
by_job (Some job.Replay) input schedule script = by_schedule script (sched_of (schedule_part input))
by_job (Some job.Check) input schedule script = Some (0, canon script)
by_job (Some job.Points) input schedule script = None
by_job (Some (job.Demo number)) input schedule script = None
by_job (Some (job.Sample seeds)) input schedule script = None
by_job (Some job.Expect) input schedule script = None
by_job (Some job.Audit) input schedule script = None
by_job None input schedule script = None

-- the code and the text are these
pub data Found (words : List (List ℕ)) (input : List ℕ) (schedule : List Entry) (code : ℕ) (text : List ℕ) : Type 0 where
  Decided : decided_of words input ≡ Some (code, text) → Found words input schedule code text
  Counted : decided_of words input ≡ None → Demonstrates words code text → Found words input schedule code text
  Spelled : decided_of words input ≡ None → (script : Script) → Spells (script_part words input) script → by_job (job_asked words) input schedule script ≡ Some (code, text) → Found words input schedule code text

-- ---- every outcome is found

these : (c code : ℕ) (t text : List ℕ) → code ≡ c → text ≡ t → ◌≡◌ {A = Option (ℕ × List ℕ)} (Some (c, t)) (Some (code, text))
these c code t text code_is text_is = ap (λ (x : ℕ). Some (x, t)) (sym code_is) ∙ ap (λ (x : List ℕ). Some (code, x)) (sym text_is)

-- words without an input
without_input : (words : List (List ℕ)) (input : List ℕ) (points demo : Bool) → needs_input words ≡ false → is_asked keyword.Points words ≡ points → asks_demo words ≡ demo → decided_of words input ≡ by_words points demo
without_input words input points demo none asked asked_demo =
    ap (λ (b : Bool). by_checks b (is_asked keyword.Points words) (asks_demo words) (nat_lt 16777216 (length input)) (first_fault (script_part words input))) none
    ∙ ap (λ (b : Bool). by_words b (asks_demo words)) asked
    ∙ ap (by_words points) asked_demo

-- words with an input
with_input : (words : List (List ℕ)) (input : List ℕ) (too_long : Bool) → needs_input words ≡ true → nat_lt 16777216 (length input) ≡ too_long → decided_of words input ≡ by_checks true (is_asked keyword.Points words) (asks_demo words) too_long (first_fault (script_part words input))
with_input words input too_long needs long =
    ap (λ (b : Bool). by_checks b (is_asked keyword.Points words) (asks_demo words) (nat_lt 16777216 (length input)) (first_fault (script_part words input))) needs
    ∙ ap (λ (b : Bool). by_checks true (is_asked keyword.Points words) (asks_demo words) b (first_fault (script_part words input))) long

-- an input within the limit is refused for its script alone
pub fitting : (words : List (List ℕ)) (input : List ℕ) (fault : Option Fault) → needs_input words ≡ true → length input ≤ 16777216 → first_fault (script_part words input) ≡ fault → decided_of words input ≡ by_checks true (is_asked keyword.Points words) (asks_demo words) false fault
fitting words input fault needs fits first =
    with_input words input false needs (le-ltb 16777216 (length input) fits)
    ∙ ap (λ (f : Option Fault). by_checks true (is_asked keyword.Points words) (asks_demo words) false f) first

spelled : (words : List (List ℕ)) (named : Job) (input : List ℕ) (schedule : List Entry) (script : Script) (code : ℕ) (text : List ℕ)
    → Asks words named → HasScriptInput named → length input ≤ 16777216 → Spells (script_part words input) script → by_job (Some named) input schedule script ≡ Some (code, text) → Found words input schedule code text
spelled words named input schedule script code text asks has fits spells is =
    Spelled (fitting words input None (job_needs_input words named asks has) fits (spelled_is_faultless _ script spells)) script spells
    (ap (λ (o : Option Job). by_job o input schedule script) (names_job words named asks) ∙ is)

ran : (script : Script) (config : Config) (entries : List Entry) (after : Run) (code : ℕ) (text : List ℕ) → run script config entries ≡ Some after → report script config entries ≡ Some text
    → code ≡ code_of_verdict (verdict_of script config after.world (length entries)) → run_of script config entries ≡ Some (code, text)
ran script config entries after code text is_run text_is code_is =
    ap (λ (o : Option Run). by_run script config entries o (report script config entries)) is_run
    ∙ ap (λ (o : Option (List ℕ)). by_run script config entries (Some after) o) text_is
    ∙ these _ code text text code_is refl

pub found : (words : List (List ℕ)) (input : List ℕ) (schedule : List Entry) (code : ℕ) (text : List ℕ) → Outcome words input schedule code text → Found words input schedule code text
found words input schedule code text (outcome.WordsRefused o) =
    let none = none_asked words o.refused in
    Decided (without_input words input false false none.needs_none none.no_points none.no_demo ∙ these 5 code _ text o.code_is o.text_is)
found words input schedule code text (outcome.PointsWritten o) =
    Decided (without_input words input true (asks_demo words) (points_need_none words o.accepted) o.accepted refl ∙ these 0 code _ text o.code_is o.text_is)
found words input schedule code text (outcome.Demonstrated o) =
    Counted (without_input words input false true (demo_needs_none words o.number o.accepted) (demo_is_no_points words o.number o.accepted) (ap (λ (n : Option ℕ). is_some n) o.accepted)) o
found words input schedule code text (outcome.InputRefused o) =
    Decided (with_input words input true o.accepted (lt-ltb 16777216 (length input) o.too_long) ∙ these 8 code _ text o.code_is o.text_is)
found words input schedule code text (outcome.ScriptRefused o) =
    Decided (fitting words input (Some (o.line, o.why)) o.accepted o.fits o.first ∙ these 6 code _ text o.code_is o.text_is)
found words input schedule code text (outcome.ScheduleRefused o) =
    spelled words job.Replay input schedule o.script code text o.accepted tt o.fits o.spelled
    (ap (λ (s : Schedule). by_schedule o.script s) o.first ∙ these 7 code _ text o.code_is o.text_is)
found words input schedule code text (outcome.EntryRefused o) =
    spelled words job.Replay input schedule o.script code text o.accepted tt o.fits o.spelled
    (ap (λ (s : Schedule). by_schedule o.script s) o.read
    ∙ ap (λ (n : Option ℕ). by_illegal n (run_of o.script o.config o.entries)) o.illegal ∙ these 7 code _ text o.code_is o.text_is)
found words input schedule code text (outcome.Replayed o) =
    spelled words job.Replay input schedule o.script code text o.accepted tt o.fits o.spelled
    (ap (λ (s : Schedule). by_schedule o.script s) o.read
    ∙ ap (λ (n : Option ℕ). by_illegal n (run_of o.script o.config o.entries)) (run_is_legal o.script o.config o.after o.entries o.is_run)
    ∙ ran o.script o.config o.entries o.after code text o.is_run o.text_is o.code_is)
found words input schedule code text (outcome.Ran o) =
    spelled words (job.Run o.options) input schedule o.script code text o.accepted (has_input words (job.Run o.options) o.accepted tt) o.fits
    (subst (λ (part : List ℕ). Spells part o.script) (sym (part_of_run words input o.options o.accepted)) o.spelled)
    (ran o.script (config_for o.script o.options.config) schedule o.after code text o.is_run o.text_is o.code_is)
found words input schedule code text (outcome.Checked o) =
    spelled words job.Check input schedule o.script code text o.accepted tt o.fits
    (subst (λ (part : List ℕ). Spells part o.script) (sym (part_of_check words input o.accepted)) o.spelled)
    (these 0 code _ text o.code_is o.text_is)

-- ---- and only one

demos_agree : (number : ℕ) (script : Script) (entries others : List Entry) (after end : Run) → IsCountedRun script default_config entries after → IsCountedRun script default_config others end
    → summary_of number script default_config entries after ≡ summary_of number script default_config others end
demos_agree number script entries others after end one other =
    let same = counted_is_one script default_config entries others after end one other in
    let same_end : after ≡ end = same_Some after end (sym one.is_run ∙ ap (run script default_config) same ∙ other.is_run) in
    ap (λ (xs : List Entry). summary_of number script default_config xs after) same ∙ ap (λ (r : Run). summary_of number script default_config others r) same_end

-- the number of `demo` has one script, that has one run, and that has one summary
demonstrated_once : (words : List (List ℕ)) (code other : ℕ) (text told : List ℕ) → Demonstrates words code text → Demonstrates words other told → (code ≡ other) × (text ≡ told)
demonstrated_once words code other text told a b =
    let number : a.number ≡ b.number = same_Some a.number b.number (sym a.accepted ∙ b.accepted) in
    let texts : canon a.script ≡ canon b.script = a.generated ∙ ap generated_text number ∙ sym b.generated in
    let script = spells_one_script (canon b.script) a.script b.script (subst (λ (t : List ℕ). Spells t a.script) texts (canon_spells a.script)) (canon_spells b.script) in (
      a.code_is ∙ sym b.code_is,
      a.text_is
          ∙ ap (λ (n : ℕ). summary_of n a.script default_config a.entries a.after) number
          ∙ ap (λ (s : Script). summary_of b.number s default_config a.entries a.after) script
          ∙ demos_agree b.number b.script a.entries b.entries a.after b.after (subst (λ (s : Script). IsCountedRun s default_config a.entries a.after) script a.is_run) b.is_run
          ∙ sym b.text_is,
    )

-- words that ask for a demo name no job with a script
no_script : (words : List (List ℕ)) (input : List ℕ) (schedule : List Entry) (script : Script) (code other : ℕ) (text told : List ℕ) → Demonstrates words code text → by_job (job_asked words) input schedule script ≡ Some (other, told) → ⊥
no_script words input schedule script code other text told d is =
    none-some (other, told) (sym (ap (λ (o : Option Job). by_job o input schedule script) (names_job words (job.Demo d.number) d.accepted)) ∙ is)

-- two schedules of which the jobs make one answer of each script
module _ (words : List (List ℕ)) (input : List ℕ) (schedule schedules : List Entry) (code other : ℕ) (text told : List ℕ)
    (by_jobs : (script : Script) → Spells (script_part words input) script → by_job (job_asked words) input schedule script ≡ Some (code, text) → by_job (job_asked words) input schedules script ≡ Some (other, told) → (code ≡ other) × (text ≡ told)) where
  pub found_once : Found words input schedule code text → Found words input schedules other told → (code ≡ other) × (text ≡ told)
  found_once (Decided a) (Decided b) = some_pair_parts code other text told (sym a ∙ b)
  found_once (Decided a) (Counted none d) = absurd (none-some (code, text) (sym none ∙ a))
  found_once (Counted none d) (Decided b) = absurd (none-some (other, told) (sym none ∙ b))
  found_once (Counted none d) (Counted _ e) = demonstrated_once words code other text told d e
  found_once (Counted none d) (Spelled _ script spells b) = absurd (no_script words input schedules script code other text told d b)
  found_once (Spelled none script spells a) (Counted _ e) = absurd (no_script words input schedule script other code told text e a)
  found_once (Decided a) (Spelled none script spells b) = absurd (none-some (code, text) (sym none ∙ a))
  found_once (Spelled none script spells a) (Decided b) = absurd (none-some (other, told) (sym none ∙ b))
  found_once (Spelled none script spells a) (Spelled _ another also b) = by_jobs script spells a (ap (λ (s : Script). by_job (job_asked words) input schedules s) (spells_one_script _ script another spells also) ∙ b)

-- ---- `sample`

-- an input has one script, that has one tally for each number of seeds
pub samples_are_one : (words : List (List ℕ)) (input : List ℕ) (code other : ℕ) (text told : List ℕ) → Samples words input code text → Samples words input other told → (code ≡ other) × (text ≡ told)
samples_are_one words input code other text told a b =
    let number : a.number ≡ b.number = same_Some a.number b.number (sym a.accepted ∙ b.accepted) in
    let script = spells_one_script input a.script b.script a.spelled b.spelled in
    let counted : TallyOf b.script (first_seeds b.number) a.tally = subst (λ (s : Script). TallyOf s (first_seeds b.number) a.tally) script (subst (λ (n : ℕ). TallyOf a.script (first_seeds n) a.tally) number a.counted) in
    let tally : a.tally ≡ b.tally = tallies_are_one b.script (first_seeds b.number) a.tally b.tally counted b.counted in (
      a.code_is ∙ sym b.code_is,
      a.text_is ∙ ap (λ (n : ℕ). text_of (tally_lines n a.tally)) number ∙ ap (λ (t : Tally). text_of (tally_lines b.number t)) tally ∙ sym b.text_is,
    )

-- words that ask for a number of seeds name no other outcome of a script
none_found : (words : List (List ℕ)) (input : List ℕ) (schedule : List Entry) (other : ℕ) (told : List ℕ) (seeds : ℕ) → sample_number words ≡ Some seeds → needs_input words ≡ true → decided_of words input ≡ None → Found words input schedule other told → ⊥
none_found words input schedule other told seeds asked needs undecided (Decided is) = none-some (other, told) (sym undecided ∙ is)
none_found words input schedule other told seeds asked needs undecided (Counted _ d) = true≢false (sym needs ∙ demo_needs_none words d.number d.accepted)
none_found words input schedule other told seeds asked needs undecided (Spelled _ script spells is) =
    none-some (other, told) (sym (ap (λ (o : Option Job). by_job o input schedule script) (names_job words (job.Sample seeds) asked)) ∙ is)

-- where it has an outcome there is no other
pub sample_has_no_other : (words : List (List ℕ)) (input : List ℕ) (schedule : List Entry) (code other : ℕ) (text told : List ℕ) → Samples words input code text → Outcome words input schedule other told → ⊥
sample_has_no_other words input schedule code other text told s outcome =
    let named : Job = job.Sample s.number in
    let needs : needs_input words ≡ true = job_needs_input words named s.accepted (sample_within words s.number s.accepted) in
    let spells : Spells (script_part words input) s.script = subst (λ (part : List ℕ). Spells part s.script) (sym (part_of_sample words input s.number s.accepted)) s.spelled in
    let undecided : decided_of words input ≡ None = fitting words input None needs s.fits (spelled_is_faultless _ s.script spells) in
    none_found words input schedule other told s.number s.accepted needs undecided (found words input schedule other told outcome)

-- ---- `expect`

-- an input has one judgement, that has one code and one text
expects_are_one : (words : List (List ℕ)) (input : List ℕ) (code other : ℕ) (text told : List ℕ) → ExpectOutcome words input code text → ExpectOutcome words input other told → (code ≡ other) × (text ≡ told)
expects_are_one words input code other text told (InputRefused a) (InputRefused b) = (a.code_is ∙ sym b.code_is, a.text_is ∙ sym b.text_is)
expects_are_one words input code other text told (InputRefused a) (Judged b) = absurd (omega (arith, a.too_long, b.fits))
expects_are_one words input code other text told (Judged a) (InputRefused b) = absurd (omega (arith, a.fits, b.too_long))
expects_are_one words input code other text told (Judged a) (Judged b) =
    let same : a.judgement ≡ b.judgement = judgements_are_one (rules_part input) (report_part input) a.judgement b.judgement a.is_judgement b.is_judgement in
    (a.code_is ∙ ap (λ (j : Judgement). code_of_judgement j) same ∙ sym b.code_is, a.text_is ∙ ap (λ (j : Judgement). judgement_text j) same ∙ sym b.text_is)

-- ---- `audit`

-- an input has one audit, that has one code and one text
audit_outcomes_are_one : (words : List (List ℕ)) (input : List ℕ) (code other : ℕ) (text told : List ℕ) → AuditOutcome words input code text → AuditOutcome words input other told → (code ≡ other) × (text ≡ told)
audit_outcomes_are_one words input code other text told (audits.InputRefused a) (audits.InputRefused b) = (a.code_is ∙ sym b.code_is, a.text_is ∙ sym b.text_is)
audit_outcomes_are_one words input code other text told (audits.InputRefused a) (audits.Audited b) = absurd (omega (arith, a.too_long, b.fits))
audit_outcomes_are_one words input code other text told (audits.Audited a) (audits.InputRefused b) = absurd (omega (arith, a.fits, b.too_long))
audit_outcomes_are_one words input code other text told (audits.Audited a) (audits.Audited b) =
    let same : a.audit ≡ b.audit = audits_are_one input a.audit b.audit a.is_audit b.is_audit in
    (a.code_is ∙ ap (λ (r : ReportAudit). code_of_audit r) same ∙ sym b.code_is, a.text_is ∙ ap (λ (r : ReportAudit). audit_text r) same ∙ sym b.text_is)

-- ---- the commands that judge a report

-- the outcome of `expect`, or that of `audit`
abbrev pub JudgingOutcome : List (List ℕ) → List ℕ → ℕ → List ℕ → Type 0
JudgingOutcome words input code text = ExpectOutcome words input code text ⊎ AuditOutcome words input code text

judging_words : (words : List (List ℕ)) (input : List ℕ) (code : ℕ) (text : List ℕ) → JudgingOutcome words input code text → judges_report words ≡ true
judging_words words input code text (inl e) = expect_judges words (is_expect words input code text e)
judging_words words input code text (inr a) = audit_judges words (is_audit words input code text a)

expect_or_audit : (words : List (List ℕ)) (input : List ℕ) (code other : ℕ) (text told : List ℕ) → ExpectOutcome words input code text → AuditOutcome words input other told → ⊥
expect_or_audit words input code other text told e a = true≢false (sym (is_audit words input other told a) ∙ expect_is_no_audit words (is_expect words input code text e))

judgings_are_one : (words : List (List ℕ)) (input : List ℕ) (code other : ℕ) (text told : List ℕ) → JudgingOutcome words input code text → JudgingOutcome words input other told → (code ≡ other) × (text ≡ told)
judgings_are_one words input code other text told (inl a) (inl b) = expects_are_one words input code other text told a b
judgings_are_one words input code other text told (inl a) (inr b) = absurd (expect_or_audit words input code other text told a b)
judgings_are_one words input code other text told (inr a) (inl b) = absurd (expect_or_audit words input other code told text b a)
judgings_are_one words input code other text told (inr a) (inr b) = audit_outcomes_are_one words input code other text told a b

-- their words have no other outcome
judging_alone : (words : List (List ℕ)) (input : List ℕ) (schedule : List Entry) (code : ℕ) (text : List ℕ) → judges_report words ≡ true → CommandOutcome words input schedule code text → JudgingOutcome words input code text
judging_alone words input schedule code text judges (Sampled s) = absurd (true≢false (sym judges ∙ other_job words (job.Sample s.number) s.accepted refl))
judging_alone words input schedule code text judges (Expected e) = inl e
judging_alone words input schedule code text judges (Audited a) = inr a
judging_alone words input schedule code text judges (Other no_judging o) = absurd (true≢false (sym judges ∙ no_judging))

-- nor another code or text, under any schedule
pub judging_is_one : (words : List (List ℕ)) (input : List ℕ) (schedule : List Entry) (code other : ℕ) (text told : List ℕ) → JudgingOutcome words input code text → CommandOutcome words input schedule other told → (code ≡ other) × (text ≡ told)
judging_is_one words input schedule code other text told j o =
    judgings_are_one words input code other text told j (judging_alone words input schedule other told (judging_words words input code text j) o)

pub one_is_judging : (words : List (List ℕ)) (input : List ℕ) (schedule : List Entry) (code other : ℕ) (text told : List ℕ) → CommandOutcome words input schedule code text → JudgingOutcome words input other told → (code ≡ other) × (text ≡ told)
one_is_judging words input schedule code other text told o j =
    let same = judging_is_one words input schedule other code told text j o in
    (sym same.0, sym same.1)

-- ---- every command

outcome_alone : (words : List (List ℕ)) (input : List ℕ) (schedule : List Entry) (code other : ℕ) (text told : List ℕ) → Outcome words input schedule code text → Outcome words input schedule other told → (code ≡ other) × (text ≡ told)
outcome_alone words input schedule code other text told a b =
    found_once words input schedule schedule code other text told (λ script spells one also. some_pair_parts code other text told (sym one ∙ also))
    (found words input schedule code text a) (found words input schedule other told b)

pub outcome_is_one : (words : List (List ℕ)) (input : List ℕ) (schedule : List Entry) (code other : ℕ) (text told : List ℕ) → CommandOutcome words input schedule code text → CommandOutcome words input schedule other told → (code ≡ other) × (text ≡ told)
outcome_is_one words input schedule code other text told (Sampled a) (Sampled b) = samples_are_one words input code other text told a b
outcome_is_one words input schedule code other text told (Sampled a) (Other _ b) = absurd (sample_has_no_other words input schedule code other text told a b)
outcome_is_one words input schedule code other text told (Other _ a) (Sampled b) = absurd (sample_has_no_other words input schedule other code told text b a)
outcome_is_one words input schedule code other text told (Other _ a) (Other _ b) = outcome_alone words input schedule code other text told a b
outcome_is_one words input schedule code other text told (Expected a) b = judging_is_one words input schedule code other text told (inl a) b
outcome_is_one words input schedule code other text told (Audited a) b = judging_is_one words input schedule code other text told (inr a) b
outcome_is_one words input schedule code other text told (Sampled a) (Expected b) = one_is_judging words input schedule code other text told (Sampled a) (inl b)
outcome_is_one words input schedule code other text told (Sampled a) (Audited b) = one_is_judging words input schedule code other text told (Sampled a) (inr b)
outcome_is_one words input schedule code other text told (Other no_judging a) (Expected b) = one_is_judging words input schedule code other text told (Other no_judging a) (inl b)
outcome_is_one words input schedule code other text told (Other no_judging a) (Audited b) = one_is_judging words input schedule code other text told (Other no_judging a) (inr b)
