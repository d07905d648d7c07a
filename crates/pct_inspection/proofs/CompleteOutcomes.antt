-- The outcome of an input that is not refused, and the answer to all that a source had left.
use Rattle.pct_names.proofs.Names.{◌<◌, ◌⊎◌, ap, Appends, arith, Bool, code_of_verdict, cond, Config, Entry, false, first_illegal, FirstFault, inl, inr, length, List, None, Ok}
use Rattle.pct_names.proofs.Names.{Option, ParseWhy, refl, Run, same_Some, Script, Some, Spells, subst, sym, true, Verdict, verdict_of, ℕ, ◌∙◌, ◌≡◌, ◌≤◌}
use Rattle.std.proofs.lemmas.Bool.{true≢false}
use Rattle.pct_model.specs.declared.stop.Verdict.TheVariants as verdict
use Rattle.pct_expect.specs.declared.rule.Rule.{Rule}
use Rattle.pct_expect.specs.declared.span.Span.{Span}
use Rattle.pct_report_reader.specs.Reading.{report_in}
use Rattle.pct_event_judge.specs.Findings.{are_kept}
use Rattle.pct_expect.specs.Reading.{expects_in}
use Rattle.pct_grammar.proofs.Scripts.{spells_one_script}
use Rattle.pct_survey.specs.Surveys.{has_failure}
use Rattle.pct_tallies.specs.declared.range_tally.PlacedTally.{PlacedTally}
use Rattle.pct_tallies.specs.declared.range_tally.RangeTally.{RangeTally}
use Rattle.pct_tallies.specs.declared.seeds.Seeds.{Seeds}
use Rattle.pct_tallies.specs.Readings.{tallies_in}
use Rattle.pct_tallies.specs.Totals.{IsTotalOf}
use Rattle.pct_history.specs.Replays.{followed}
use Rattle.pct_command.specs.Command.{Outside}
use Rattle.pct_command.proofs.CompleteOutcomes.{given_or_fault, same_given, verdict_code}
use Rattle.pct_command.proofs.Scripts.{spelled_or_fault}
use Rattle.pct_inspection.specs.declared.answer.Answer.{Answer}
use Rattle.pct_inspection.specs.declared.words.Form.TheVariants as form
use Rattle.pct_inspection.specs.declared.words.Inspection.{Inspection}
use Rattle.pct_inspection.specs.declared.words.Inspection.TheVariants as inspection
use Rattle.pct_inspection.specs.declared.words.View.{View}
use Rattle.pct_inspection.specs.declared.words.View.TheVariants as view
use Rattle.pct_inspection.specs.Words.{inspection_asked}
use Rattle.pct_inspection.specs.Inputs.{expectation_in, script_in}
use Rattle.pct_inspection.specs.Inspection.{prefix_for, code_by, code_after, follows_prefix, script_asked, Continues, FollowsPrefix, IsAcceptedCode, IsCodeOfRun, IsInspected, IsValidPrefix, IsWhole}
use Rattle.pct_inspection.specs.Inspection as outcome
use Rattle.pct_inspection.specs.Answer.{AnswersRead, AsksFor, code_of_answer, status_of_answer, text_of_answer}
use Rattle.pct_inspection.proofs.Inputs.{follows_accepted, follows_script}
use Rattle.pct_inspection.specs.TallyOutcomes.{Tallies, Totalled}
use Rattle.pct_inspection.proofs.OneInspection.{AsRead, Faulty, is_told, none_of, none_unscripted, OfReport, OfSum, OfSurvey, Told, told_of, Unread, Whole}
use Rattle.pct_inspection.proofs.Totals.{ok_or_err, totals_in_are_one}

-- ---- an input that is not refused

-- a run that is not open has a code below 4
closed_code : (v : Verdict) → ¬ (v ≡ verdict.Open) → code_of_verdict v < 4
unfolding code_of_verdict
closed_code verdict.Complete closed = omega arith
closed_code verdict.Deadlock closed = omega arith
closed_code verdict.Budget closed = omega arith
closed_code (verdict.Undefined why) closed = omega arith
closed_code verdict.Open closed = absurd (closed refl)

-- in a prefix that is valid no entry is illegal
none_illegal : (input : List ℕ) → IsValidPrefix input → (script : Script) (config : Config) (entries : List Entry) (illegal : Option ℕ)
    → Spells (script_in input) script → prefix_for script input ≡ Ok (config, entries) → first_illegal script config entries ≡ illegal → illegal ≡ None
none_illegal input valid script config entries illegal spelled read first =
    let same_script : script ≡ valid.script = spells_one_script _ script valid.script spelled valid.spelled in
    let same_prefix : (config, entries) ≡ (valid.config, valid.entries) = same_given (prefix_for script input) (config, entries) (valid.config, valid.entries) read (ap (λ (s : Script). prefix_for s input) same_script ∙ valid.read) in
    sym first
    ∙ ap (λ (p : Config × List Entry). first_illegal script p.0 p.1) same_prefix
    ∙ ap (λ (s : Script). first_illegal s valid.config valid.entries) same_script
    ∙ valid.legal

-- the code of a run that followed such a prefix
followed_code : (input : List ℕ) (code : ℕ) → IsValidPrefix input → (f : FollowsPrefix input) → code ≡ code_after f → code < 5
followed_code input code valid f code_is =
    let v : Verdict = verdict_of f.script f.config f.after.world (length (followed f.illegal f.entries)) in
    let legal : f.illegal ≡ None = none_illegal input valid f.script f.config f.entries f.illegal f.spelled f.read f.illegal_is in
    rw (code_is ∙ ap (λ (illegal : Option ℕ). code_by illegal (code_of_verdict v)) legal) (verdict_code v)

-- if each entry of the prefix is legal, the code is that of the verdict
legal_code : (words : List (List ℕ)) (input : List ℕ) (code : ℕ) (text : List ℕ) → IsValidPrefix input → Continues words input code text → code < 4
legal_code words input code text valid goes_on =
    let legal : goes_on.illegal ≡ None = none_illegal input valid goes_on.script goes_on.config goes_on.entries goes_on.illegal goes_on.spelled goes_on.read goes_on.illegal_is in
    let same_run : goes_on.continued.whole.after ≡ goes_on.after = same_Some goes_on.continued.whole.after goes_on.after (sym goes_on.continued.whole.is_run ∙ goes_on.is_run) in
    let v : Verdict = verdict_of goes_on.script goes_on.config goes_on.after.world (length goes_on.schedule) in
    let closed : ¬ (v ≡ verdict.Open) = λ is_open. goes_on.continued.whole.is_closed (ap (λ (r : Run). verdict_of goes_on.script goes_on.config r.world (length goes_on.schedule)) same_run ∙ is_open) in
    let code_is : code ≡ code_of_verdict v = goes_on.code_is ∙ ap (λ (illegal : Option ℕ). code_by illegal (code_of_verdict v)) legal in
    rw code_is (closed_code v closed)

-- words that ask for a view do not ask to continue
shown_alone : (words : List (List ℕ)) (shown : View) (seed : ℕ) → inspection_asked words ≡ Some (inspection.Show shown) → inspection_asked words ≡ Some (inspection.Continue seed) → ⊥
shown_alone words shown seed one other = absurd cc

-- the code of a view of such a run
view_code : (words : List (List ℕ)) (input : List ℕ) (code : ℕ) (shown : View) → IsValidPrefix input → inspection_asked words ≡ Some (inspection.Show shown)
    → (f : FollowsPrefix input) → code ≡ code_after f → IsCodeOfRun words code
view_code words input code shown valid asked f code_is = record {
  run_code = followed_code input code valid f code_is;
  closed = λ seed continued. absurd (shown_alone words shown seed asked continued);
}

-- a script that is spelled has no fault
no_fault : (asked : Option Inspection) (input part : List ℕ) (script : Script) (text : List ℕ) (line : ℕ) (why : ParseWhy) → script_asked asked input ≡ Some text → Spells text script → script_asked asked input ≡ Some part → FirstFault part line why → ⊥
no_fault asked input part script text line why is spelled of_part first =
    let same : part ≡ text = same_Some part text (sym of_part ∙ is) in
    spelled_or_fault text script line why spelled (subst (λ (p : List ℕ). FirstFault p line why) same first)

-- ---- the code of a run

-- with a valid prefix the outcome has the code of a run
code_of_run : (words : List (List ℕ)) (input : List ℕ) (code : ℕ) (text : List ℕ) → follows_prefix (inspection_asked words) ≡ true → IsValidPrefix input → IsInspected words input code text → IsCodeOfRun words code
code_of_run words input code text follows valid (outcome.WordsRefused refuses) = absurd (true≢false (sym (follows_accepted (inspection_asked words) follows) ∙ refuses.refused))
code_of_run words input code text follows valid (outcome.InputRefused refuses) = absurd (omega (arith, valid.fits, refuses.too_long))
code_of_run words input code text follows valid (outcome.ScriptRefused refuses) =
    absurd (no_fault (inspection_asked words) input refuses.part valid.script (script_in input) refuses.line refuses.why (follows_script (inspection_asked words) input follows) valid.spelled refuses.asked refuses.first)
code_of_run words input code text follows valid (outcome.PrefixRefused refuses) =
    let same_script : valid.script ≡ refuses.script = spells_one_script _ valid.script refuses.script valid.spelled refuses.spelled in
    absurd (given_or_fault (prefix_for valid.script input) (valid.config, valid.entries) (refuses.line, refuses.why) valid.read (ap (λ (s : Script). prefix_for s input) same_script ∙ refuses.first))
code_of_run words input code text follows valid (outcome.Continued goes_on) =
    let below : code < 4 = legal_code words input code text valid goes_on in
    record { run_code = omega (arith, below); closed = λ _ _. below }
code_of_run words input code text follows valid (outcome.Traced traces) = view_code words input code (view.Steps form.Trace) valid traces.asked traces.prefix traces.code_is
code_of_run words input code text follows valid (outcome.Listed lists) = view_code words input code view.Choices valid lists.asked lists.prefix lists.code_is
code_of_run words input code text follows valid (outcome.Valued lists) = view_code words input code view.States valid lists.asked lists.prefix lists.code_is
code_of_run words input code text follows valid (outcome.Drawn draws) = view_code words input code (view.Steps draws.shown) valid draws.asked draws.prefix draws.code_is
code_of_run words input code text follows valid (outcome.Tallied tallies) = absurd (true≢false (sym follows ∙ ap follows_prefix tallies.asked))
code_of_run words input code text follows valid (outcome.TalliesRefused refuses) = absurd (true≢false (sym follows ∙ ap follows_prefix refuses.asked))
code_of_run words input code text follows valid (outcome.SumRefused refuses) = absurd (true≢false (sym follows ∙ ap follows_prefix refuses.asked))
code_of_run words input code text follows valid (outcome.Summed sums) = absurd (true≢false (sym follows ∙ ap follows_prefix sums.asked))
code_of_run words input code text follows valid (outcome.ExpectationRefused refuses) = absurd (true≢false (sym follows ∙ ap follows_prefix refuses.asked))
code_of_run words input code text follows valid (outcome.Surveyed surveys) = absurd (true≢false (sym follows ∙ ap follows_prefix surveys.asked))
code_of_run words input code text follows valid (outcome.ReportRefused refuses) = absurd (true≢false (sym follows ∙ ap follows_prefix refuses.asked))
code_of_run words input code text follows valid (outcome.Judged judges) = absurd (true≢false (sym follows ∙ ap follows_prefix judges.asked))

-- ---- the codes of words that do not ask to follow a prefix

failed_code : (failed : Bool) (code : ℕ) → code ≡ cond failed 14 0 → (code ≡ 0) ⊎ (code ≡ 14)
failed_code true code is = inr is
failed_code false code is = inl is

kept_code : (kept : Bool) (code : ℕ) → code ≡ cond kept 0 12 → (code ≡ 0) ⊎ (code ≡ 12)
kept_code true code is = inl is
kept_code false code is = inr is

module _ (words : List (List ℕ)) (input : List ℕ) (fits : length input ≤ 16777216) (code : ℕ) (text : List ℕ) where
  -- what is told of a script, and of an input that has none
  told_of_script : (asked : Inspection) (part : List ℕ) (script : Script) → AsksFor words asked → follows_prefix (Some asked) ≡ false → script_asked (Some asked) input ≡ Some part → Spells part script → IsInspected words input code text → Told words input asked code text
  told_of_script asked part script is prefix of_part spelled =
      is_told words input asked is prefix (none_of words input part script (ap (λ (o : Option Inspection). script_asked o input) is ∙ of_part) fits spelled) code text

  told_unscripted : (asked : Inspection) → AsksFor words asked → follows_prefix (Some asked) ≡ false → script_asked (Some asked) input ≡ None → IsInspected words input code text → Told words input asked code text
  told_unscripted asked is prefix unscripted = is_told words input asked is prefix (none_unscripted words input asked is unscripted fits) code text

  tally_code : (seeds : Seeds) (script : Script) → AsksFor words (inspection.Tally seeds) → Spells input script → IsInspected words input code text → code ≡ 0
  tally_code seeds script asked spelled inspected =
      let tallies : Tallies words input code text = told_of_script (inspection.Tally seeds) input script asked refl refl spelled inspected in tallies.code_is

  sum_code : (tallies : List PlacedTally) (total : RangeTally) → AsksFor words inspection.Sum → tallies_in input ≡ Ok tallies → IsTotalOf tallies (Ok total) → IsInspected words input code text → code ≡ 0
  sum_code tallies total asked read summed inspected =
      let sum : OfSum input code text = told_unscripted inspection.Sum asked refl refl inspected in
      let same : sum.total ≡ Ok total = totals_in_are_one input sum.total (Ok total) sum.is_total (Totalled tallies read summed) in
      ap (λ (p : ℕ × List ℕ). p.0) (sym sum.told ∙ ap told_of same)

  survey_code : (seeds : ℕ) (config : Config) (script : Script) (rules : List Rule) → AsksFor words (inspection.Survey seeds config) → Spells (script_in input) script → expects_in (expectation_in input) ≡ Ok rules
      → IsInspected words input code text → (code ≡ 0) ⊎ (code ≡ 14)
  survey_code seeds config script rules asked spelled read inspected = by_survey (told_of_script (inspection.Survey seeds config) (script_in input) script asked refl refl spelled inspected)
    where
      by_survey : OfSurvey words input code text → (code ≡ 0) ⊎ (code ≡ 14)
      by_survey (Faulty refuses) = absurd (ok_or_err (expects_in (expectation_in input)) rules (refuses.line, refuses.why) read refuses.first)
      by_survey (Whole surveys) = failed_code (has_failure surveys.survey) code surveys.code_is

  judge_code : (config : Config) (lines : List Span) → AsksFor words inspection.Judge → report_in input ≡ Ok (config, lines) → IsInspected words input code text → (code ≡ 0) ⊎ (code ≡ 12)
  judge_code config lines asked read inspected = by_report (told_unscripted inspection.Judge asked refl refl inspected)
    where
      by_report : OfReport words input code text → (code ≡ 0) ⊎ (code ≡ 12)
      by_report (Unread refuses) = absurd (ok_or_err (report_in input) (config, lines) (refuses.line, refuses.why) read refuses.first)
      by_report (AsRead judges) = kept_code (are_kept judges.found) code judges.code_is

-- ---- all that a source had left

-- if the source reports its bytes, the answer to all of them was written
pub complete : (words : List (List ℕ)) (before after : Outside) (a : Answer) → AnswersRead words before.left after.left a → Appends before.written after.written (text_of_answer a) → IsWhole words before after (status_of_answer a)
complete words before after a read wrote = λ input has no_read_fault no_write_fault.
    let answer = read.of_all input has in
    let accepted : IsAcceptedCode words input (code_of_answer a) = record {
      run = λ follows valid. code_of_run words input _ _ follows valid answer;
      tally = λ seeds script asked fits spelled. tally_code words input fits _ _ seeds script asked spelled answer;
      sum = λ tallies total asked fits read summed. sum_code words input fits _ _ tallies total asked read summed answer;
      survey = λ seeds config script rules asked fits spelled read. survey_code words input fits _ _ seeds config script rules asked spelled read answer;
      judge = λ config lines asked fits read. judge_code words input fits _ _ config lines asked read answer;
    } in
    inr (record { text = text_of_answer a; answer = answer; wrote = wrote }, accepted)
