-- Words and an input have one outcome of an inspection at the most.
use Rattle.pct_names.proofs.Names.{◌++◌, ap, Bool, code_of_verdict, Config, config_for, Entry, Err, false, Fault, first_fault, first_illegal, is_some, le-ltb, length, line_text, List}
use Rattle.pct_names.proofs.Names.{nat_lt, None, none-some, Ok, Option, option_and_then, option_map, refl, refused_input, refused_schedule, refused_script, refused_words, report, Result}
use Rattle.pct_names.proofs.Names.{Run, run, same_Some, Schedule, Script, Some, some_pair_parts, Spells, subst, sym, text_of, true, verdict_of, ℕ, ◌∙◌, ◌≡◌, ◌≤◌}
use Rattle.std.proofs.lemmas.Bool.{lt-ltb, true≢false}
use Rattle.pct_grammar.proofs.Scripts.{spelled_is_faultless, spells_one_script}
use Rattle.pct_script_lines.specs.StatementLines.{statement_lines}
use Rattle.pct_scheduled_run.specs.Streams.{draws, stream_of}
use Rattle.pct_scheduled_run.proofs.OneSchedule.{continuation_is_one}
use Rattle.pct_history.specs.Replays.{followed}
use Rattle.pct_view_texts.specs.Choices.{choices_text}
use Rattle.pct_view_texts.specs.States.{states_text}
use Rattle.pct_view_texts.specs.Trace.{trace_text}
use Rattle.pct_tallies.specs.declared.range_tally.RangeTally.{RangeTally}
use Rattle.pct_tallies.specs.declared.seeds.Seeds.{Seeds}
use Rattle.pct_tallies.specs.Faults.{Fault as Refusal}
use Rattle.pct_tallies.specs.TallyTexts.{range_lines}
use Rattle.pct_sample.specs.Samples.{TallyOf}
use Rattle.pct_sample.proofs.OneTally.{tallies_are_one}
use Rattle.pct_command.specs.SeedSchedule.{SeedContinuation}
use Rattle.pct_command.proofs.CompleteOutcomes.{same_given}
use Rattle.pct_inspection.specs.declared.words.Form.{Form}
use Rattle.pct_inspection.specs.declared.words.Form.TheVariants as form
use Rattle.pct_inspection.specs.declared.words.Inspection.{Inspection}
use Rattle.pct_inspection.specs.declared.words.Inspection.TheVariants as inspection
use Rattle.pct_inspection.specs.declared.words.View.{View}
use Rattle.pct_inspection.specs.declared.words.View.TheVariants as view
use Rattle.pct_inspection.specs.Words.{inspection_asked, is_inspection}
use Rattle.pct_inspection.specs.TallyOutcomes.{IsTotalIn, NotRead, refused_tally, subject_of, Tallies, Totalled}
use Rattle.pct_inspection.specs.Inputs.{expectation_in, script_in}
use Rattle.pct_inspection.specs.Inspection.{prefix_for, notice, code_by, asks_to_draw, follows_prefix, script_asked, Continues, FollowsPrefix, InspectionsAreOne, IsInspected, code_after, entries_in, is_drawn}
use Rattle.pct_inspection.specs.Inspection as outcome
use Rattle.pct_inspection.proofs.Inputs.{follows_script, script_accepted}
use Rattle.pct_inspection.proofs.Totals.{ok_or_err, same_err, totals_in_are_one}
use Rattle.pct_inspection.proofs.JudgedReports.{judged_or_refused, judgements_are_one}
use Rattle.pct_inspection.specs.JudgeOutcomes.{Judges, RefusesReport, code_of_findings}
use Rattle.pct_inspection.specs.SurveyOutcomes.{RefusesExpectation, Surveys, code_of_survey, refused_expect}
use Rattle.pct_expect.specs.declared.fault.ExpectWhy.{ExpectWhy}
use Rattle.pct_expect.specs.declared.rule.Rule.{Rule}
use Rattle.pct_expect.specs.Reading.{expects_in}
use Rattle.pct_expect.specs.declared.span.Span.{Span}
use Rattle.pct_report_reader.specs.declared.fault.ReportWhy.{ReportWhy}
use Rattle.pct_report_reader.specs.Reading.{report_in}
use Rattle.pct_judgement.specs.AnswerTexts.{refused_report}
use Rattle.pct_report_judge.specs.FindingsTexts.{findings_text}
use Rattle.pct_survey.proofs.OneSurvey.{surveys_are_one}
use Rattle.pct_survey.specs.Surveys.{IsSurveyOf}
use Rattle.pct_survey.specs.SurveyTexts.{survey_text}

-- ---- the code and the text, by the order of the checks

-- before the script is known
abbrev pub by_checks : Bool → Bool → Option Fault → Option (ℕ × List ℕ)
by_checks false too_long fault = Some (5, line_text refused_words)
by_checks true true fault = Some (8, line_text refused_input)
by_checks true false fault = option_map (λ f. (6, line_text (refused_script f.0 f.1))) fault

-- the first fault of the script that is asked for, if there is one
abbrev pub fault_asked : Option Inspection → List ℕ → Option Fault
fault_asked asked input = option_and_then first_fault (script_asked asked input)

abbrev pub refused_of : List (List ℕ) → List ℕ → Option (ℕ × List ℕ)
refused_of words input = by_checks (is_inspection words) (nat_lt 16777216 (length input)) (fault_asked (inspection_asked words) input)

-- the code after the run of the entries that are followed
abbrev pub code_of_run : Script → Config → List Entry → Option ℕ → Option Run → Option ℕ
code_of_run script config entries illegal after = option_map (λ r. code_by illegal (code_of_verdict (verdict_of script config r.world (length (followed illegal entries))))) after

-- the code of a drawing
abbrev pub drawn_of : Script → Schedule → Option ℕ
drawn_of script (Err fault) = None
drawn_of script (Ok given) = code_of_run script given.0 given.1 (first_illegal script given.0 given.1) (run script given.0 (followed (first_illegal script given.0 given.1) given.1))

-- the text of a view that is no drawing
abbrev pub by_view : Option Inspection → List ℕ → Script → Config → List Entry → Run → Option (List ℕ)
by_view (Some (inspection.Show (view.Steps form.Trace))) input script config entries after = Some (trace_text (statement_lines (script_in input)) script config entries after)
by_view (Some (inspection.Show view.Choices)) input script config entries after = Some (choices_text (statement_lines (script_in input)) script config after.world (length entries))
by_view (Some (inspection.Show view.States)) input script config entries after = Some (states_text (statement_lines (script_in input)) script config after.world (length entries))
by_view asked input script config entries after = None

abbrev pub by_run : Option Inspection → List ℕ → Script → Config → List Entry → Option ℕ → Option Run → Option (ℕ × List ℕ)
by_run asked input script config entries illegal None = None
by_run asked input script config entries illegal (Some r) =
    option_map (λ shown. (code_by illegal (code_of_verdict (verdict_of script config r.world (length (followed illegal entries)))), shown ++ notice illegal)) (by_view asked input script config (followed illegal entries) r)

-- of a prefix
abbrev pub shown_of : Option Inspection → List ℕ → Script → Schedule → Option (ℕ × List ℕ)
shown_of asked input script (Err fault) = Some (7, line_text (refused_schedule fault.0 fault.1))
shown_of asked input script (Ok given) = by_run asked input script given.0 given.1 (first_illegal script given.0 given.1) (run script given.0 (followed (first_illegal script given.0 given.1) given.1))

-- a run that goes on from a prefix
record GoesOn (script : Script) (seed : ℕ) (given : Config × List Entry) (code : ℕ) (text : List ℕ) : Type 0 where
  schedule : List Entry
  continued : SeedContinuation script given.0 seed (followed (first_illegal script given.0 given.1) given.1) schedule
  after : Run
  is_run : run script given.0 schedule ≡ Some after
  code_is : code ≡ code_by (first_illegal script given.0 given.1) (code_of_verdict (verdict_of script given.0 after.world (length schedule)))
  told : List ℕ
  told_is : report script given.0 schedule ≡ Some told
  text_is : text ≡ told ++ notice (first_illegal script given.0 given.1)

-- the sum of tallies, or the line of their fault
abbrev pub told_of : Result RangeTally Refusal → ℕ × List ℕ
told_of (Ok total) = (0, text_of (range_lines total))
told_of (Err fault) = (16, line_text (refused_tally fault.0 fault.1))

-- ---- what is told to words that do not ask to follow a prefix

-- the sum of the tallies in an input, or the line of their fault
pub record OfSum (input : List ℕ) (code : ℕ) (text : List ℕ) : Type 0 where
  pub total : Result RangeTally Refusal
  pub is_total : IsTotalIn input total
  pub told : told_of total ≡ (code, text)

-- the survey of an expectation, or its fault
pub data OfSurvey (words : List (List ℕ)) (input : List ℕ) (code : ℕ) (text : List ℕ) : Type 0 where
  Faulty : RefusesExpectation words input code text → OfSurvey words input code text
  Whole : Surveys words input code text → OfSurvey words input code text

-- what is found of a report, or its fault
pub data OfReport (words : List (List ℕ)) (input : List ℕ) (code : ℕ) (text : List ℕ) : Type 0 where
  Unread : RefusesReport words input code text → OfReport words input code text
  AsRead : Judges words input code text → OfReport words input code text

module _ (words : List (List ℕ)) (input : List ℕ) where
  -- by what they ask for
  abbrev pub Told : Inspection → ℕ → List ℕ → Type 0
  Told (inspection.Continue seed) code text = ⊥
  Told (inspection.Show shown) code text = ⊥
  Told (inspection.Tally seeds) code text = Tallies words input code text
  Told inspection.Sum code text = OfSum input code text
  Told (inspection.Survey seeds config) code text = OfSurvey words input code text
  Told inspection.Judge code text = OfReport words input code text

  -- what is shown of a script
  abbrev shown : Script → Option (ℕ × List ℕ)
  shown script = shown_of (inspection_asked words) input script (prefix_for script input)

  -- nothing is refused, and the words ask to follow a prefix or they do not
  record IsAnswered (follows : Bool) : Type 0 where
    none : refused_of words input ≡ None
    asks : follows_prefix (inspection_asked words) ≡ follows

  -- the code and the text are these
  data Found (code : ℕ) (text : List ℕ) : Type 0 where
    Refused : refused_of words input ≡ Some (code, text) → Found code text
    Shown : IsAnswered true → (script : Script) → Spells (script_in input) script → shown script ≡ Some (code, text) → Found code text
    Drew : IsAnswered true → (script : Script) → Spells (script_in input) script → shown script ≡ None → drawn_of script (prefix_for script input) ≡ Some code → asks_to_draw (inspection_asked words) ≡ true → Found code text
    WentOn : IsAnswered true → (script : Script) → Spells (script_in input) script → shown script ≡ None → (seed : ℕ) → inspection_asked words ≡ Some (inspection.Continue seed)
        → (given : Config × List Entry) → prefix_for script input ≡ Ok given → GoesOn script seed given code text → Found code text
    Answered : IsAnswered false → (asked : Inspection) → inspection_asked words ≡ Some asked → Told asked code text → Found code text

  -- ---- every outcome is found

  -- the checks of words and an input
  checked : (accepted too_long : Bool) (fault : Option Fault) → is_inspection words ≡ accepted → nat_lt 16777216 (length input) ≡ too_long → fault_asked (inspection_asked words) input ≡ fault → refused_of words input ≡ by_checks accepted too_long fault
  checked accepted too_long fault words_are fits first =
      ap (λ (b : Bool). by_checks b (nat_lt 16777216 (length input)) (fault_asked (inspection_asked words) input)) words_are
      ∙ ap (λ (b : Bool). by_checks accepted b (fault_asked (inspection_asked words) input)) fits
      ∙ ap (λ (f : Option Fault). by_checks accepted too_long f) first

  these : {code c : ℕ} {text t : List ℕ} → code ≡ c → text ≡ t → ◌≡◌ {A = Option (ℕ × List ℕ)} (Some (c, t)) (Some (code, text))
  these {c = c} {text = text} {t = t} code_is text_is = sym (ap (λ (x : ℕ). Some (x, text)) code_is ∙ ap (λ (x : List ℕ). Some (c, x)) text_is)

  -- no refusal of a script that is spelled
  pub none_of : (part : List ℕ) (script : Script) → script_asked (inspection_asked words) input ≡ Some part → length input ≤ 16777216 → Spells part script → refused_of words input ≡ None
  none_of part script of_part fits spelled =
      checked true false None (script_accepted (inspection_asked words) input part of_part) (le-ltb 16777216 (length input) fits) (ap (option_and_then first_fault) of_part ∙ spelled_is_faultless part script spelled)

  -- no refusal comes before a run
  none_refused : (script : Script) (asked : Inspection) → inspection_asked words ≡ Some asked → follows_prefix (Some asked) ≡ true → length input ≤ 16777216 → Spells (script_in input) script → IsAnswered true
  none_refused script asked is prefix fits spelled =
      let follows : follows_prefix (inspection_asked words) ≡ true = ap follows_prefix is ∙ prefix in
      record { none = none_of (script_in input) script (follows_script (inspection_asked words) input follows) fits spelled; asks = follows }

  -- none comes before an answer to words that ask for nothing of a script
  pub none_unscripted : (asked : Inspection) → inspection_asked words ≡ Some asked → script_asked (Some asked) input ≡ None → length input ≤ 16777216 → refused_of words input ≡ None
  none_unscripted asked is unscripted fits =
      checked true false None (ap (λ (o : Option Inspection). is_some o) is) (le-ltb 16777216 (length input) fits) (ap (λ (o : Option Inspection). fault_asked o input) is ∙ ap (option_and_then first_fault) unscripted)

  -- what is shown of words and a prefix that are known
  shown_as : (script : Script) (asked : Inspection) (config : Config) (entries : List Entry) (illegal : Option ℕ) (after : Option Run) → inspection_asked words ≡ Some asked → prefix_for script input ≡ Ok (config, entries)
      → first_illegal script config entries ≡ illegal → run script config (followed illegal entries) ≡ after → shown script ≡ by_run (Some asked) input script config entries illegal after
  shown_as script asked config entries illegal after is read illegal_is is_run =
      ap (λ (o : Option Inspection). shown_of o input script (prefix_for script input)) is
      ∙ ap (λ (s : Schedule). shown_of (Some asked) input script s) read
      ∙ ap (λ (n : Option ℕ). by_run (Some asked) input script config entries n (run script config (followed n entries))) illegal_is
      ∙ ap (λ (r : Option Run). by_run (Some asked) input script config entries illegal r) is_run

  module _ (code : ℕ) (text : List ℕ) where
    -- a view that is no drawing
    viewed : (v : View) → inspection_asked words ≡ Some (inspection.Show v) → (prefix : FollowsPrefix input) (t : List ℕ) → code ≡ code_after prefix → by_view (Some (inspection.Show v)) input prefix.script prefix.config (entries_in prefix) prefix.after ≡ Some t → text ≡ t ++ notice prefix.illegal → Found code text
    viewed v is prefix t code_is view_is text_is =
        Shown (none_refused prefix.script (inspection.Show v) is refl prefix.fits prefix.spelled) prefix.script prefix.spelled
        (shown_as prefix.script (inspection.Show v) prefix.config prefix.entries prefix.illegal (Some prefix.after) is prefix.read prefix.illegal_is prefix.is_run
        ∙ ap (option_map (λ (s : List ℕ). (code_after prefix, s ++ notice prefix.illegal))) view_is ∙ these code_is text_is)

    -- the code of a drawing is that after the run
    drawn_as : (prefix : FollowsPrefix input) → drawn_of prefix.script (prefix_for prefix.script input) ≡ Some (code_after prefix)
    drawn_as prefix =
        ap (drawn_of prefix.script) prefix.read
        ∙ ap (λ (n : Option ℕ). code_of_run prefix.script prefix.config prefix.entries n (run prefix.script prefix.config (followed n prefix.entries))) prefix.illegal_is
        ∙ ap (code_of_run prefix.script prefix.config prefix.entries prefix.illegal) prefix.is_run

    drew : (f : Form) → is_drawn f ≡ true → inspection_asked words ≡ Some (inspection.Show (view.Steps f)) → (prefix : FollowsPrefix input) → code ≡ code_after prefix → Found code text
    drew form.Trace drawn is prefix code_is = absurd (true≢false (sym drawn))
    drew form.Lanes drawn is prefix code_is = Drew
        (none_refused prefix.script (inspection.Show (view.Steps form.Lanes)) is refl prefix.fits prefix.spelled) prefix.script prefix.spelled
        (shown_as prefix.script (inspection.Show (view.Steps form.Lanes)) prefix.config prefix.entries prefix.illegal (Some prefix.after) is prefix.read prefix.illegal_is prefix.is_run)
        (drawn_as prefix ∙ ap (λ (n : ℕ). Some n) (sym code_is))
        (ap asks_to_draw is)
    drew form.Picture drawn is prefix code_is = Drew
        (none_refused prefix.script (inspection.Show (view.Steps form.Picture)) is refl prefix.fits prefix.spelled) prefix.script prefix.spelled
        (shown_as prefix.script (inspection.Show (view.Steps form.Picture)) prefix.config prefix.entries prefix.illegal (Some prefix.after) is prefix.read prefix.illegal_is prefix.is_run)
        (drawn_as prefix ∙ ap (λ (n : ℕ). Some n) (sym code_is))
        (ap asks_to_draw is)

    -- with `continue` no view is shown
    none_shown : (script : Script) (config : Config) (entries : List Entry) (seed : ℕ) (illegal : Option ℕ) (after : Option Run) → by_run (Some (inspection.Continue seed)) input script config entries illegal after ≡ None
    none_shown script config entries seed illegal None = refl
    none_shown script config entries seed illegal (Some r) = refl

    -- a run that goes on
    went_on : Continues words input code text → Found code text
    went_on c = WentOn (none_refused c.script (inspection.Continue c.seed) c.asked refl c.fits c.spelled) c.script c.spelled
        (ap (λ (o : Option Inspection). shown_of o input c.script (prefix_for c.script input)) c.asked
        ∙ ap (λ (s : Schedule). shown_of (Some (inspection.Continue c.seed)) input c.script s) c.read
        ∙ none_shown c.script c.config c.entries c.seed (first_illegal c.script c.config c.entries) (run c.script c.config (followed (first_illegal c.script c.config c.entries) c.entries)))
        c.seed c.asked (c.config, c.entries) c.read
        (record {
          schedule = c.schedule;
          continued = subst (λ (n : Option ℕ). SeedContinuation c.script c.config c.seed (followed n c.entries) c.schedule) (sym c.illegal_is) c.continued;
          after = c.after;
          is_run = c.is_run;
          code_is = c.code_is ∙ ap (λ (n : Option ℕ). code_by n (code_of_verdict (verdict_of c.script c.config c.after.world (length c.schedule)))) (sym c.illegal_is);
          told = c.report_text;
          told_is = c.report_is;
          text_is = c.text_is ∙ ap (λ (n : Option ℕ). c.report_text ++ notice n) (sym c.illegal_is);
        })

    -- the tally of a script, or the survey of an expectation
    of_script : (asked : Inspection) (part : List ℕ) (script : Script) → inspection_asked words ≡ Some asked → follows_prefix (Some asked) ≡ false → script_asked (Some asked) input ≡ Some part → length input ≤ 16777216 → Spells part script → Told asked code text → Found code text
    of_script asked part script is prefix of_part fits spelled told =
        Answered (record { none = none_of part script (ap (λ (o : Option Inspection). script_asked o input) is ∙ of_part) fits spelled; asks = ap follows_prefix is ∙ prefix }) asked is told

    -- the sum of tallies, or what is found of a report
    unscripted : (asked : Inspection) → inspection_asked words ≡ Some asked → follows_prefix (Some asked) ≡ false → script_asked (Some asked) input ≡ None → length input ≤ 16777216 → Told asked code text → Found code text
    unscripted asked is prefix no_script fits told = Answered (record { none = none_unscripted asked is no_script fits; asks = ap follows_prefix is ∙ prefix }) asked is told

    added : inspection_asked words ≡ Some inspection.Sum → length input ≤ 16777216 → (total : Result RangeTally Refusal) → IsTotalIn input total → code ≡ (told_of total).0 → text ≡ (told_of total).1 → Found code text
    added is fits total summed code_is text_is = unscripted inspection.Sum is refl refl fits (record { total = total; is_total = summed; told = λ i. (sym code_is i, sym text_is i) })

    found : IsInspected words input code text → Found code text
    found (outcome.WordsRefused o) = Refused (checked false (nat_lt 16777216 (length input)) (fault_asked (inspection_asked words) input) o.refused refl refl ∙ these o.code_is o.text_is)
    found (outcome.InputRefused o) = Refused (checked true true (fault_asked (inspection_asked words) input) o.accepted (lt-ltb 16777216 (length input) o.too_long) refl ∙ these o.code_is o.text_is)
    found (outcome.ScriptRefused o) = Refused
        (checked true false (Some (o.line, o.why)) (script_accepted (inspection_asked words) input o.part o.asked) (le-ltb 16777216 (length input) o.fits) (ap (option_and_then first_fault) o.asked ∙ o.first)
        ∙ these o.code_is o.text_is)
    found (outcome.PrefixRefused o) = Shown
        (record { none = none_of (script_in input) o.script (follows_script (inspection_asked words) input o.accepted) o.fits o.spelled; asks = o.accepted }) o.script o.spelled
        (ap (λ (s : Schedule). shown_of (inspection_asked words) input o.script s) o.first ∙ these o.code_is o.text_is)
    found (outcome.Continued o) = went_on o
    found (outcome.Traced o) = viewed (view.Steps form.Trace) o.asked o.prefix _ o.code_is refl o.text_is
    found (outcome.Listed o) = viewed view.Choices o.asked o.prefix _ o.code_is refl o.text_is
    found (outcome.Valued o) = viewed view.States o.asked o.prefix _ o.code_is refl o.text_is
    found (outcome.Drawn o) = drew o.shown o.drawn o.asked o.prefix o.code_is
    found (outcome.Tallied o) = of_script (inspection.Tally o.seeds) input o.script o.asked refl refl o.fits o.spelled o
    found (outcome.TalliesRefused o) = added o.asked o.fits (Err (o.line, o.why)) (NotRead (o.line, o.why) o.read refl) o.code_is o.text_is
    found (outcome.SumRefused o) = added o.asked o.fits (Err (o.line, o.why)) (Totalled o.tallies o.read o.refused) o.code_is o.text_is
    found (outcome.Summed o) = added o.asked o.fits (Ok o.total) (Totalled o.tallies o.read o.summed) o.code_is o.text_is
    found (outcome.ExpectationRefused o) = of_script (inspection.Survey o.seeds o.config) (script_in input) o.script o.asked refl refl o.fits o.spelled (Faulty o)
    found (outcome.Surveyed o) = of_script (inspection.Survey o.seeds o.config) (script_in input) o.script o.asked refl refl o.fits o.spelled (Whole o)
    found (outcome.ReportRefused o) = unscripted inspection.Judge o.asked refl refl o.fits (Unread o)
    found (outcome.Judged o) = unscripted inspection.Judge o.asked refl refl o.fits (AsRead o)

  -- where nothing is refused, words that do not ask to follow a prefix are told this
  module _ (asked : Inspection) (is : inspection_asked words ≡ Some asked) (prefix : follows_prefix (Some asked) ≡ false) (none : refused_of words input ≡ None) (code : ℕ) (text : List ℕ) where
    no_run : IsAnswered true → ⊥
    no_run answered = true≢false (sym answered.asks ∙ ap follows_prefix is ∙ prefix)

    told_as_found : Found code text → Told asked code text
    told_as_found (Refused a) = absurd (none-some (code, text) (sym none ∙ a))
    told_as_found (Shown answered _ _ _) = absurd (no_run answered)
    told_as_found (Drew answered _ _ _ _ _) = absurd (no_run answered)
    told_as_found (WentOn answered _ _ _ _ _ _ _ _) = absurd (no_run answered)
    told_as_found (Answered _ other same told) = subst (λ (i : Inspection). Told i code text) (same_Some other asked (sym same ∙ is)) told

    pub is_told : IsInspected words input code text → Told asked code text
    is_told inspected = told_as_found (found code text inspected)

-- ---- and only one

-- the seeds of words that ask for a tally
abbrev tally_seeds : Seeds → Option Inspection → Seeds
tally_seeds other (Some (inspection.Tally seeds)) = seeds
tally_seeds other _ = other

-- the number of seeds and the configuration of words that ask for a survey
abbrev survey_parts : ℕ × Config → Option Inspection → ℕ × Config
survey_parts other (Some (inspection.Survey seeds config)) = (seeds, config)
survey_parts other _ = other

-- one text has one list of rules
same_given_rules : (read : Result (List Rule) (ℕ × ExpectWhy)) (one other : List Rule) → read ≡ Ok one → read ≡ Ok other → one ≡ other
same_given_rules read one other a b = ap (given_or one) (sym a ∙ b)
  where
    given_or : List Rule → Result (List Rule) (ℕ × ExpectWhy) → List Rule
    given_or default (Ok rules) = rules
    given_or default (Err fault) = default

-- the seed of words that ask to continue
abbrev seed_in : Option Inspection → ℕ
seed_in (Some (inspection.Continue seed)) = seed
seed_in _ = 0

goes_on_once : (script : Script) (seed : ℕ) (given : Config × List Entry) (code other : ℕ) (text told : List ℕ) → GoesOn script seed given code text → GoesOn script seed given other told → (code ≡ other) × (text ≡ told)
goes_on_once script seed given code other text told a b =
    let illegal : Option ℕ = first_illegal script given.0 given.1 in
    let same : a.schedule ≡ b.schedule = continuation_is_one (draws (stream_of seed 1)) 1 script given.0 (followed illegal given.1) a.schedule b.schedule a.continued b.continued in
    let end : a.after ≡ b.after = same_Some a.after b.after (sym a.is_run ∙ ap (run script given.0) same ∙ b.is_run) in
    let report_is : a.told ≡ b.told = same_Some a.told b.told (sym a.told_is ∙ ap (report script given.0) same ∙ b.told_is) in (
      a.code_is
          ∙ ap (λ (r : Run). code_by illegal (code_of_verdict (verdict_of script given.0 r.world (length a.schedule)))) end
          ∙ ap (λ (xs : List Entry). code_by illegal (code_of_verdict (verdict_of script given.0 b.after.world (length xs)))) same
          ∙ sym b.code_is,
      a.text_is ∙ ap (λ (t : List ℕ). t ++ notice illegal) report_is ∙ sym b.text_is,
    )

module _ (words : List (List ℕ)) (input : List ℕ) (code other : ℕ) (text told : List ℕ) where
  abbrev Same : Type 0
  Same = (code ≡ other) × (asks_to_draw (inspection_asked words) ≡ false → text ≡ told)

  whole : (code ≡ other) × (text ≡ told) → Same
  whole same = (same.0, λ not_drawn. same.1)

  -- of one script something is shown, or nothing
  disagree : {c : ℕ} {t : List ℕ} (one also : Script) → Spells (script_in input) one → Spells (script_in input) also → shown words input one ≡ Some (c, t) → shown words input also ≡ None → ⊥
  disagree {c = c} {t = t} one also a b some none = none-some (c, t) (sym none ∙ ap (shown words input) (spells_one_script (script_in input) also one b a) ∙ some)

  -- words ask for a drawing or to continue
  no_drawing : (seed : ℕ) → asks_to_draw (inspection_asked words) ≡ true → inspection_asked words ≡ Some (inspection.Continue seed) → ⊥
  no_drawing seed drawn is = true≢false (sym drawn ∙ ap asks_to_draw is)

  -- the words ask to follow a prefix, or they do not
  asks_for_both : IsAnswered words input true → IsAnswered words input false → ⊥
  asks_for_both one other = true≢false (sym one.asks ∙ other.asks)

  -- what is refused has no answer
  refused_or_not : {c : ℕ} {t : List ℕ} {follows : Bool} → refused_of words input ≡ Some (c, t) → IsAnswered words input follows → ⊥
  refused_or_not {c = c} {t = t} is answered = none-some (c, t) (sym answered.none ∙ is)

  -- one script has one tally under the seeds that are asked for
  counted_once : Tallies words input code text → Tallies words input other told → (code ≡ other) × (text ≡ told)
  counted_once a b =
      let seeds : a.seeds ≡ b.seeds = ap (tally_seeds b.seeds) (sym a.asked ∙ b.asked) in
      let script : a.script ≡ b.script = spells_one_script input a.script b.script a.spelled b.spelled in
      let counted : TallyOf b.script b.seeds a.tally = subst (λ (s : Script). TallyOf s b.seeds a.tally) script (subst (λ (s : Seeds). TallyOf a.script s a.tally) seeds a.counted) in
      let tally : a.tally ≡ b.tally = tallies_are_one b.script b.seeds a.tally b.tally counted b.counted in (
        a.code_is ∙ sym b.code_is,
        a.text_is ∙ (λ i. text_of (range_lines (record { seeds = seeds i; subject = subject_of (script i); tally = tally i }))) ∙ sym b.text_is,
      )

  -- one script has one survey of the rules
  surveyed_once : OfSurvey words input code text → OfSurvey words input other told → (code ≡ other) × (text ≡ told)
  surveyed_once (Faulty a) (Faulty b) =
      let same = same_err {X = List Rule} (expects_in (expectation_in input)) (a.line, a.why) (b.line, b.why) a.first b.first in
      (a.code_is ∙ sym b.code_is, a.text_is ∙ ap (λ (fault : ℕ × ExpectWhy). line_text (refused_expect fault.0 fault.1)) same ∙ sym b.text_is)
  surveyed_once (Faulty a) (Whole b) = absurd (ok_or_err (expects_in (expectation_in input)) b.rules (a.line, a.why) b.read a.first)
  surveyed_once (Whole a) (Faulty b) = absurd (ok_or_err (expects_in (expectation_in input)) a.rules (b.line, b.why) a.read b.first)
  surveyed_once (Whole a) (Whole b) =
      let asked = ap (survey_parts (b.seeds, b.config)) (sym a.asked ∙ b.asked) in
      let script : a.script ≡ b.script = spells_one_script (script_in input) a.script b.script a.spelled b.spelled in
      let rules : a.rules ≡ b.rules = same_given_rules (expects_in (expectation_in input)) a.rules b.rules a.read b.read in
      let counted : IsSurveyOf b.script (config_for b.script b.config) b.rules b.seeds a.survey =
      subst (λ (s : Script). IsSurveyOf s (config_for s b.config) b.rules b.seeds a.survey) script
      (subst (λ (rs : List Rule). IsSurveyOf a.script (config_for a.script b.config) rs b.seeds a.survey) rules
      (subst (λ (p : ℕ × Config). IsSurveyOf a.script (config_for a.script p.1) a.rules p.0 a.survey) asked a.counted)) in
      let survey : a.survey ≡ b.survey = surveys_are_one b.script (config_for b.script b.config) b.rules b.seeds a.survey b.survey counted b.counted in (
        a.code_is ∙ ap code_of_survey survey ∙ sym b.code_is,
        a.text_is ∙ ap survey_text survey ∙ sym b.text_is,
      )

  -- a report is refused with one fault, or has one judgement
  reported_once : OfReport words input code text → OfReport words input other told → (code ≡ other) × (text ≡ told)
  reported_once (Unread a) (Unread b) =
      let same = same_err {X = Config × List Span} (report_in input) (a.line, a.why) (b.line, b.why) a.first b.first in
      (a.code_is ∙ sym b.code_is, a.text_is ∙ ap (λ (fault : ℕ × ReportWhy). line_text (refused_report fault.0 fault.1)) same ∙ sym b.text_is)
  reported_once (Unread a) (AsRead b) = absurd (judged_or_refused input b.found b.lines a.line a.why b.judged a.first)
  reported_once (AsRead a) (Unread b) = absurd (judged_or_refused input a.found a.lines b.line b.why a.judged b.first)
  reported_once (AsRead a) (AsRead b) =
      let same = judgements_are_one input a.found b.found a.lines b.lines a.judged b.judged in (
        a.code_is ∙ ap code_of_findings same.0 ∙ sym b.code_is,
        a.text_is ∙ (λ i. findings_text input (same.1 i) (same.0 i)) ∙ sym b.text_is,
      )

  -- words are told one thing
  told_once : (asked : Inspection) → Told words input asked code text → Told words input asked other told → (code ≡ other) × (text ≡ told)
  told_once (inspection.Continue seed) a b = absurd a
  told_once (inspection.Show shown) a b = absurd a
  told_once (inspection.Tally seeds) a b = counted_once a b
  told_once inspection.Sum a b =
      let both : (code, text) ≡ (other, told) = sym a.told ∙ ap told_of (totals_in_are_one input a.total b.total a.is_total b.is_total) ∙ b.told in
      (ap (λ (p : ℕ × List ℕ). p.0) both, ap (λ (p : ℕ × List ℕ). p.1) both)
  told_once (inspection.Survey seeds config) a b = surveyed_once a b
  told_once inspection.Judge a b = reported_once a b

  found_once : Found words input code text → Found words input other told → Same
  found_once (Refused a) (Refused b) = whole (some_pair_parts code other text told (sym a ∙ b))
  found_once (Refused a) (Shown answered _ _ _) = absurd (refused_or_not a answered)
  found_once (Refused a) (Drew answered _ _ _ _ _) = absurd (refused_or_not a answered)
  found_once (Refused a) (WentOn answered _ _ _ _ _ _ _ _) = absurd (refused_or_not a answered)
  found_once (Refused a) (Answered answered _ _ _) = absurd (refused_or_not a answered)
  found_once (Shown answered _ _ _) (Refused b) = absurd (refused_or_not b answered)
  found_once (Drew answered _ _ _ _ _) (Refused b) = absurd (refused_or_not b answered)
  found_once (WentOn answered _ _ _ _ _ _ _ _) (Refused b) = absurd (refused_or_not b answered)
  found_once (Answered answered _ _ _) (Refused b) = absurd (refused_or_not b answered)
  found_once (Shown answered _ _ _) (Answered none _ _ _) = absurd (asks_for_both answered none)
  found_once (Drew answered _ _ _ _ _) (Answered none _ _ _) = absurd (asks_for_both answered none)
  found_once (WentOn answered _ _ _ _ _ _ _ _) (Answered none _ _ _) = absurd (asks_for_both answered none)
  found_once (Answered none _ _ _) (Shown answered _ _ _) = absurd (asks_for_both answered none)
  found_once (Answered none _ _ _) (Drew answered _ _ _ _ _) = absurd (asks_for_both answered none)
  found_once (Answered none _ _ _) (WentOn answered _ _ _ _ _ _ _ _) = absurd (asks_for_both answered none)
  found_once (Answered _ asked is a) (Answered _ also same b) =
      whole (told_once also (subst (λ (i : Inspection). Told words input i code text) (same_Some asked also (sym is ∙ same)) a) b)
  found_once (Shown _ one spells a) (Shown _ also spelled b) = whole (some_pair_parts code other text told (sym a ∙ ap (shown words input) (spells_one_script (script_in input) one also spells spelled) ∙ b))
  found_once (Shown _ one spells a) (Drew _ also spelled b _ _) = absurd (disagree one also spells spelled a b)
  found_once (Shown _ one spells a) (WentOn _ also spelled b _ _ _ _ _) = absurd (disagree one also spells spelled a b)
  found_once (Drew _ one spells a _ _) (Shown _ also spelled b) = absurd (disagree also one spelled spells b a)
  found_once (WentOn _ one spells a _ _ _ _ _) (Shown _ also spelled b) = absurd (disagree also one spelled spells b a)
  found_once (Drew _ one spells _ a drawn) (Drew _ also spelled _ b _) = (
    same_Some code other (sym a ∙ ap (λ (s : Script). drawn_of s (prefix_for s input)) (spells_one_script (script_in input) one also spells spelled) ∙ b),
    λ not_drawn. absurd (true≢false (sym drawn ∙ not_drawn)),
  )
  found_once (Drew _ _ _ _ _ drawn) (WentOn _ _ _ _ seed is _ _ _) = absurd (no_drawing seed drawn is)
  found_once (WentOn _ _ _ _ seed is _ _ _) (Drew _ _ _ _ _ drawn) = absurd (no_drawing seed drawn is)
  found_once (WentOn _ one spells _ seed is given read a) (WentOn _ also spelled _ other_seed other_is also_given also_read b) =
      let script : one ≡ also = spells_one_script (script_in input) one also spells spelled in
      let seeds : seed ≡ other_seed = ap seed_in (sym is ∙ other_is) in
      let same : given ≡ also_given = same_given (prefix_for one input) given also_given read (ap (λ (s : Script). prefix_for s input) script ∙ also_read) in
      whole (goes_on_once also other_seed also_given code other text told
      (subst (λ (s : Script). GoesOn s other_seed also_given code text) script (subst (λ (n : ℕ). GoesOn one n also_given code text) seeds (subst (λ (g : Config × List Entry). GoesOn one seed g code text) same a))) b)

pub inspection_is_one : InspectionsAreOne
inspection_is_one words input code other text told a b = found_once words input code other text told (found words input code text a) (found words input other told b)
