-- Words that do not ask for more than one worker and an input have one answer at the most, since a seed has one schedule.
use Rattle.pct_names.proofs.Names.{◌<◌, ap, code_of_verdict, Config, config_for, Entry, inl, inr, length, List, None, none-some, Option, refl, report}
use Rattle.pct_names.proofs.Names.{Run, run, RunOptions, Script, script_part, Some, some_pair_parts, Spells, subst, sym, verdict_of, ℕ, ◌∙◌}
use Rattle.pct_names.proofs.Names.{◌≡◌}
use Rattle.pct_grammar.proofs.Scripts.{spells_one_script}
use Rattle.pct_scheduled_run.specs.SeedSchedules.{SeedSchedule}
use Rattle.pct_scheduled_run.proofs.OneSchedule.{seed_schedule_is_one}
use Rattle.pct_command.specs.declared.words.Job.{Job}
use Rattle.pct_command.specs.declared.words.Job.TheVariants as job
use Rattle.pct_command.specs.Command.{AnswersAreOne, Audited, CommandOutcome, Expected, HasOneWorker, IsReportOf, Other, Sampled}
use Rattle.pct_command.specs.Words.{job_asked}
use Rattle.pct_command.proofs.AskedWords.{run_asked}
use Rattle.pct_command.proofs.CompleteOutcomes.{verdict_code}
use Rattle.pct_command.proofs.OneOutcome.{by_run, run_of, by_job, judging_is_one, one_is_judging, found, found_once, sample_has_no_other, samples_are_one}

-- the code of a report is that of a verdict
run_below_five : (script : Script) (config : Config) (entries : List Entry) (after : Option Run) (reported : Option (List ℕ)) (code : ℕ) (text : List ℕ) → by_run script config entries after reported ≡ Some (code, text) → code < 5
run_below_five script config entries after None code text is = absurd (none-some (code, text) is)
run_below_five script config entries None (Some told) code text is = absurd (none-some (code, text) is)
run_below_five script config entries (Some after) (Some told) code text is =
    let v = verdict_of script config after.world (length entries) in
    subst (λ (n : ℕ). n < 5) (some_pair_parts (code_of_verdict v) code told text is).0 (verdict_code v)

module _ (words : List (List ℕ)) (input : List ℕ) (script : Script) (spelled : Spells (script_part words input) script) where
  -- the report of a `run` with one worker has the schedule of the seed
  pub seeded : (options : RunOptions) (schedule : List Entry) (code : ℕ) (text : List ℕ) → by_job (Some (job.Run options)) input schedule script ≡ Some (code, text)
      → (code < 5 → IsReportOf (Some (job.Run options)) words input schedule code text) → options.workers ≡ 1 → SeedSchedule script (config_for script options.config) options.seed options.turns schedule
  seeded options schedule code text is reports lone =
      let config : Config = config_for script options.config in
      let closed = (reports (run_below_five script config schedule (run script config schedule) (report script config schedule) code text is)).0 in
      subst (λ (s : Script). SeedSchedule s (config_for s options.config) options.seed options.turns schedule) (spells_one_script _ closed.script script closed.spelled spelled) (closed.worked.lone lone)

  answer_of_job : (asked : Option Job) (one other : List Entry) (code other_code : ℕ) (text other_text : List ℕ)
      → by_job asked input one script ≡ Some (code, text) → by_job asked input other script ≡ Some (other_code, other_text)
      → (code < 5 → IsReportOf asked words input one code text) → (other_code < 5 → IsReportOf asked words input other other_code other_text)
      → ((options : RunOptions) → asked ≡ Some (job.Run options) → options.workers ≡ 1)
      → (code ≡ other_code) × (text ≡ other_text)
  answer_of_job (Some (job.Run options)) one other code other_code text other_text a b reports other_reports lone =
      let same =
      seed_schedule_is_one script (config_for script options.config) options.seed options.turns one other
      (seeded options one code text a reports (lone options refl)) (seeded options other other_code other_text b other_reports (lone options refl)) in
      some_pair_parts code other_code text other_text (sym a ∙ ap (λ (xs : List Entry). run_of script (config_for script options.config) xs) same ∙ b)
  answer_of_job _ one other code other_code text other_text a b reports other_reports lone = some_pair_parts code other_code text other_text (sym a ∙ b)

outcomes_with : (words : List (List ℕ)) (input : List ℕ) (one other : List Entry) (code other_code : ℕ) (text other_text : List ℕ) → HasOneWorker words
    → (code < 5 → IsReportOf (job_asked words) words input one code text) → (other_code < 5 → IsReportOf (job_asked words) words input other other_code other_text)
    → CommandOutcome words input one code text → CommandOutcome words input other other_code other_text → (code ≡ other_code) × (text ≡ other_text)
outcomes_with words input one other code other_code text other_text lone reports other_reports (Sampled a) (Sampled b) = samples_are_one words input code other_code text other_text a b
outcomes_with words input one other code other_code text other_text lone reports other_reports (Sampled a) (Other _ b) =
    absurd (sample_has_no_other words input other code other_code text other_text a b)
outcomes_with words input one other code other_code text other_text lone reports other_reports (Other _ a) (Sampled b) =
    absurd (sample_has_no_other words input one other_code code other_text text b a)
outcomes_with words input one other code other_code text other_text lone reports other_reports (Other _ a) (Other _ b) =
    found_once words input one other code other_code text other_text
    (λ script spells x y. answer_of_job words input script spells (job_asked words) one other code other_code text other_text x y reports other_reports (λ options named. lone options (run_asked words options named)))
    (found words input one code text a) (found words input other other_code other_text b)
outcomes_with words input one other code other_code text other_text lone reports other_reports (Expected a) b = judging_is_one words input other code other_code text other_text (inl a) b
outcomes_with words input one other code other_code text other_text lone reports other_reports (Audited a) b = judging_is_one words input other code other_code text other_text (inr a) b
outcomes_with words input one other code other_code text other_text lone reports other_reports (Sampled a) (Expected b) =
    one_is_judging words input one code other_code text other_text (Sampled a) (inl b)
outcomes_with words input one other code other_code text other_text lone reports other_reports (Sampled a) (Audited b) =
    one_is_judging words input one code other_code text other_text (Sampled a) (inr b)
outcomes_with words input one other code other_code text other_text lone reports other_reports (Other no_judging a) (Expected b) =
    one_is_judging words input one code other_code text other_text (Other no_judging a) (inl b)
outcomes_with words input one other code other_code text other_text lone reports other_reports (Other no_judging a) (Audited b) =
    one_is_judging words input one code other_code text other_text (Other no_judging a) (inr b)

pub answer_is_one : AnswersAreOne
answer_is_one words input code other_code text other_text lone a b =
    outcomes_with words input a.schedule b.schedule code other_code text other_text lone a.is_report b.is_report a.is_outcome b.is_outcome
