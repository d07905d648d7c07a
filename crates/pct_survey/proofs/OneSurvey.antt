-- A seed has one judged run, and so there is one survey.
use Rattle.std.proofs.lemmas.Bool.Decides.{same_from_decides}
use Rattle.pct_names.proofs.Names.{[], AllZip, ap, Bool, Config, Entry, length, List, range_with_len, refl, Run, run, same_Some, Script, subst, sym, verdict_of, ℕ, ◌∙◌, ◌∷◌, ◌≡◌}
use Rattle.pct_expect.specs.declared.rule.Rule.{Rule}
use Rattle.pct_expect.specs.Answers.{Holds}
use Rattle.pct_scheduled_run.proofs.OneSchedule.{seed_schedule_is_one}
use Rattle.pct_survey.specs.declared.judging.JudgedRun.{JudgedRun}
use Rattle.pct_survey.specs.JudgedRuns.{AreHeld, IsJudgedRun, events_of}
use Rattle.pct_survey.specs.OneSurvey.{SurveysAreOne}
use Rattle.pct_survey.specs.Surveys.{survey_of}

held_are_one : (events : List (List (List ℕ))) (rules : List Rule) (one other : List Bool) → AreHeld events rules one → AreHeld events rules other → one ≡ other
held_are_one events [] [] [] x y = refl
held_are_one events [] [] (b ∷ other) x y = absurd y
held_are_one events [] (a ∷ one) other x y = absurd x
held_are_one events (rule ∷ rules) [] other x y = absurd x
held_are_one events (rule ∷ rules) (a ∷ one) [] x y = absurd y
held_are_one events (rule ∷ rules) (a ∷ one) (b ∷ other) x y = λ i. same_from_decides {P = Holds rule events} a b x.0 y.0 i ∷ held_are_one events rules one other x.1 y.1 i

module _ (script : Script) (config : Config) (rules : List Rule) where
  run_is_one : (seed : ℕ) (one other : JudgedRun) → IsJudgedRun script config rules seed one → IsJudgedRun script config rules seed other → one ≡ other
  run_is_one seed one other x y =
      let same : x.entries ≡ y.entries = seed_schedule_is_one script config seed config.budget x.entries y.entries x.scheduled y.scheduled in
      let after : x.after ≡ y.after = same_Some x.after y.after (sym x.is_run ∙ ap (λ (entries : List Entry). run script config entries) same ∙ y.is_run) in
      let verdict = x.verdict_is ∙ ap (λ (entries : List Entry). verdict_of script config x.after.world (length entries)) same ∙ ap (λ (r : Run). verdict_of script config r.world (length y.entries)) after ∙ sym y.verdict_is in
      let held : one.held ≡ other.held = held_are_one (events_of script y.after) rules one.held other.held (subst (λ (r : Run). AreHeld (events_of script r) rules one.held) after x.held) y.held in
      λ i. record { seed = (x.seed_is ∙ sym y.seed_is) i; verdict = verdict i; held = held i }

  runs_are_one : (seeds : List ℕ) (one other : List JudgedRun) → AllZip (IsJudgedRun script config rules) seeds one → AllZip (IsJudgedRun script config rules) seeds other → one ≡ other
  runs_are_one [] [] [] x y = refl
  runs_are_one [] [] (b ∷ other) x y = absurd y
  runs_are_one [] (a ∷ one) other x y = absurd x
  runs_are_one (n ∷ seeds) [] other x y = absurd x
  runs_are_one (n ∷ seeds) (a ∷ one) [] x y = absurd y
  runs_are_one (n ∷ seeds) (a ∷ one) (b ∷ other) x y = λ i. run_is_one n a b x.0 y.0 i ∷ runs_are_one seeds one other x.1 y.1 i

pub surveys_are_one : SurveysAreOne
surveys_are_one script config rules count one other x y = x.counted ∙ ap (survey_of rules) (runs_are_one script config rules (range_with_len 1 count) x.runs y.runs x.of_seeds y.of_seeds) ∙ sym y.counted
