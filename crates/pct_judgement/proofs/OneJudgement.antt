-- An input has one judgement.
use Rattle.pct_names.proofs.Names.{ap, Err, List, Ok, Result, subst, sym, ℕ, ◌∙◌, ◌≡◌}
use Rattle.pct_expect.specs.declared.fault.ExpectWhy.{ExpectWhy}
use Rattle.pct_expect.specs.declared.rule.Rule.{Rule}
use Rattle.pct_expect.specs.declared.verdict.Judged.{Judged}
use Rattle.pct_expect.specs.Answers.{AreAnswers}
use Rattle.pct_expect.specs.Reading.{expects_in}
use Rattle.pct_expect.proofs.OneAnswer.{answers_are_one}
use Rattle.pct_report_reader.specs.declared.fault.ReportWhy.{ReportWhy}
use Rattle.pct_report_reader.specs.Reading.{report_in}
use Rattle.pct_judgement.specs.declared.judgement.Judgement.{Judgement}
use Rattle.pct_judgement.specs.declared.judgement.Judgement.TheVariants.{Answered, ExpectRefused, ReportRefused}
use Rattle.pct_judgement.specs.Judgements.{IsJudgement, events_of}

-- a result has one value or one error
module _ {A E : Type 0} where
  value_of : A → Result A E → A
  value_of other (Ok x) = x
  value_of other (Err e) = other

  error_of : E → Result A E → E
  error_of other (Ok x) = other
  error_of other (Err e) = e

  pub same_value : (r : Result A E) (x y : A) → r ≡ Ok x → r ≡ Ok y → x ≡ y
  unfolding value_of
  same_value r x y is also = ap (value_of x) (sym is ∙ also)

  pub same_error : (r : Result A E) (d e : E) → r ≡ Err d → r ≡ Err e → d ≡ e
  unfolding error_of
  same_error r d e is also = ap (error_of d) (sym is ∙ also)

  pub value_or_error : (r : Result A E) (x : A) (e : E) → r ≡ Ok x → r ≡ Err e → ⊥
  value_or_error r x e is also = absurd cc

pub judgements_are_one : (rules_text report : List ℕ) (a b : Judgement) → IsJudgement rules_text report a → IsJudgement rules_text report b → a ≡ b
judgements_are_one rules_text report (Answered xs) (Answered ys) f g =
    let rules : g.rules ≡ f.rules = same_value (expects_in rules_text) g.rules f.rules g.read_rules f.read_rules in
    let answers : AreAnswers (events_of report) f.rules ys = subst (λ (r : List Rule). AreAnswers (events_of report) r ys) rules g.are_answers in
    ap (λ (zs : List Judged). Answered zs) (answers_are_one (events_of report) f.rules xs ys f.are_answers answers)
judgements_are_one rules_text report (Answered xs) (ExpectRefused line why) f g = absurd (value_or_error (expects_in rules_text) f.rules (line, why) f.read_rules g)
judgements_are_one rules_text report (Answered xs) (ReportRefused line why) f g = absurd (value_or_error (report_in report) (f.config, f.lines) (line, why) f.read_report g.first)
judgements_are_one rules_text report (ExpectRefused line why) (Answered ys) f g = absurd (value_or_error (expects_in rules_text) g.rules (line, why) g.read_rules f)
judgements_are_one rules_text report (ExpectRefused line why) (ExpectRefused other reason) f g =
    ap (λ (fault : ℕ × ExpectWhy). ExpectRefused fault.0 fault.1) (same_error (expects_in rules_text) (line, why) (other, reason) f g)
judgements_are_one rules_text report (ExpectRefused line why) (ReportRefused other reason) f g = absurd (value_or_error (expects_in rules_text) g.rules (line, why) g.read_rules f)
judgements_are_one rules_text report (ReportRefused line why) (Answered ys) f g = absurd (value_or_error (report_in report) (g.config, g.lines) (line, why) g.read_report f.first)
judgements_are_one rules_text report (ReportRefused line why) (ExpectRefused other reason) f g = absurd (value_or_error (expects_in rules_text) f.rules (other, reason) f.read_rules g)
judgements_are_one rules_text report (ReportRefused line why) (ReportRefused other reason) f g =
    ap (λ (fault : ℕ × ReportWhy). ReportRefused fault.0 fault.1) (same_error (report_in report) (line, why) (other, reason) f.first g.first)
