-- What is counted of some runs and of more of them.
use Rattle.std.proofs.lemmas.List.Sums.{sum_by-append}
use Rattle.pct_names.proofs.Names.{◌++◌, ◌+◌, ◌≤◌, [], All-map, AllZip, ap, arith, Bool, cond, count_by-le-length, enumerate_from, get_or, length, length-range_with_len, List, map, range_with_len}
use Rattle.pct_names.proofs.Names.{refl, Script, Config, subst, suc, sym, Verdict, zero, ℕ, ◌∙◌, ◌∷◌, ◌≡◌}
use Rattle.pct_expect.specs.declared.rule.Rule.{Rule}
use Rattle.pct_sample.proofs.OkRuns.{all_length}
use Rattle.pct_tallies.specs.Sums.{no_runs, sum_of_counts}
use Rattle.pct_tallies.proofs.SumsOfRuns.{first_append}
use Rattle.pct_survey.proofs.CollectedRuns.{all_zip-append}
use Rattle.pct_survey.specs.declared.counting.EndingCount.{EndingCount}
use Rattle.pct_survey.specs.declared.counting.RuleCount.{RuleCount}
use Rattle.pct_survey.specs.declared.counting.Survey.{Survey}
use Rattle.pct_survey.specs.declared.judging.JudgedRun.{JudgedRun}
use Rattle.pct_survey.specs.declared.property.Property.TheVariants.{Holds, Fails, Ends}
use Rattle.pct_survey.specs.JudgedRuns.{IsJudgedRun}
use Rattle.pct_survey.specs.MoreRuns.{AreFew, IsFewOfEnding, IsFewOfRule, ending_with, rule_with, survey_with}
use Rattle.pct_survey.specs.Surveys.{IsSurveyOf, all_endings, count_of, ending_count, has, rule_count, survey_of}

-- the count of two lists
count-append : (passes : JudgedRun → Bool) (xs ys : List JudgedRun) → count_of passes (xs ++ ys) ≡ sum_of_counts (count_of passes xs) (count_of passes ys)
count-append passes xs ys = λ i. record {
  runs = sum_by-append (λ r. cond (passes r) 1 0) xs ys i;
  first = first_append passes (λ r. r.seed) xs ys i;
}

module _ (xs ys : List JudgedRun) where
  rule-append : (n : ℕ) (rule : Rule) → rule_with ys (n, rule_count xs (n, rule)) ≡ rule_count (xs ++ ys) (n, rule)
  rule-append n rule = λ i. record { line = rule.line; holds = sym (count-append (has (Holds n)) xs ys) i; fails = sym (count-append (has (Fails n)) xs ys) i }

  rules-append : (n : ℕ) (rules : List Rule) → map (rule_with ys) (enumerate_from n (map (rule_count xs) (enumerate_from n rules))) ≡ map (rule_count (xs ++ ys)) (enumerate_from n rules)
  rules-append n [] = refl
  rules-append n (rule ∷ rules) = λ i. rule-append n rule i ∷ rules-append (n + 1) rules i

  endings-append : (verdicts : List Verdict) → map (ending_with ys) (map (ending_count xs) verdicts) ≡ map (ending_count (xs ++ ys)) verdicts
  endings-append [] = refl
  endings-append (v ∷ verdicts) = λ i. record { verdict = v; count = sym (count-append (has (Ends v)) xs ys) i } ∷ endings-append verdicts i

  survey-append : (rules : List Rule) → survey_with (survey_of rules xs) ys ≡ survey_of rules (xs ++ ys)
  survey-append rules = λ i. record { rules = rules-append 0 rules i; endings = endings-append all_endings i }

-- no runs
pub rules_uncounted : (n : ℕ) (rules : List Rule) → ◌≡◌ {A = List RuleCount} (map (λ (rule : Rule). record { line = rule.line; holds = no_runs; fails = no_runs }) rules) (map (rule_count []) (enumerate_from n rules))
rules_uncounted n [] = refl
rules_uncounted n (rule ∷ rules) = λ i. rule_count [] (n, rule) ∷ rules_uncounted (n + 1) rules i

pub endings_none : (verdicts : List Verdict) → ◌≡◌ {A = List EndingCount} (map (λ (v : Verdict). record { verdict = v; count = no_runs }) verdicts) (map (ending_count []) verdicts)
endings_none [] = refl
endings_none (v ∷ verdicts) = λ i. ending_count [] v ∷ endings_none verdicts i

-- counts are of at most as many runs as there are
pub are_few : (rules : List Rule) (runs : List JudgedRun) → length runs ≤ 100000 → AreFew (survey_of rules runs)
are_few rules runs few = record {
  rules = All-map IsFewOfRule (rule_count runs) (enumerate_from 0 rules) (λ at d within. (
    (let most = count_by-le-length (has (Holds (get_or (enumerate_from 0 rules) at d).0)) runs in omega (arith, most, few)),
    (let most = count_by-le-length (has (Fails (get_or (enumerate_from 0 rules) at d).0)) runs in omega (arith, most, few)),
  ));
  endings = All-map IsFewOfEnding (ending_count runs) all_endings (λ at d within. let most = count_by-le-length (has (Ends (get_or all_endings at d))) runs in omega (arith, most, few));
}

-- ---- seeds

range-append : (first n m : ℕ) → range_with_len first (n + m) ≡ range_with_len first n ++ range_with_len (first + n) m
range-append first zero m =
    let none : 0 + m ≡ m = omega arith in
    let same : first ≡ first + 0 = omega arith in
    ap (range_with_len first) none ∙ ap (λ (a : ℕ). range_with_len a m) same
range-append first (suc n) m =
    let next : (first + 1) + n ≡ first + suc n = omega arith in
    let one : suc n + m ≡ suc (n + m) = omega arith in
    ap (range_with_len first) one
    ∙ ap (λ (xs : List ℕ). first ∷ xs) (range-append (first + 1) n m ∙ ap (λ (a : ℕ). range_with_len (first + 1) n ++ range_with_len a m) next)

-- one number more
pub range-more : (first n next : ℕ) → next ≡ first + n → range_with_len first n ++ next ∷ [] ≡ range_with_len first (n + 1)
range-more first n next is = ap (λ (a : ℕ). range_with_len first n ++ a ∷ []) is ∙ sym (range-append first n 1)

module _ (script : Script) (config : Config) (rules : List Rule) where
  pub no_seeds : (survey : Survey) → survey ≡ survey_of rules [] → IsSurveyOf script config rules 0 survey
  no_seeds survey is = record { runs = []; of_seeds = tt; counted = is }

  -- as many runs as seeds
  pub run_count : (first count : ℕ) (runs : List JudgedRun) → AllZip (IsJudgedRun script config rules) (range_with_len first count) runs → length runs ≡ count
  run_count first count runs each = all_length (IsJudgedRun script config rules) (range_with_len first count) runs each ∙ length-range_with_len first count

  pub survey_is_few : (count : ℕ) (survey : Survey) → count ≤ 100000 → IsSurveyOf script config rules count survey → AreFew survey
  survey_is_few count survey few x =
      let as_many : length x.runs ≡ count = run_count 1 count x.runs x.of_seeds in
      subst AreFew (sym x.counted) (are_few rules x.runs (omega (arith, as_many, few)))

  -- the seeds right after others
  pub more_seeds : (done more : ℕ) (survey later : Survey) (runs : List JudgedRun) → IsSurveyOf script config rules done survey
      → AllZip (IsJudgedRun script config rules) (range_with_len (done + 1) more) runs → later ≡ survey_with survey runs → IsSurveyOf script config rules (done + more) later
  more_seeds done more survey later runs x each is =
      let next : done + 1 ≡ 1 + done = omega arith in
      record {
        runs = x.runs ++ runs;
        of_seeds = subst (λ (seeds : List ℕ). AllZip (IsJudgedRun script config rules) seeds (x.runs ++ runs)) (sym (range-append 1 done more))
            (all_zip-append (IsJudgedRun script config rules) (range_with_len 1 done) (range_with_len (1 + done) more) x.runs runs x.of_seeds
            (subst (λ (n : ℕ). AllZip (IsJudgedRun script config rules) (range_with_len n more) runs) next each));
        counted = is ∙ ap (λ (s : Survey). survey_with s runs) x.counted ∙ survey-append x.runs runs rules;
      }
