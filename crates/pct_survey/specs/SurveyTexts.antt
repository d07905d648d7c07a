-- The text of a survey. Byte 9 is a tab, byte 10 LF.
use Rattle.std.specs.Prelude.{ℕ, if◌then◌else◌, List, [], ◌∷◌, ◌++◌, codes, decimal, flat_map, nat_eq}
use Rattle.std.specs.List.{join_with_byte}
use Rattle.pct_model.specs.Report.{verdict_line}
use Rattle.pct_tallies.specs.declared.count.Count.{Count}
use Rattle.pct_survey.specs.declared.counting.EndingCount.{EndingCount}
use Rattle.pct_survey.specs.declared.counting.RuleCount.{RuleCount}
use Rattle.pct_survey.specs.declared.counting.Survey.{Survey}

-- a tab, and `first S`, or `-` where there is no run
abbrev pub first_text : Count → List ℕ
first_text count = if nat_eq count.runs 0 then 9 ∷ codes "-" else (9 ∷ codes "first ") ++ decimal count.first

-- the line of a rule: its line in the expectation, `holds N`, `fails N`, and the first seed of each kind
abbrev pub rule_text : RuleCount → List ℕ
rule_text rule = decimal rule.line ++ (((9 ∷ codes "holds ") ++ decimal rule.holds.runs) ++ (((9 ∷ codes "fails ") ++ decimal rule.fails.runs) ++ (first_text rule.holds ++ (first_text rule.fails ++ 10 ∷ []))))

-- the line of a verdict: its line in a report, the number of runs, and their first seed
abbrev pub ending_text : EndingCount → List ℕ
ending_text ending = join_with_byte 32 (verdict_line ending.verdict) ++ ((9 ∷ decimal ending.count.runs) ++ (first_text ending.count ++ 10 ∷ []))

-- no line, where no run ends with the verdict
abbrev pub shown_ending : EndingCount → List ℕ
shown_ending ending = if nat_eq ending.count.runs 0 then [] else ending_text ending

-- a line for each rule, and a line for each verdict that a run ends with
abbrev pub survey_text : Survey → List ℕ
survey_text survey = flat_map rule_text survey.rules ++ flat_map shown_ending survey.endings
