-- Of a report that keeps all laws `judge` answers so.
use Rattle.pct_names.proofs.Names.{◌∷◌, ◌≡◌, ◌≤◌, [], codes, Config, length, List, refl, Some, ℕ}
use Rattle.pct_event_judge.specs.Findings.{all_kept}
use Rattle.pct_judge_laws.specs.RunsKeep.{KeepsLaws}
use Rattle.pct_inspection.specs.declared.words.Inspection.TheVariants as inspection
use Rattle.pct_inspection.specs.Inspection.{IsInspected}
use Rattle.pct_inspection.specs.Inspection as outcome
use Rattle.pct_inspection.specs.JudgeLaws.{all_kept_text}
use Rattle.pct_inspection.specs.Words.{inspection_asked}

asks : inspection_asked (codes "judge" ∷ []) ≡ Some inspection.Judge
unfolding inspection_asked
asks = refl

pub kept_report : (config : Config) (count : ℕ) (text : List ℕ) → length text ≤ 16777216 → KeepsLaws config count text → IsInspected (codes "judge" ∷ []) text 0 all_kept_text
kept_report config count text fits keeps =
    outcome.Judged (record {
      asked = asks;
      fits = fits;
      found = all_kept;
      lines = keeps.lines;
      judged = record { config = config; events = keeps.events; read = keeps.read; are_findings = keeps.are_kept };
      code_is = refl;
      text_is = refl;
    })
