-- What `judge` answers of the reports of runs.
use Rattle.std.specs.Prelude.{◌≡◌, ℕ, ◌≤◌, List, [], ◌∷◌, codes, length, Some}
use Rattle.std.specs.List.{flat_map}
use Rattle.pct_model.specs.declared.limits.TheConstants.{MAX_INPUT}
use Rattle.pct_model.specs.declared.schedule.Config.{Config}
use Rattle.pct_model.specs.declared.schedule.Entry.{Entry}
use Rattle.pct_model.specs.declared.script.Script.{Script}
use Rattle.pct_model.specs.Keywords.{line_text}
use Rattle.pct_model.specs.Report.{report_of}
use Rattle.pct_model.specs.Run.{Run, run}
use Rattle.pct_event_judge.specs.Findings.{event_laws}
use Rattle.pct_report_judge.specs.FindingsTexts.{law_text}
use Rattle.pct_inspection.specs.Inspection.{IsInspected}

-- a line `LAW kept` for each law
abbrev pub all_kept_text : List ℕ
all_kept_text = flat_map (λ law. line_text (law_text law ∷ codes "kept" ∷ [])) event_laws

-- of the report of every run, if it is no longer than an input may be, `judge` answers that its events keep each law
abbrev pub ReportsKeepLaws : Type 0
ReportsKeepLaws =
    (script : Script) (config : Config) (entries : List Entry) (r : Run)
    → run script config entries ≡ Some r → length (report_of script config entries r) ≤ MAX_INPUT
    → IsInspected (codes "judge" ∷ []) (report_of script config entries r) 0 all_kept_text
