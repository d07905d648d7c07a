-- Which entries make a step, and when a run can go on.
use Rattle.std.specs.Prelude.{◌≡◌, ◌↔◌, true, List, [], ◌∷◌, ◌++◌, length, Some, is_some}
use Rattle.pct_model.specs.declared.script.Script.{Script}
use Rattle.pct_model.specs.declared.schedule.Config.{Config}
use Rattle.pct_model.specs.declared.schedule.Entry.{Entry}
use Rattle.pct_model.specs.declared.stop.Verdict.TheVariants.{Open}
use Rattle.pct_model.specs.World.{World}
use Rattle.pct_model.specs.Step.{Legal, Successor, IsLegalStep, step}
use Rattle.pct_model.specs.Run.{Run, run, verdict_of}

-- an entry makes a step exactly if it is legal, and its step is then that of the legal entry
abbrev pub StepsIfLegal : Type 0
StepsIfLegal = (script : Script) (config : Config) (w : World) (e : Entry) (s : Successor) → (step script config w e ≡ Some s) ↔ IsLegalStep script config w e s

-- the verdict of the run of these entries is `Open`, and one more entry is legal in the state after it
abbrev pub IsLegalWhileOpen : Script → Config → List Entry → Run → Entry → Type 0
IsLegalWhileOpen script config entries after e = (verdict_of script config after.world (length entries) ≡ Open) × Legal script config after.world e

-- a run can go on by an entry exactly if its verdict is `Open` and the entry is legal
abbrev pub GoesOnWhileOpen : Type 0
GoesOnWhileOpen = (script : Script) (config : Config) (entries : List Entry) (after : Run) (e : Entry) → run script config entries ≡ Some after → (is_some (run script config (entries ++ e ∷ [])) ≡ true) ↔ IsLegalWhileOpen script config entries after e
