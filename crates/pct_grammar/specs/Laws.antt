-- The theorems on texts and the scripts that they spell.
use Rattle.std.specs.Prelude.{◌≡◌, ℕ, List, None}
use Rattle.pct_model.specs.declared.script.Script.{Script}
use Rattle.pct_model.specs.Spells.{Spells}
use Rattle.pct_model.specs.Checks.{first_fault}
use Rattle.pct_model.specs.Canon.{canon}

-- a text that spells a script has no fault
abbrev pub SpelledTextsAreFaultless : Type 0
SpelledTextsAreFaultless = (text : List ℕ) (script : Script) → Spells text script → first_fault text ≡ None

-- a text without a fault spells a script
abbrev pub FaultlessTextsAreSpelled : Type 0
FaultlessTextsAreSpelled = (text : List ℕ) → first_fault text ≡ None → (script : Script) × Spells text script

-- a text spells at most one script
abbrev pub ScriptsAreOne : Type 0
ScriptsAreOne = (text : List ℕ) (script other : Script) → Spells text script → Spells text other → script ≡ other

-- the canonical text of a script spells it
abbrev pub CanonSpells : Type 0
CanonSpells = (script : Script) → Spells (canon script) script
