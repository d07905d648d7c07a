-- The checks of a text in three groups, in the order in which they are made. No public clause cites this file.
use Rattle.std.specs.Prelude.{ℕ, List, [], ◌∷◌, Option}
use Rattle.std.specs.Option.{option_or}
use Rattle.pct_model.specs.Checks.{roles, too_many, name_twice, unknown_name, return_in_push, not_plain, no_main}
use Rattle.pct_model.specs.Nesting.{nesting}
use Rattle.pct_model.specs.Sections.{Line, parsed_lines}
use Rattle.pct_model.specs.LineParsing.{spelled_lines}
use Rattle.pct_model.specs.Spelling.{Fault, first_of, spelling}

-- the first fault of the checks of spelling, nesting and limits
unfoldable pub early_fault : List ℕ → Option Fault
early_fault text = first_of (spelling (spelled_lines text) ∷ nesting (roles (parsed_lines text)) ∷ too_many (parsed_lines text) ∷ [])

-- the first fault of the checks after name resolution
unfoldable pub last_fault : List Line → Option Fault
last_fault lines = first_of (return_in_push lines ∷ not_plain lines ∷ no_main lines ∷ [])

-- the first fault of the checks that go over parsed lines
unfoldable pub late_fault : List Line → Option Fault
late_fault lines = option_or (name_twice lines) (option_or (unknown_name lines) (last_fault lines))

-- the first fault of all
unfoldable pub fault_in_order : List ℕ → Option Fault
fault_in_order text = option_or (early_fault text) (late_fault (parsed_lines text))
