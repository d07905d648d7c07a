-- The values of selections, as the code has them. No public clause cites this file.
use Rattle.std.specs.Prelude.{option_map}
use Rattle.pct_lanes.specs.declared.selection.Selection.{Selection}
use Rattle.pct_inspection.specs.declared.selecting.Begun.{Begun}
use Rattle.pct_inspection.specs.Selections.{SelectionValue, BegunValue}

-- the selection that a struct has
abbrev pub selection_value : Selection → SelectionValue
selection_value s = record { steps = s.steps; threads = option_map (λ text. text.now) s.threads; events = s.events }

-- the selection of which some words are read that a struct has
abbrev pub begun_value : Begun → BegunValue
begun_value b = record { selection = selection_value b.selection; option = b.option }
