use Rattle.pct_names.proofs.Names.{drop, map, string_bytes, ◌≡◌}
use Rattle.pct_inspection.specs.Selections.{all_selected, begun_after, with_part}
use Rattle.pct_inspection.specs.SelectionValues.{begun_value}
use Rattle.pct_inspection.proofs.selecting.read_selection.Given as goal

-- the words so far begin what all words ask for
abbrev pub invariant-loop-word : goal.invariant-loop-word
invariant-loop-word l = begun_after (begun_value l.begun) (map string_bytes (drop l.word-index l.words)) ≡ begun_after (with_part all_selected) (map string_bytes l.words)
