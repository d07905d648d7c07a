use Rattle.pct_names.proofs.Names.{◌++◌, flat_map, range_with_len, ◌≡◌}
use Rattle.pct_keys.specs.Tables.{row_at}
use Rattle.pct_view_texts.specs.Fields.{after_commas}
use Rattle.pct_view_texts.specs.States.{specific_on}
use Rattle.pct_view_texts.specs.TextBuffers.{text_in}
use Rattle.pct_view_texts.proofs.specific.push_each_value.Given as goal

-- the values at the first places were appended
abbrev pub invariant-loop-place : goal.invariant-loop-place
invariant-loop-place l = text_in l.phrases ≡ text_in l.initial.phrases ++ after_commas (flat_map (specific_on l.keys.places (row_at l.keys l.slot)) (range_with_len 0 l.place))
