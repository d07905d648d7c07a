use Rattle.pct_names.proofs.Names.{drop, map, ◌≡◌}
use Rattle.pct_io.specs.Fields.{field_text}
use Rattle.pct_expect.specs.Events.{matches}
use Rattle.pct_survey.proofs.matching.are_fields.Given as goal

-- the words so far match
abbrev pub invariant-loop-index : goal.invariant-loop-index
invariant-loop-index l = matches l.pattern (map field_text l.fields) ≡ matches (drop l.index l.pattern) (map field_text (drop l.index l.fields))
