use Rattle.pct_names.proofs.Names.{◌≡◌}
use Rattle.std.specs.List.{flat_map}
use Rattle.pct_survey.proofs.surveying.in_one.Given as goal

-- the parts so far are joined
abbrev pub invariant-loop-part : goal.invariant-loop-part
invariant-loop-part l = l.runs.items ≡ flat_map (λ part. part.items) l.yielded
