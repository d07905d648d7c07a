-- The parts of an input.
use Rattle.std.specs.Prelude.{ℕ, List, take, drop}
use Rattle.pct_model.specs.Schedule.{replay_parts}

-- the script in an input: the part before the line `%%`, or the whole input without such a line
unfoldable pub script_in : List ℕ → List ℕ
script_in input = take (replay_parts input).0 input

-- the prefix of a schedule in an input: the part after the line `%%`, empty without such a line
unfoldable pub prefix_in : List ℕ → List ℕ
prefix_in input = drop (replay_parts input).1 input

-- the expectation in an input: the same part
abbrev pub expectation_in : List ℕ → List ℕ
expectation_in input = prefix_in input
