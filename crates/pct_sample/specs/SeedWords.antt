-- The words `run --seed S`.
use Rattle.std.specs.Prelude.{◌≡◌, ℕ, List, [], ◌∷◌, Some, true}
use Rattle.std.specs.Str.Parse.{digits_value}
use Rattle.pct_model.specs.declared.keyword.Keyword.TheVariants as keyword
use Rattle.pct_model.specs.declared.limits.TheConstants.{DEFAULT_BUDGET}
use Rattle.pct_model.specs.declared.run_options.RunOption.TheVariants as option
use Rattle.pct_model.specs.Keywords.{keyword_text}
use Rattle.pct_model.specs.RunOptions.{default_config, is_value, option_name, run_options}

-- where a text gives a seed, the words `run --seed TEXT` ask for the run of this seed: with the default configuration, one worker, and a turn
-- for each entry of the budget
abbrev pub SeedsAreOptions : Type 0
SeedsAreOptions = (text : List ℕ) → is_value option.Seed text ≡ true
    → run_options (keyword_text keyword.Run ∷ option_name option.Seed ∷ text ∷ []) ≡ Some (record { config = default_config; seed = digits_value 10 text; workers = 1; turns = DEFAULT_BUDGET })
