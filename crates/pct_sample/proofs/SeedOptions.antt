-- The words `run --seed S` ask for the run of the seed S.
use Rattle.std.proofs.Common.{◌≡◌, ℕ, Bool, List, [], ◌∷◌, Option, Some, None, ap, cond, refl, ◌∙◌}
use Rattle.std.specs.Str.Parse.{digits_value}
use Rattle.pct_model.specs.declared.keyword.Keyword.TheVariants as keyword
use Rattle.pct_model.specs.declared.limits.TheConstants.{DEFAULT_BUDGET, DEFAULT_SEED, DEFAULT_WORKERS}
use Rattle.pct_model.specs.declared.run_options.RunOption.TheVariants as option
use Rattle.pct_model.specs.declared.run_options.RunOptions.{RunOptions}
use Rattle.pct_model.specs.Keywords.{keyword_text}
use Rattle.pct_model.specs.Lines.{◌>>=◌}
use Rattle.pct_model.specs.RunOptions.{default_config, given_after, number_by, option_name, options_of, run_options}
use Rattle.pct_sample.specs.SeedWords.{SeedsAreOptions}

-- the numbers of a run whose seed alone is given
abbrev with_seed : Option ℕ → Option RunOptions
with_seed number = number >>= λ seed. Some (record { config = default_config; seed = seed; workers = DEFAULT_WORKERS; turns = DEFAULT_BUDGET })

by_number : (text : List ℕ) → run_options (keyword_text keyword.Run ∷ option_name option.Seed ∷ text ∷ []) ≡ with_seed (number_by option.Seed DEFAULT_SEED (text ∷ []))
unfolding run_options given_after options_of keyword_text
by_number text = refl

pub seeds_are_options : SeedsAreOptions
seeds_are_options text given = by_number text ∙ ap with_seed (ap (λ (b : Bool). cond b (Some (digits_value 10 text)) None) given)
