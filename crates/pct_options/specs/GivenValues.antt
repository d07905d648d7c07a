-- The values that options were given, one option after the other. No public clause cites this file.
use Rattle.std.specs.Prelude.{ℕ, if◌then◌else◌, Option, Some, None, find, is_some, option_and_then, unwrap_or}
use Rattle.pct_model.specs.declared.limits.TheConstants.{DEFAULT_BUDGET, DEFAULT_PASSES, DEFAULT_SLOTS, DEFAULT_SEED, DEFAULT_WORKERS}
use Rattle.pct_model.specs.declared.schedule.Format.TheVariants.{One}
use Rattle.pct_model.specs.declared.run_options.RunOption.{RunOption}
use Rattle.pct_model.specs.declared.run_options.RunOption.TheVariants as option
use Rattle.pct_model.specs.declared.run_options.RunOptions.{RunOptions}
use Rattle.pct_model.specs.RunOptions.{GivenOption, all_options, is_named}
use Rattle.pct_options.specs.declared.given_values.GivenValues.{GivenValues}
use Rattle.pct_options.specs.OptionTexts.{value_of}

-- no option was given a value
abbrev pub none_given : GivenValues
none_given = record { budget = None; passes = None; slots = None; seed = None; workers = None; turns = None }

-- the values with one more, if the option has none
abbrev pub with_value : GivenValues → RunOption → ℕ → Option GivenValues
with_value given option.Budget n = if is_some given.budget then None else Some (record given { budget = Some n })
with_value given option.Passes n = if is_some given.passes then None else Some (record given { passes = Some n })
with_value given option.Slots n = if is_some given.slots then None else Some (record given { slots = Some n })
with_value given option.Seed n = if is_some given.seed then None else Some (record given { seed = Some n })
with_value given option.Workers n = if is_some given.workers then None else Some (record given { workers = Some n })
with_value given option.Turns n = if is_some given.turns then None else Some (record given { turns = Some n })

-- the values with that of an option as words give it
unfoldable pub with_option : GivenValues → GivenOption → Option GivenValues
with_option given g = option_and_then (λ o. option_and_then (with_value given o) (value_of o g.value)) (find (is_named g.name) all_options)

-- the numbers of a run with these values
abbrev pub numbers_with : GivenValues → RunOptions
numbers_with given = record {
  config = record {
    budget = unwrap_or given.budget DEFAULT_BUDGET;
    passes = unwrap_or given.passes DEFAULT_PASSES;
    slots = unwrap_or given.slots DEFAULT_SLOTS;
    format = One;
  };
  seed = unwrap_or given.seed DEFAULT_SEED;
  workers = unwrap_or given.workers DEFAULT_WORKERS;
  turns = unwrap_or given.turns (unwrap_or given.budget DEFAULT_BUDGET);
}
