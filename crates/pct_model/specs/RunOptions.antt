-- The arguments of the command `run`: which words give options, and the numbers of the run.
use Rattle.std.specs.Prelude.{ℕ, ◌≤◌, suc, Bool, not, ◌&&◌, if◌then◌else◌, List, [], ◌∷◌, length, take, drop, map, filter, position, Option, Some, None, option_map, option_and_then, nat_eq, nat_le, bytes_eq, codes}
use Rattle.std.specs.List.{list_all, list_any}
use Rattle.std.specs.Option.{option_map_or}
use Rattle.std.specs.Str.Parse.{digits_value}
use Rattle.pct_model.specs.declared.keyword.Keyword.TheVariants as keyword
use Rattle.pct_model.specs.declared.limits.TheConstants.{MAX_BUDGET, MIN_PASSES, MAX_PASSES, MAX_SLOTS, MAX_WORKER, DEFAULT_BUDGET, DEFAULT_PASSES, DEFAULT_SLOTS, DEFAULT_SEED, DEFAULT_WORKERS}
use Rattle.pct_model.specs.declared.run_options.RunOption.{RunOption}
use Rattle.pct_model.specs.declared.run_options.RunOption.TheVariants as option
use Rattle.pct_model.specs.declared.run_options.RunOptions.{RunOptions}
use Rattle.pct_model.specs.declared.schedule.Config.{Config}
use Rattle.pct_model.specs.declared.schedule.Format.TheVariants.{One}
use Rattle.pct_model.specs.Keywords.{keyword_text}
use Rattle.pct_model.specs.LineParsing.{is_empty}
use Rattle.pct_model.specs.Lines.{◌>>=◌}
use Rattle.pct_model.specs.Names.{is_digit}

-- ---- the options

-- the name of an option, as it is written
abbrev pub option_name : RunOption → List ℕ
option_name option.Budget = codes "--budget"
option_name option.Passes = codes "--passes"
option_name option.Slots = codes "--slots"
option_name option.Seed = codes "--seed"
option_name option.Workers = codes "--workers"
option_name option.Turns = codes "--turns"

-- its least value
abbrev pub least_value : RunOption → ℕ
least_value option.Budget = 1
least_value option.Passes = MIN_PASSES
least_value option.Slots = 1
least_value option.Seed = 0
least_value option.Workers = 1
least_value option.Turns = 1

-- its greatest value
abbrev pub greatest_value : RunOption → ℕ
greatest_value option.Budget = MAX_BUDGET
greatest_value option.Passes = MAX_PASSES
greatest_value option.Slots = MAX_SLOTS
greatest_value option.Seed = 18446744073709551615
greatest_value option.Workers = MAX_WORKER
greatest_value option.Turns = MAX_BUDGET

-- all options
abbrev pub all_options : List RunOption
all_options = option.Budget ∷ option.Passes ∷ option.Slots ∷ option.Seed ∷ option.Workers ∷ option.Turns ∷ []

-- ---- as they are given

-- an option as words give it: the texts of its name and of its value
pub record GivenOption : Type 0 where
  pub name : List ℕ
  pub value : List ℕ

-- the options that words give, each as `NAME=VALUE` in one word, which is split at its first `=`, or as `NAME VALUE` in two; before
-- the words comes this name, if there is one. None if there is a name without a value
unfoldable pub given_after : Option (List ℕ) → List (List ℕ) → Option (List GivenOption)
given_after None [] = Some []
given_after (Some name) [] = None
given_after (Some name) (value ∷ words) = option_map (λ rest. record { name = name; value = value } ∷ rest) (given_after None words)
given_after None (word ∷ words) =
    option_map_or (λ at. option_map (λ rest. record { name = take at word; value = drop (suc at) word } ∷ rest) (given_after None words)) (position (λ b. nat_eq b 61) word) (given_after (Some word) words)

-- the text is a value of the option: 1 to 20 digits, with a value in its range; leading zeros are allowed
abbrev pub is_value : RunOption → List ℕ → Bool
is_value o text = not (is_empty text) && list_all is_digit text && nat_le (length text) 20 && nat_le (least_value o) (digits_value 10 text) && nat_le (digits_value 10 text) (greatest_value o)

-- the option has this name
abbrev pub is_named : List ℕ → RunOption → Bool
is_named name o = bytes_eq name (option_name o)

-- the values that are given for an option
abbrev pub values_given : RunOption → List GivenOption → List (List ℕ)
values_given o given = map (λ g. g.value) (filter (λ g. is_named g.name o) given)

-- the number of an option for which these values are given: there is at most one, and the option has this default if there is none
abbrev pub number_by : RunOption → ℕ → List (List ℕ) → Option ℕ
number_by o default [] = Some default
number_by o default (text ∷ []) = if is_value o text then Some (digits_value 10 text) else None
number_by o default (text ∷ next ∷ texts) = None

-- the number of an option with this default
abbrev pub number_given : RunOption → ℕ → List GivenOption → Option ℕ
number_given o default given = number_by o default (values_given o given)

-- ---- the numbers of a run

-- the numbers of a run with these options: none is given twice. The format is that of the script, once it is read. The default of `--turns` is the budget of the run, be it given or not
abbrev pub numbers_given : List GivenOption → Option RunOptions
numbers_given given =
    number_given option.Budget DEFAULT_BUDGET given >>= λ budget.
    number_given option.Passes DEFAULT_PASSES given >>= λ passes.
    number_given option.Slots DEFAULT_SLOTS given >>= λ slots.
    number_given option.Seed DEFAULT_SEED given >>= λ seed.
    number_given option.Workers DEFAULT_WORKERS given >>= λ workers.
    number_given option.Turns budget given >>= λ turns.
    Some (record { config = record { budget = budget; passes = passes; slots = slots; format = One }; seed = seed; workers = workers; turns = turns })

-- the numbers of a run with these options: each name is that of an option, and none is given twice
unfoldable pub options_of : List GivenOption → Option RunOptions
options_of given = if list_all (λ g. list_any (is_named g.name) all_options) given then numbers_given given else None

-- the numbers of the run that the arguments ask for: `run`, and then options in any order
unfoldable pub run_options : List (List ℕ) → Option RunOptions
run_options [] = None
run_options (command ∷ words) = if bytes_eq command (keyword_text keyword.Run) then option_and_then options_of (given_after None words) else None

-- the configuration of a run without options, of a script with texts of format 1
abbrev pub default_config : Config
default_config = record { budget = DEFAULT_BUDGET; passes = DEFAULT_PASSES; slots = DEFAULT_SLOTS; format = One }

-- a run with these numbers has 1 to MAX_WORKER workers, and the most turns of each are 1 to MAX_BUDGET
pub record HasWorkers (options : RunOptions) : Type 0 where
  pub some_workers : 1 ≤ options.workers
  pub few_workers : options.workers ≤ MAX_WORKER
  pub some_turns : 1 ≤ options.turns
  pub few_turns : options.turns ≤ MAX_BUDGET
