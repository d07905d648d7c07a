-- The arguments of the program that inspects runs.
use Rattle.std.specs.Prelude.{ℕ, ◌-◌, Bool, false, not, ◌&&◌, ◌||◌, if◌then◌else◌, List, [], ◌∷◌, Option, Some, None, bytes_eq, codes, is_some, nat_eq, nat_le, nat_lt, option_and_then, option_map}
use Rattle.std.specs.List.{list_any, starts_with}
use Rattle.std.specs.Str.Parse.{digits_value}
use Rattle.pct_model.specs.declared.keyword.Keyword.TheVariants as keyword
use Rattle.pct_model.specs.declared.run_options.RunOption.TheVariants as option
use Rattle.pct_model.specs.declared.schedule.Config.{Config}
use Rattle.pct_model.specs.Keywords.{keyword_text}
use Rattle.pct_model.specs.LineParsing.{is_empty, numeral}
use Rattle.pct_model.specs.Lines.{◌>>=◌}
use Rattle.pct_model.specs.RunOptions.{is_value, option_name, run_options}
use Rattle.pct_survey.specs.declared.surveying.TheConstants.{MAX_SURVEYED}
use Rattle.pct_tallies.specs.declared.seeds.Seeds.{Seeds}
use Rattle.pct_tallies.specs.declared.seeds.TheConstants.{MAX_TALLIED}
use Rattle.pct_tallies.specs.Seeds.{is_range}
use Rattle.pct_inspection.specs.declared.words.Form.TheVariants.{Trace, Lanes, Picture}
use Rattle.pct_inspection.specs.declared.words.Inspection.{Inspection}
use Rattle.pct_inspection.specs.declared.words.Inspection.TheVariants.{Continue, Show, Tally, Sum, Survey, Judge}
use Rattle.pct_inspection.specs.declared.words.View.{View}
use Rattle.pct_inspection.specs.declared.words.View.TheVariants.{Choices, States, Steps}
use Rattle.pct_inspection.specs.Selections.{selection_asked}

-- the view with this name
unfoldable pub view_named : List ℕ → Option View
view_named name =
    if bytes_eq name (codes "trace") then Some (Steps Trace)
    else if bytes_eq name (codes "choices") then Some Choices
    else if bytes_eq name (codes "states") then Some States
    else if bytes_eq name (codes "lanes") then Some (Steps Lanes)
    else if bytes_eq name (codes "picture") then Some (Steps Picture)
    else None

-- the words after the name of a view: with `lanes` and `picture` a selection, and none with the others
abbrev pub allows : View → List (List ℕ) → Bool
allows (Steps Lanes) words = is_some (selection_asked words)
allows (Steps Picture) words = is_some (selection_asked words)
allows (Steps Trace) words = is_empty words
allows Choices words = is_empty words
allows States words = is_empty words

-- a view, if the words after its name are accepted
abbrev pub view_asked : List (List ℕ) → View → Option Inspection
view_asked words view = if allows view words then Some (Show view) else None

-- to continue with a seed, whose text is 1 to 20 digits
abbrev pub continuation_asked : List (List ℕ) → Option Inspection
continuation_asked (seed ∷ []) = if is_value option.Seed seed then Some (Continue (digits_value 10 seed)) else None
continuation_asked [] = None
continuation_asked (seed ∷ next ∷ words) = None

-- a seed, whose text is 1 to 20 digits
abbrev pub seed_in : List ℕ → Option ℕ
seed_in text = if is_value option.Seed text then Some (digits_value 10 text) else None

-- a tally is made for a range: it has a seed, 0 is not in it, and its first and its last seed are less than 1,000,000 apart
abbrev pub is_tallied : Seeds → Bool
is_tallied seeds = is_range seeds && nat_lt (seeds.last - seeds.first) MAX_TALLIED

-- the range from one seed to another, if a tally is made for it
unfoldable pub seeds_asked : List ℕ → List ℕ → Option Seeds
seeds_asked first last = do
  from ← seed_in first
  to ← seed_in last
  if is_tallied (record { first = from; last = to }) then Some (record { first = from; last = to }) else None

-- the tally of a range
abbrev pub tally_asked : List (List ℕ) → Option Inspection
tally_asked (first ∷ last ∷ []) = seeds_asked first last >>= λ seeds. Some (Tally seeds)
tally_asked _ = None

-- what a command asks for that takes no more words
abbrev pub asked_alone : List (List ℕ) → Inspection → Option Inspection
asked_alone words asked = if is_empty words then Some asked else None

-- a word begins with the digit 0
abbrev pub has_leading_zero : List ℕ → Bool
has_leading_zero [] = false
has_leading_zero (b ∷ bytes) = nat_eq b 48

-- the number of seeds that a word gives: from 1 to 100,000, without leading zeros
unfoldable pub seed_count : List ℕ → Option ℕ
seed_count word = do
  count ← numeral word
  if not (has_leading_zero word) && nat_le 1 count && nat_le count MAX_SURVEYED then Some count else None

-- a word begins as an option that a survey does not have
abbrev pub is_of_one_run : List ℕ → Bool
is_of_one_run word = starts_with nat_eq word (option_name option.Seed) || starts_with nat_eq word (option_name option.Workers) || starts_with nat_eq word (option_name option.Turns)

-- the configuration that `run` has with these options, if none of them is one that a survey does not have
unfoldable pub config_asked : List (List ℕ) → Option Config
config_asked options = if list_any is_of_one_run options then None else option_map (λ run. run.config) (run_options (keyword_text keyword.Run ∷ options))

-- the survey of a number of seeds, with options
unfoldable pub survey_asked : List (List ℕ) → Option Inspection
survey_asked [] = None
survey_asked (count ∷ options) = do
  seeds ← seed_count count
  config ← config_asked options
  Some (Survey seeds config)

-- what the arguments ask for: `continue` and a seed, `tally` and two seeds, `sum`, `survey`, a number of seeds and options, `judge`, or the name of a
-- view and a selection
unfoldable pub inspection_asked : List (List ℕ) → Option Inspection
inspection_asked [] = None
inspection_asked (command ∷ words) =
    if bytes_eq command (codes "continue") then continuation_asked words
    else if bytes_eq command (codes "tally") then tally_asked words
    else if bytes_eq command (codes "sum") then asked_alone words Sum
    else if bytes_eq command (codes "survey") then survey_asked words
    else if bytes_eq command (codes "judge") then asked_alone words Judge
    else option_and_then (view_asked words) (view_named command)

-- the arguments are accepted; the input is then read
abbrev pub is_inspection : List (List ℕ) → Bool
is_inspection words = is_some (inspection_asked words)
