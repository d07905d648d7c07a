-- The values of options, as the program reads their texts. No public clause cites this file.
use Rattle.std.specs.Prelude.{ℕ, not, ◌&&◌, if◌then◌else◌, List, length, Option, Some, None, nat_le, option_and_then}
use Rattle.std.specs.List.{list_all}
use Rattle.std.specs.Str.Parse.{digits_value}
use Rattle.pct_model.specs.declared.run_options.RunOption.{RunOption}
use Rattle.pct_model.specs.LineParsing.{is_empty}
use Rattle.pct_model.specs.Names.{is_digit}
use Rattle.pct_model.specs.RunOptions.{least_value, greatest_value}

-- the number that digits write, if there is a digit and the number has at most 64 bits
abbrev pub written_number : List ℕ → Option ℕ
written_number text = if not (is_empty text) && nat_le (digits_value 10 text) 18446744073709551615 then Some (digits_value 10 text) else None

-- the number of 1 to 20 digits
unfoldable pub number_of : List ℕ → Option ℕ
number_of text = if nat_le (length text) 20 && list_all is_digit text then written_number text else None

-- the number, if the option can have it
abbrev pub in_range : RunOption → ℕ → Option ℕ
in_range o n = if nat_le (least_value o) n && nat_le n (greatest_value o) then Some n else None

-- the value of an option that a text gives
unfoldable pub value_of : RunOption → List ℕ → Option ℕ
value_of o text = option_and_then (in_range o) (number_of text)
