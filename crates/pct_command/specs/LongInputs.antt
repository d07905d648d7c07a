-- Inputs of the commands that judge a report, above the limit.
use Rattle.std.specs.Prelude.{◌≡◌, ℕ, ◌<◌, Bool, true, List, length}
use Rattle.pct_model.specs.declared.limits.TheConstants.{MAX_INPUT}
use Rattle.pct_model.specs.Keywords.{line_text}
use Rattle.pct_model.specs.Outcome.{refused_input}

-- the command is asked for, and its input is above the limit
pub record RefusesLongInput (asked : Bool) (input : List ℕ) (code : ℕ) (text : List ℕ) : Type 0 where
  pub accepted : asked ≡ true
  pub too_long : MAX_INPUT < length input
  pub code_is : code ≡ 8
  pub text_is : text ≡ line_text refused_input
