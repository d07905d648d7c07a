-- The lines of a schedule, one split at a space after the other, as the code reads them.
use Rattle.pct_names.proofs.Names.{◌&&◌, ◌>>=◌, Alt, Bool, bytes_eq, Config, config_of, Entry, false, format_with, if◌then◌else◌, is_number}
use Rattle.pct_names.proofs.Names.{keyword_text, List, MAX_WORKER, nat_le, None, number_of, numbered_choice, Option, option_map_or, Some}
use Rattle.pct_names.proofs.Names.{split_once, ℕ}
use Rattle.pct_model.specs.declared.schedule.Alt.TheVariants as alt
use Rattle.pct_model.specs.declared.keyword.Keyword.TheVariants as keyword
use Rattle.pct_text.specs.FirstNumber.{split_number}

-- whether a line begins with a fixed word and a space
unfoldable pub begins_with : List ℕ → List ℕ → Bool
begins_with keyword line = option_map_or (λ parts. bytes_eq parts.0 keyword) (split_once 32 line) false

-- `schedule FORMAT BUDGET PASSES SLOTS`
unfoldable pub header_in : List ℕ → Option Config
header_in line = do
  title ← split_once 32 line
  format ← split_once 32 title.1
  budget ← split_once 32 format.1
  passes ← split_once 32 budget.1
  if bytes_eq title.0 (keyword_text keyword.Schedule) then config_of (format_with format.0) (number_of budget.0) (number_of passes.0) (number_of passes.1) else None

-- `go`, `expire`, or a word and a number
unfoldable pub choice_in : List ℕ → Option Alt
choice_in words =
    if bytes_eq words (keyword_text keyword.Go) then Some alt.Go
    else if bytes_eq words (keyword_text keyword.Expire) then Some alt.Expire
    else (split_once 32 words >>= λ parts. number_of parts.1 >>= λ n. numbered_choice parts.0 n)

-- `W P T` and the choice
unfoldable pub entry_in_line : List ℕ → Option Entry
entry_in_line line = do
  worker ← split_number line
  pid ← split_number worker.1
  tid ← split_number pid.1
  choice ← choice_in tid.1
  if nat_le worker.0 MAX_WORKER then Some (record { worker = worker.0; pid = pid.0; tid = tid.0; alt = choice }) else None

-- `end N`
unfoldable pub end_in : ℕ → List ℕ → Bool
end_in n line = option_map_or (λ parts. bytes_eq parts.0 (keyword_text keyword.End) && is_number n (number_of parts.1)) (split_once 32 line) false
