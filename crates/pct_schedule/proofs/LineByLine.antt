-- A schedule, or a prefix of one, one line of a text after the other, with the list of entries so far, as the code reads it.
use Rattle.pct_names.proofs.Names.{◌+◌, ◌++◌, [], Bool, Config, Entry, entry_in, Err, header_of, if◌then◌else◌, keyword_text, length, List}
use Rattle.pct_names.proofs.Names.{nat_lt, None, Ok, Option, refl, Schedule, Some, strip_cr, ℕ, ◌∷◌, ◌≡◌}
use Rattle.pct_model.specs.declared.refusal.ScheduleWhy.TheVariants as why
use Rattle.pct_model.specs.declared.keyword.Keyword.TheVariants as keyword
use Rattle.pct_model.specs.Schedule.{begins, is_end}
use Rattle.pct_schedule.specs.declared.end.End.{End}
use Rattle.pct_schedule.specs.declared.end.End.TheVariants as end

-- the last line of a schedule, with the lines after it
abbrev pub ended : ℕ → Config → List Entry → List (List ℕ) → Schedule
ended n config entries [] = Ok (config, entries)
ended n config entries (line ∷ lines) = Err (n, why.Trailing)

-- a line after the header, and the reading after it
abbrev pub with_entry : ℕ → Config → ℕ → Option Entry → (Entry → Schedule) → Schedule
with_entry n config count None go = Err (n, why.BadEntry)
with_entry n config count (Some e) go = if nat_lt count config.budget then go e else Err (n, why.TooMany)

-- the lines after the header, from line n on, after these entries
unfoldable pub entries_in : ℕ → Config → List Entry → List (List ℕ) → Schedule
entries_in n config entries [] = Err (n, why.BadEnd)
entries_in n config entries (line ∷ lines) =
    if begins (keyword_text keyword.End) (strip_cr line)
    then (if is_end (length entries) (strip_cr line) then ended (n + 1) config entries lines else Err (n, why.BadEnd))
    else with_entry n config (length entries) (entry_in config.format (strip_cr line)) (λ e. entries_in (n + 1) config (entries ++ e ∷ []) lines)

-- a header, with the lines after it
abbrev pub with_header : ℕ → Option Config → List (List ℕ) → Schedule
with_header n None lines = Err (n, why.BadHeader)
with_header n (Some config) lines = entries_in (n + 1) config [] lines

-- the schedule in the lines from line n on: the lines before the header are skipped
unfoldable pub schedule_in : ℕ → List (List ℕ) → Schedule
schedule_in n [] = Err (1, why.BadHeader)
schedule_in n (line ∷ lines) = if begins (keyword_text keyword.Schedule) (strip_cr line) then with_header n (header_of (strip_cr line)) lines else schedule_in (n + 1) lines

-- ---- the lines after the header, where the last line may be missing

-- as entries_in; without the last line, the entries go to the end of the text
unfoldable pub prefix_entries_in : ℕ → Config → List Entry → List (List ℕ) → Schedule
prefix_entries_in n config entries [] = Ok (config, entries)
prefix_entries_in n config entries (line ∷ lines) =
    if begins (keyword_text keyword.End) (strip_cr line)
    then (if is_end (length entries) (strip_cr line) then ended (n + 1) config entries lines else Err (n, why.BadEnd))
    else with_entry n config (length entries) (entry_in config.format (strip_cr line)) (λ e. prefix_entries_in (n + 1) config (entries ++ e ∷ []) lines)

-- the lines after the header, to this end
abbrev pub entries_in_to : End → ℕ → Config → List Entry → List (List ℕ) → Schedule
entries_in_to end.Required n config entries lines = entries_in n config entries lines
entries_in_to end.Optional n config entries lines = prefix_entries_in n config entries lines

-- the end of the text at line n, without the last line
abbrev pub unended : End → ℕ → Config → List Entry → Schedule
unended end.Required n config entries = Err (n, why.BadEnd)
unended end.Optional n config entries = Ok (config, entries)

-- a line after the header, which begins with `end ` or not, and the lines after it
abbrev pub at_entry : End → ℕ → Config → List Entry → List (List ℕ) → List ℕ → Bool → Schedule
at_entry to n config entries lines line last =
    if last
    then (if is_end (length entries) line then ended (n + 1) config entries lines else Err (n, why.BadEnd))
    else with_entry n config (length entries) (entry_in config.format line) (λ e. entries_in_to to (n + 1) config (entries ++ e ∷ []) lines)

-- no line, to either end
pub no_line : (to : End) (n : ℕ) (config : Config) (entries : List Entry) → entries_in_to to n config entries [] ≡ unended to n config entries
unfolding entries_in prefix_entries_in
no_line end.Required n config entries = refl
no_line end.Optional n config entries = refl

-- one line and the lines after it, to either end
pub one_line : (to : End) (n : ℕ) (config : Config) (entries : List Entry) (line : List ℕ) (lines : List (List ℕ))
    → entries_in_to to n config entries (line ∷ lines) ≡ at_entry to n config entries lines (strip_cr line) (begins (keyword_text keyword.End) (strip_cr line))
unfolding entries_in prefix_entries_in
one_line end.Required n config entries line lines = refl
one_line end.Optional n config entries line lines = refl
