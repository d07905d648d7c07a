-- Parsing a schedule's text: its configuration and its entries, or the first fault. A fault is the number of the line
-- that is refused, and the reason.
use Rattle.std.specs.Prelude.{ℕ, ◌+◌, Bool, false, ◌&&◌, if◌then◌else◌, List, [], ◌∷◌, ◌++◌, length, map, Option, Some, None, Result, Ok, Err, nat_eq, nat_lt, nat_le, bytes_eq, codes, option_and_then}
use Rattle.std.specs.List.{starts_with}
use Rattle.pct_model.specs.declared.schedule.Alt.{Alt}
use Rattle.pct_model.specs.declared.schedule.Alt.TheVariants as alt
use Rattle.pct_model.specs.declared.schedule.Config.{Config}
use Rattle.pct_model.specs.declared.schedule.Entry.{Entry}
use Rattle.pct_model.specs.declared.schedule.Format.{Format}
use Rattle.pct_model.specs.declared.schedule.Format.TheVariants as format
use Rattle.pct_model.specs.declared.refusal.ScheduleWhy.{ScheduleWhy}
use Rattle.pct_model.specs.declared.refusal.ScheduleWhy.TheVariants as why
use Rattle.pct_model.specs.declared.keyword.Keyword.TheVariants as keyword
use Rattle.pct_model.specs.declared.limits.TheConstants.{MAX_WORKER}
use Rattle.pct_model.specs.Formats.{has_choice}
use Rattle.pct_model.specs.Keywords.{keyword_text}
use Rattle.pct_model.specs.Lines.{lines_of, strip_cr, words_of, number_of}
use Rattle.pct_model.specs.Run.{is_config}

-- a value, or a fault
abbrev pub Read : Type 0 → Type 0
Read A = Result A (ℕ × ScheduleWhy)

-- the result of parsing a schedule
abbrev pub Schedule : Type 0
Schedule = Read (Config × List Entry)

-- the line begins with a word and a space
abbrev pub begins : List ℕ → List ℕ → Bool
begins first line = starts_with nat_eq line (first ++ 32 ∷ [])

-- ---- lines

-- the format with this number
abbrev pub format_with : List ℕ → Option Format
format_with word = if bytes_eq word (codes "1") then Some format.One else if bytes_eq word (codes "2") then Some format.Two else None

-- the configuration, if it is within the limits
abbrev pub if_config : Config → Option Config
if_config config = if is_config config then Some config else None

-- the configuration with this format and these numbers, if all are present and within the limits
abbrev pub config_of : Option Format → Option ℕ → Option ℕ → Option ℕ → Option Config
config_of (Some format) (Some budget) (Some passes) (Some slots) = if_config (record { budget = budget; passes = passes; slots = slots; format = format })
config_of _ _ _ _ = None

-- `schedule FORMAT BUDGET PASSES SLOTS`
abbrev pub header_of_words : List (List ℕ) → Option Config
header_of_words (title ∷ format ∷ budget ∷ passes ∷ slots ∷ []) =
    if bytes_eq title (keyword_text keyword.Schedule) then config_of (format_with format) (number_of budget) (number_of passes) (number_of slots) else None
header_of_words _ = None

-- the configuration in a header
unfoldable pub header_of : List ℕ → Option Config
header_of line = header_of_words (words_of line)

-- a choice without a number, by its word
abbrev pub plain_choice : List ℕ → Option Alt
plain_choice kind =
    if bytes_eq kind (keyword_text keyword.Go) then Some alt.Go
    else if bytes_eq kind (keyword_text keyword.Expire) then Some alt.Expire
    else None

-- a choice with a number, by its word
abbrev pub numbered_choice : List ℕ → ℕ → Option Alt
numbered_choice kind n =
    if bytes_eq kind (keyword_text keyword.Act) then Some (alt.Act n)
    else if bytes_eq kind (keyword_text keyword.New) then Some (alt.New n)
    else if bytes_eq kind (keyword_text keyword.Pick) then Some (alt.Pick n)
    else if bytes_eq kind (keyword_text keyword.Dtor) then Some (alt.Dtor n)
    else None

-- a choice: `go`, `expire`, `act N`, `new N`, `pick N` or `dtor N`
abbrev pub choice_of : List (List ℕ) → Option Alt
choice_of (kind ∷ []) = plain_choice kind
choice_of (kind ∷ number ∷ []) = option_and_then (numbered_choice kind) (number_of number)
choice_of _ = None

-- an entry of these fields, if all are present and the worker is at most 16
abbrev pub entry_of_parts : Option ℕ → Option ℕ → Option ℕ → Option Alt → Option Entry
entry_of_parts (Some worker) (Some pid) (Some tid) (Some choice) = if nat_le worker MAX_WORKER then Some (record { worker = worker; pid = pid; tid = tid; alt = choice }) else None
entry_of_parts _ _ _ _ = None

-- `WORKER PROCESS THREAD CHOICE`
abbrev pub entry_of_words : List (List ℕ) → Option Entry
entry_of_words (worker ∷ pid ∷ tid ∷ choice) = entry_of_parts (number_of worker) (number_of pid) (number_of tid) (choice_of choice)
entry_of_words _ = None

-- the entry in a line
unfoldable pub entry_of : List ℕ → Option Entry
entry_of line = entry_of_words (words_of line)

-- the entry, if a schedule of this format may have it
abbrev pub if_known : Format → Entry → Option Entry
if_known format e = if has_choice format e.alt then Some e else None

-- the entry in a line of a schedule of this format
abbrev pub entry_in : Format → List ℕ → Option Entry
entry_in format line = option_and_then (if_known format) (entry_of line)

-- the number is present and equal to n
abbrev pub is_number : ℕ → Option ℕ → Bool
is_number n (Some m) = nat_eq n m
is_number n None = false

-- the words are `end N` for the number n
abbrev pub is_end_of_words : ℕ → List (List ℕ) → Bool
is_end_of_words n (title ∷ number ∷ []) = bytes_eq title (keyword_text keyword.End) && is_number n (number_of number)
is_end_of_words n _ = false

-- the line is `end N` for the number n
unfoldable pub is_end : ℕ → List ℕ → Bool
is_end n line = is_end_of_words n (words_of line)

-- ---- schedules

-- Below, n is the number of a line in the text, counted from 1, and k the number of entries before it.

-- the entry of line n: it has to be legal text and within the budget
abbrev pub read_entry : (n budget k : ℕ) → Option Entry → Read Entry
read_entry n budget k None = Err (n, why.BadEntry)
read_entry n budget k (Some e) = if nat_lt k budget then Ok e else Err (n, why.TooMany)

-- no entries, if there is no line after line n
abbrev pub nothing_after : ℕ → List (List ℕ) → Read (List Entry)
nothing_after n [] = Ok []
nothing_after n (line ∷ lines) = Err (n + 1, why.Trailing)

-- line n, the first that begins with `end `, and the lines after it: it has to be `end k` and the last line
abbrev pub read_end : ℕ → ℕ → List ℕ → List (List ℕ) → Read (List Entry)
read_end n k line lines = if is_end k line then nothing_after n lines else Err (n, why.BadEnd)

-- an entry and the entries after it; the first fault is kept
abbrev pub prepend_entry : Read Entry → Read (List Entry) → Read (List Entry)
prepend_entry (Err fault) entries = Err fault
prepend_entry (Ok e) (Err fault) = Err fault
prepend_entry (Ok e) (Ok entries) = Ok (e ∷ entries)

-- the entries of the lines from line n on, in a schedule with this configuration: each line before the first that begins with `end ` is an
-- entry
unfoldable pub entries_from : (n : ℕ) → Config → (k : ℕ) → List (List ℕ) → Read (List Entry)
entries_from n config k [] = Err (n, why.BadEnd)
entries_from n config k (line ∷ lines) =
    if begins (keyword_text keyword.End) line
    then read_end n k line lines
    else prepend_entry (read_entry n config.budget k (entry_in config.format line)) (entries_from (n + 1) config (k + 1) lines)

-- a configuration and the entries after it
abbrev pub with_config : Config → Read (List Entry) → Schedule
with_config config (Ok entries) = Ok (config, entries)
with_config config (Err fault) = Err fault

-- the schedule with line n as its header, and the lines after it
abbrev pub schedule_at : ℕ → Option Config → List (List ℕ) → Schedule
schedule_at n None lines = Err (n, why.BadHeader)
schedule_at n (Some config) lines = with_config config (entries_from (n + 1) config 0 lines)

-- the schedule in the lines from line n on: its header is the first line that begins with `schedule `; without one,
-- line 1 is refused
unfoldable pub schedule_from : ℕ → List (List ℕ) → Schedule
schedule_from n [] = Err (1, why.BadHeader)
schedule_from n (line ∷ lines) = if begins (keyword_text keyword.Schedule) line then schedule_at n (header_of line) lines else schedule_from (n + 1) lines

-- the schedule in a text; lines before its header are skipped, so the text may be a whole report
unfoldable pub sched_of : List ℕ → Schedule
sched_of text = schedule_from 1 (map strip_cr (lines_of text))

-- ---- the input of `replay`: a script, the line `%%`, and a schedule

-- the line is `%%`
abbrev pub is_marker : List ℕ → Bool
is_marker line = bytes_eq (strip_cr line) (codes "%%")

-- the offsets of the first line that is `%%` and of the line after it; `offset` is that of the first of these lines
unfoldable pub marker_in : ℕ → List (List ℕ) → Option (ℕ × ℕ)
marker_in offset [] = None
marker_in offset (line ∷ lines) = if is_marker line then Some (offset, offset + length line + 1) else marker_in (offset + length line + 1) lines

-- the end of the script and the start of the schedule in an input of this size, by the offsets of the two lines
abbrev pub split_at_marker : ℕ → Option (ℕ × ℕ) → ℕ × ℕ
split_at_marker size None = (size, size)
split_at_marker size (Some offsets) = (offsets.0, (if nat_le offsets.1 size then offsets.1 else size))

-- the end of the script and the start of the schedule in an input; both are the input's end if there is no line `%%`
unfoldable pub replay_parts : List ℕ → ℕ × ℕ
replay_parts input = split_at_marker (length input) (marker_in 0 (lines_of input))
