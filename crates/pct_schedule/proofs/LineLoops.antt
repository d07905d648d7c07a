-- The loop over the lines of a schedule's text.
use Rattle.pct_names.proofs.Names.{◌&&◌, ◌+◌, ◌++◌, ◌<◌, [], ap, arith, Bool, cond, Config, Entry, entry_in, Err, false, Format, header_of}
use Rattle.pct_names.proofs.Names.{is_some, keyword_text, length, lines_of, List, nat_eq, nat_lt, None, not, nothing_after, Ok, Option}
use Rattle.pct_names.proofs.Names.{read_end, read_entry, refl, Result, Schedule, ScheduleWhy, Some, strip_cr, suc, sym, true, zero, ℕ, ◌∙◌}
use Rattle.pct_names.proofs.Names.{◌∷◌, ◌≡◌}
use Rattle.std.proofs.lemmas.Bool.{eqb-true}
use Rattle.pct_model.specs.declared.refusal.ScheduleWhy.TheVariants as why
use Rattle.pct_model.specs.declared.keyword.Keyword.TheVariants as keyword
use Rattle.pct_model.specs.Schedule.{begins, is_end}
use Rattle.pct_text.specs.FirstLine.{IsFirstLine}
use Rattle.pct_text.proofs.Lines.{lines_of-nil}
use Rattle.pct_text.proofs.FirstLines.{has_a_line}
use Rattle.pct_schedule.specs.declared.end.End.{End}
use Rattle.pct_schedule.specs.declared.fault.ScheduleFault.{ScheduleFault}
use Rattle.pct_schedule.specs.declared.fault.ScheduleFault.TheVariants as fault
use Rattle.pct_schedule.specs.Gives.{Fails, Refuses}
use Rattle.pct_schedule.specs.Memory.{header_line, entry_is_first, entry_follows, has_entry_after, stores_an_entry}
use Rattle.pct_schedule.proofs.LineByLine.{ended, with_entry, entries_in_to, unended, at_entry, no_line, one_line}

-- the first line of a text, without its CR
pub record ReadsLine (text line after : List ℕ) : Type 0 where
  pub raw : List ℕ
  pub first : IsFirstLine text raw after
  pub read : strip_cr raw ≡ line

pub reads_line : (text raw line after : List ℕ) → IsFirstLine text raw after → line ≡ strip_cr raw → ReadsLine text line after
reads_line text raw line after first e = record { raw = raw; first = first; read = sym e }

no_lines : (text : List ℕ) → text ≡ [] → lines_of text ≡ []
no_lines text e = ap lines_of e ∙ lines_of-nil

-- ---- the header

abbrev Header : Type 0
Header = Option (ℕ × List ℕ × List (List ℕ))

abbrev at_line : ℕ → List (List ℕ) → List ℕ → Bool → Header
at_line n lines line found = cond found (Some (n, line, lines)) (header_line (n + 1) lines)

by_first_line : (n : ℕ) (rest line after : List ℕ) (found : Bool) → ReadsLine rest line after → begins (keyword_text keyword.Schedule) line ≡ found
    → header_line n (lines_of rest) ≡ at_line n (lines_of after) line found
unfolding header_line
by_first_line n rest line after found reads is =
    ap (header_line n) reads.first.lines
    ∙ ap (λ (l : List ℕ). at_line n (lines_of after) l (begins (keyword_text keyword.Schedule) l)) reads.read
    ∙ ap (at_line n (lines_of after) line) is

pub header_found : (n : ℕ) (rest line after : List ℕ) (all : Header) → ReadsLine rest line after → begins (keyword_text keyword.Schedule) line ≡ true
    → all ≡ header_line n (lines_of rest) → all ≡ Some (n, line, lines_of after)
header_found n rest line after all reads is so_far = so_far ∙ by_first_line n rest line after true reads is

pub header_later : (n : ℕ) (rest line after : List ℕ) (all : Header) → ReadsLine rest line after → begins (keyword_text keyword.Schedule) line ≡ false
    → all ≡ header_line n (lines_of rest) → all ≡ header_line (n + 1) (lines_of after)
header_later n rest line after all reads is so_far = so_far ∙ by_first_line n rest line after false reads is

pub no_header : (n : ℕ) (rest : List ℕ) (all : Header) → rest ≡ [] → all ≡ header_line n (lines_of rest) → all ≡ None
unfolding header_line
no_header n rest all e so_far = so_far ∙ ap (header_line n) (no_lines rest e)

-- ---- one line

-- `end` with the right number, and what is after it
end_by : (n count : ℕ) (line : List ℕ) (after : List (List ℕ)) → is_end count line ≡ true → read_end n count line after ≡ nothing_after n after
end_by n count line after is = ap (λ t. cond t (nothing_after n after) (Err (n, why.BadEnd))) is

-- the line is the last one: nothing is after it
pub is_last : (n count : ℕ) (line after : List ℕ) → is_end count line ≡ true → nat_eq (length after) 0 ≡ true → read_end n count line (lines_of after) ≡ Ok []
is_last n count line [] is none = end_by n count line (lines_of []) is ∙ ap (nothing_after n) lines_of-nil
is_last n count line (b ∷ bytes) is none = let e : length (b ∷ bytes) ≡ 0 = eqb-true (length (b ∷ bytes)) 0 none in absurd (omega (arith, e))

-- a line is after the last one
pub is_not_last : (n count : ℕ) (line after : List ℕ) → is_end count line ≡ true → nat_eq (length after) 0 ≡ false → read_end n count line (lines_of after) ≡ Err (n + 1, why.Trailing)
is_not_last n count line [] is some = absurd cc
is_not_last n count line (b ∷ bytes) is some = end_by n count line (lines_of (b ∷ bytes)) is ∙ ap (nothing_after n) (has_a_line b bytes).2.lines

-- ---- the entries

-- a value that is read is passed on, and a fault is the schedule's
abbrev and_then : {X : Type 0} → Result X (ℕ × ScheduleWhy) → (X → Schedule) → Schedule
and_then (Ok x) go = go x
and_then (Err e) go = Err e

by_entry_line : (to : End) (n : ℕ) (config : Config) (entries : List Entry) (rest line after : List ℕ) (last : Bool) → ReadsLine rest line after
    → begins (keyword_text keyword.End) line ≡ last → entries_in_to to n config entries (lines_of rest) ≡ at_entry to n config entries (lines_of after) line last
by_entry_line to n config entries rest line after last reads is =
    ap (entries_in_to to n config entries) reads.first.lines
    ∙ one_line to n config entries reads.raw (lines_of after)
    ∙ ap (λ (l : List ℕ). at_entry to n config entries (lines_of after) l (begins (keyword_text keyword.End) l)) reads.read
    ∙ ap (at_entry to n config entries (lines_of after) line) is

ended_at : (n : ℕ) (config : Config) (entries : List Entry) (after : List (List ℕ)) → ended (n + 1) config entries after ≡ and_then (nothing_after n after) (λ _. Ok (config, entries))
ended_at n config entries [] = refl
ended_at n config entries (line ∷ lines) = refl

by_end : (n : ℕ) (config : Config) (entries : List Entry) (after : List (List ℕ)) (is : Bool)
    → cond is (ended (n + 1) config entries after) (Err (n, why.BadEnd)) ≡ and_then (cond is (nothing_after n after) (Err (n, why.BadEnd))) (λ _. Ok (config, entries))
by_end n config entries after true = ended_at n config entries after
by_end n config entries after false = refl

if_in_budget : (n : ℕ) (e : Entry) (go : Entry → Schedule) (fits : Bool) → cond fits (go e) (Err (n, why.TooMany)) ≡ and_then (cond fits (Ok e) (Err (n, why.TooMany))) go
if_in_budget n e go true = refl
if_in_budget n e go false = refl

by_entry : (n : ℕ) (config : Config) (count : ℕ) (o : Option Entry) (go : Entry → Schedule)
    → with_entry n config count o go ≡ and_then (read_entry n config.budget count o) go
by_entry n config count None go = refl
by_entry n config count (Some e) go = if_in_budget n e go (nat_lt count config.budget)

pub at_last_line : (to : End) (n count : ℕ) (config : Config) (entries : List Entry) (rest line after : List ℕ) (all : Schedule) → ReadsLine rest line after
    → begins (keyword_text keyword.End) line ≡ true → all ≡ entries_in_to to n config entries (lines_of rest)
    → count ≡ length entries → all ≡ and_then (read_end n count line (lines_of after)) (λ _. Ok (config, entries))
at_last_line to n count config entries rest line after all reads is so_far many =
    so_far ∙ by_entry_line to n config entries rest line after true reads is ∙ by_end n config entries (lines_of after) (is_end (length entries) line)
    ∙ ap (λ (k : ℕ). and_then (read_end n k line (lines_of after)) (λ _. Ok (config, entries))) (sym many)

pub at_entry_line : (to : End) (n count : ℕ) (config : Config) (entries : List Entry) (rest line after : List ℕ) (all : Schedule) → ReadsLine rest line after
    → begins (keyword_text keyword.End) line ≡ false → all ≡ entries_in_to to n config entries (lines_of rest)
    → count ≡ length entries → all ≡ and_then (read_entry n config.budget count (entry_in config.format line)) (λ e. entries_in_to to (n + 1) config (entries ++ e ∷ []) (lines_of after))
at_entry_line to n count config entries rest line after all reads is so_far many =
    let go : Entry → Schedule = λ e. entries_in_to to (n + 1) config (entries ++ e ∷ []) (lines_of after) in
    so_far ∙ by_entry_line to n config entries rest line after false reads is
    ∙ by_entry n config (length entries) (entry_in config.format line) go
    ∙ ap (λ (k : ℕ). and_then (read_entry n config.budget k (entry_in config.format line)) go) (sym many)

pub no_end : (to : End) (n : ℕ) (config : Config) (entries : List Entry) (rest : List ℕ) (all : Schedule) → rest ≡ [] → all ≡ entries_in_to to n config entries (lines_of rest)
    → all ≡ unended to n config entries
no_end to n config entries rest all e so_far = so_far ∙ ap (entries_in_to to n config entries) (no_lines rest e) ∙ no_line to n config entries

-- what follows a value that is read
pub goes_on : {X : Type 0} (all : Schedule) (read : Result X (ℕ × ScheduleWhy)) (x : X) (go : X → Schedule) → all ≡ and_then read go → read ≡ Ok x → all ≡ go x
goes_on all read x go e is = e ∙ ap (λ r. and_then r go) is

-- a fault of one line is the text's
pub stays_failed : {X : Type 0} (failed : ScheduleFault) (all : Schedule) (read : Result X (ℕ × ScheduleWhy)) (go : X → Schedule) → all ≡ and_then read go → Refuses failed read → Fails failed all
stays_failed fault.NoMemory all read go e is = tt
stays_failed (fault.Refused line w) all read go e is = e ∙ ap (λ r. and_then r go) is

-- ---- memory

read_is_some : (n budget count : ℕ) (o : Option Entry) (e : Entry) → read_entry n budget count o ≡ Ok e → is_some o ≡ true
read_is_some n budget count None e h = absurd cc
read_is_some n budget count (Some other) e h = refl

abbrev first_by : Format → List ℕ → Bool
first_by format line = not (begins (keyword_text keyword.End) line) && is_some (entry_in format line)

-- the line of an entry that is read is an entry
pub first_is_entry : (format : Format) (n budget count : ℕ) (text line after : List ℕ) (e : Entry) → ReadsLine text line after → begins (keyword_text keyword.End) line ≡ false
    → read_entry n budget count (entry_in format line) ≡ Ok e → entry_is_first format (lines_of text) ≡ true
unfolding entry_is_first
first_is_entry format n budget count text line after e reads other is =
    let some : is_some (entry_in format line) ≡ true = read_is_some n budget count (entry_in format line) e is in
    ap (entry_is_first format) reads.first.lines ∙ ap (first_by format) reads.read ∙ ap (λ t. not t && is_some (entry_in format line)) other ∙ some

-- an entry after a legal header is stored
pub stored_after : (text : List ℕ) (n : ℕ) (line : List ℕ) (lines : List (List ℕ)) (config : Config) → header_line 1 (lines_of text) ≡ Some (n, line, lines) → header_of line ≡ Some config
    → entry_is_first config.format lines ≡ true → stores_an_entry text ≡ true
unfolding stores_an_entry
stored_after text n line lines config e legal first = ap has_entry_after e ∙ ap (λ (o : Option Config). entry_follows o lines) legal ∙ first

-- the entry of the line at hand is the first, or an entry was stored before it
pub first_stays : (format : Format) (count : ℕ) (text rest : List ℕ) → (count ≡ 0 → rest ≡ text) → (0 < count → entry_is_first format (lines_of text) ≡ true) → entry_is_first format (lines_of rest) ≡ true
    → entry_is_first format (lines_of text) ≡ true
first_stays format zero text rest start stored here = ap (λ (t : List ℕ). entry_is_first format (lines_of t)) (sym (start refl)) ∙ here
first_stays format (suc count) text rest start stored here = stored (omega arith)
