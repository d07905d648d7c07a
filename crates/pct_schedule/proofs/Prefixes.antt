-- How the prefix in a text agrees with the schedule in it.
use Rattle.pct_names.proofs.Names.{◌+◌, ◌<◌, [], ap, arith, Bool, cond, Config, default_config, entries_from, Entry, entry_in, Err, false}
use Rattle.pct_names.proofs.Names.{Format, header_of, keyword_text, length, length-map, lines_of, List, map, nat_eq, None, Ok, Option}
use Rattle.pct_names.proofs.Names.{prepend_entry, Read, read_end, read_entry, refl, sched_of, schedule_at, schedule_from, ScheduleWhy, Some}
use Rattle.pct_names.proofs.Names.{strip_cr, true, with_config, ℕ, ◌∙◌, ◌∷◌, ◌≡◌}
use Rattle.std.proofs.lemmas.Bool.{eqb-true}
use Rattle.pct_model.specs.declared.refusal.ScheduleWhy.TheVariants as why
use Rattle.pct_model.specs.declared.keyword.Keyword.TheVariants as keyword
use Rattle.pct_model.specs.Schedule.{begins}
use Rattle.pct_text.proofs.Lines.{lines_of-nil}
use Rattle.pct_schedule.specs.Prefix.{prefix_entries_from, prefix_at, prefix_from, prefix_of}
use Rattle.pct_schedule.specs.PrefixLaws.{SchedulesArePrefixes, PrefixFaultsAreScheduleFaults, OnlyTheEndIsMissing}

-- the prefix in a text that is empty, and in one that is not
pub prefix_of_none : (format : Format) (text : List ℕ) → nat_eq (length text) 0 ≡ true → prefix_of format text ≡ Ok (record default_config { format = format }, [])
unfolding prefix_of
prefix_of_none format [] none = refl
prefix_of_none format (b ∷ bytes) none = let e : length (b ∷ bytes) ≡ 0 = eqb-true (length (b ∷ bytes)) 0 none in absurd (omega (arith, e))

pub prefix_of_some : (format : Format) (text : List ℕ) → nat_eq (length text) 0 ≡ false → prefix_of format text ≡ prefix_from 1 (map strip_cr (lines_of text))
unfolding prefix_of
prefix_of_some format [] some = absurd cc
prefix_of_some format (b ∷ bytes) some = refl

-- what a text gives as a schedule and as a prefix: a schedule is the prefix, too; a fault of the prefix is that of the schedule; and if
-- there is a prefix alone, the fault of the schedule is that line `last` is missing
abbrev Agrees : {A : Type 0} → ℕ → Read A → Read A → Type 0
Agrees last (Ok a) prefix = prefix ≡ Ok a
Agrees last (Err fault) (Ok a) = fault ≡ (last, why.BadEnd)
Agrees last (Err fault) (Err other) = fault ≡ other

-- what is read the same agrees
agrees_with_itself : {A : Type 0} (last : ℕ) (read : Read A) → Agrees last read read
agrees_with_itself last (Ok a) = refl
agrees_with_itself last (Err fault) = refl

-- two ways of reading agree by the same test
either_agrees : {A : Type 0} (last : ℕ) (t : Bool) (a b x y : Read A) → Agrees last a x → Agrees last b y → Agrees last (cond t a b) (cond t x y)
either_agrees last true a b x y here otherwise = here
either_agrees last false a b x y here otherwise = otherwise

-- ---- the entries

-- an entry and the entries after it agree if these do
entry_agrees : (last : ℕ) (e : Read Entry) (entries prefix : Read (List Entry)) → Agrees last entries prefix → Agrees last (prepend_entry e entries) (prepend_entry e prefix)
entry_agrees last (Err fault) entries prefix agree = refl
entry_agrees last (Ok e) (Ok entries) prefix agree = ap (prepend_entry (Ok e)) agree
entry_agrees last (Ok e) (Err fault) (Ok prefix) agree = agree
entry_agrees last (Ok e) (Err fault) (Err other) agree = agree

-- the entries agree, where `last` is the line after all lines
entries_agree : (last n : ℕ) (config : Config) (k : ℕ) (lines : List (List ℕ)) → n + length lines ≡ last → Agrees last (entries_from n config k lines) (prefix_entries_from n config k lines)
unfolding entries_from prefix_entries_from
entries_agree last n config k [] many = let same : n ≡ last = omega (arith, many) in ap (λ (m : ℕ). (m, why.BadEnd)) same
entries_agree last n config k (line ∷ lines) many =
    let e = read_entry n config.budget k (entry_in config.format line) in
    let rest = entries_from (n + 1) config (k + 1) lines in
    let prefix = prefix_entries_from (n + 1) config (k + 1) lines in
    either_agrees last (begins (keyword_text keyword.End) line) (read_end n k line lines) (prepend_entry e rest) (read_end n k line lines) (prepend_entry e prefix)
    (agrees_with_itself last (read_end n k line lines))
    (entry_agrees last e rest prefix (entries_agree last (n + 1) config (k + 1) lines (omega (arith, many))))

-- ---- the header

-- a configuration and the entries after it agree if these do
config_agrees : (last : ℕ) (config : Config) (entries prefix : Read (List Entry)) → Agrees last entries prefix → Agrees last (with_config config entries) (with_config config prefix)
config_agrees last config (Ok entries) prefix agree = ap (with_config config) agree
config_agrees last config (Err fault) (Ok prefix) agree = agree
config_agrees last config (Err fault) (Err other) agree = agree

-- a header and the lines after it agree
header_agrees : (last n : ℕ) (o : Option Config) (lines : List (List ℕ)) → n + 1 + length lines ≡ last → Agrees last (schedule_at n o lines) (prefix_at n o lines)
header_agrees last n None lines many = refl
header_agrees last n (Some config) lines many =
    config_agrees last config (entries_from (n + 1) config 0 lines) (prefix_entries_from (n + 1) config 0 lines) (entries_agree last (n + 1) config 0 lines many)

-- the lines from line n on agree
lines_agree : (last n : ℕ) (lines : List (List ℕ)) → n + length lines ≡ last → Agrees last (schedule_from n lines) (prefix_from n lines)
unfolding schedule_from prefix_from
lines_agree last n [] many = refl
lines_agree last n (line ∷ lines) many =
    either_agrees last (begins (keyword_text keyword.Schedule) line) (schedule_at n (header_of line) lines) (schedule_from (n + 1) lines) (prefix_at n (header_of line) lines) (prefix_from (n + 1) lines)
    (header_agrees last n (header_of line) lines (omega (arith, many))) (lines_agree last (n + 1) lines (omega (arith, many)))

-- ---- texts

-- the schedule and the prefix in a text with a byte agree
text_agrees : (format : Format) (text : List ℕ) → 0 < length text → Agrees (length (lines_of text) + 1) (sched_of text) (prefix_of format text)
unfolding sched_of prefix_of
text_agrees format [] some = absurd (omega arith)
text_agrees format (b ∷ bytes) some =
    let lines = lines_of (b ∷ bytes) in
    lines_agree (length lines + 1) 1 (map strip_cr lines) (omega (arith, length-map lines strip_cr))

-- a text with no byte has no schedule
empty_is_refused : sched_of [] ≡ Err (1, why.BadHeader)
unfolding sched_of schedule_from
empty_is_refused = ap (λ (lines : List (List ℕ)). schedule_from 1 (map strip_cr lines)) lines_of-nil

-- the schedule is the prefix
same_value : {A : Type 0} (last : ℕ) (read prefix : Read A) (a : A) → Agrees last read prefix → read ≡ Ok a → prefix ≡ Ok a
same_value last (Ok b) prefix a agree e = agree ∙ e
same_value last (Err fault) prefix a agree e = absurd cc

-- the fault of the prefix is that of the schedule
same_fault : {A : Type 0} (last : ℕ) (read prefix : Read A) (fault : ℕ × ScheduleWhy) → Agrees last read prefix → prefix ≡ Err fault → read ≡ Err fault
same_fault last (Ok a) prefix fault agree e = absurd cc
same_fault last (Err first) (Ok a) fault agree e = absurd cc
same_fault last (Err first) (Err other) fault agree e = cc

-- the fault of the schedule alone is the missing last line
last_fault : {A : Type 0} (last : ℕ) (read prefix : Read A) (a : A) (fault : ℕ × ScheduleWhy) → Agrees last read prefix → prefix ≡ Ok a → read ≡ Err fault → fault ≡ (last, why.BadEnd)
last_fault last (Ok b) prefix a fault agree e f = absurd cc
last_fault last (Err first) (Ok b) a fault agree e f = cc
last_fault last (Err first) (Err other) a fault agree e f = absurd cc

-- a text with a schedule has the same prefix
pub schedule_is_prefix : SchedulesArePrefixes
schedule_is_prefix format [] schedule e = absurd (let refused = empty_is_refused in cc)
schedule_is_prefix format (b ∷ bytes) schedule e =
    let text : List ℕ = b ∷ bytes in
    same_value (length (lines_of text) + 1) (sched_of text) (prefix_of format text) schedule (text_agrees format text (omega arith)) e

-- a fault of the prefix is that of the schedule
pub prefix_fault_is_schedule_fault : PrefixFaultsAreScheduleFaults
unfolding prefix_of
prefix_fault_is_schedule_fault format [] fault e = absurd cc
prefix_fault_is_schedule_fault format (b ∷ bytes) fault e =
    let text : List ℕ = b ∷ bytes in
    same_fault (length (lines_of text) + 1) (sched_of text) (prefix_of format text) fault (text_agrees format text (omega arith)) e

-- a text with a prefix and no schedule is without the last line
pub only_end_is_missing : OnlyTheEndIsMissing
only_end_is_missing format text prefix fault some e f = last_fault (length (lines_of text) + 1) (sched_of text) (prefix_of format text) prefix fault (text_agrees format text some) e f
