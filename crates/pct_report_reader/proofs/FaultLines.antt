-- A refusal of a schedule names a line of its text, or the line after the last one.
use Rattle.pct_names.proofs.Names.{◌+◌, [], arith, Bool, cond, Config, entries_from, Entry, entry_in, Err, false, header_of, keyword_text}
use Rattle.pct_names.proofs.Names.{length, length-map}
use Rattle.pct_names.proofs.Names.{lines_of, List, map, nat_lt, None, Ok, Option, prepend_entry, Read, read_end, read_entry, sched_of}
use Rattle.pct_names.proofs.Names.{schedule_at, schedule_from}
use Rattle.pct_names.proofs.Names.{Some, strip_cr, subst, true, with_config, ℕ, ◌∷◌, ◌≡◌, ◌≤◌}
use Rattle.pct_model.specs.declared.refusal.ScheduleWhy.{ScheduleWhy}
use Rattle.pct_model.specs.declared.refusal.ScheduleWhy.TheVariants as why
use Rattle.pct_model.specs.declared.keyword.Keyword.TheVariants as keyword
use Rattle.pct_model.specs.Schedule.{begins, is_end, nothing_after}

-- the line of a fault is at most this one
abbrev pub Bounded : {A : Type 0} → ℕ → Read A → Type 0
Bounded last (Ok a) = Unit {0}
Bounded last (Err fault) = fault.0 ≤ last

either_bounded : {A : Type 0} (last : ℕ) (t : Bool) (a b : Read A) → Bounded last a → Bounded last b → Bounded last (cond t a b)
either_bounded last true a b here otherwise = here
either_bounded last false a b here otherwise = otherwise

entry_bounded : (last n budget k : ℕ) (o : Option Entry) → n ≤ last → Bounded last (read_entry n budget k o)
entry_bounded last n budget k None within = within
entry_bounded last n budget k (Some e) within = either_bounded last (nat_lt k budget) (Ok e) (Err (n, why.TooMany)) tt within

after_bounded : (last n : ℕ) (lines : List (List ℕ)) → n + length lines ≤ last → Bounded last (nothing_after n lines)
after_bounded last n [] within = tt
after_bounded last n (line ∷ lines) within = omega (arith, within)

prepend_bounded : (last : ℕ) (e : Read Entry) (entries : Read (List Entry)) → Bounded last e → Bounded last entries → Bounded last (prepend_entry e entries)
prepend_bounded last (Err fault) entries first others = first
prepend_bounded last (Ok e) (Err fault) first others = others
prepend_bounded last (Ok e) (Ok entries) first others = tt

entries_bounded : (last n : ℕ) (config : Config) (k : ℕ) (lines : List (List ℕ)) → n + length lines ≤ last → Bounded last (entries_from n config k lines)
unfolding entries_from
entries_bounded last n config k [] within = omega (arith, within)
entries_bounded last n config k (line ∷ lines) within =
    let e = read_entry n config.budget k (entry_in config.format line) in
    let rest = entries_from (n + 1) config (k + 1) lines in
    either_bounded last (begins (keyword_text keyword.End) line) (read_end n k line lines) (prepend_entry e rest)
    (either_bounded last (is_end k line) (nothing_after n lines) (Err (n, why.BadEnd)) (after_bounded last n lines (omega (arith, within))) (omega (arith, within)))
    (prepend_bounded last e rest (entry_bounded last n config.budget k (entry_in config.format line) (omega (arith, within))) (entries_bounded last (n + 1) config (k + 1) lines (omega (arith, within))))

config_bounded : (last : ℕ) (config : Config) (entries : Read (List Entry)) → Bounded last entries → Bounded last (with_config config entries)
config_bounded last config (Ok entries) within = tt
config_bounded last config (Err fault) within = within

header_bounded : (last n : ℕ) (o : Option Config) (lines : List (List ℕ)) → n + 1 + length lines ≤ last → Bounded last (schedule_at n o lines)
header_bounded last n None lines within = omega (arith, within)
header_bounded last n (Some config) lines within = config_bounded last config (entries_from (n + 1) config 0 lines) (entries_bounded last (n + 1) config 0 lines within)

lines_bounded : (last n : ℕ) (lines : List (List ℕ)) → 1 ≤ last → n + length lines ≤ last → Bounded last (schedule_from n lines)
unfolding schedule_from
lines_bounded last n [] some within = some
lines_bounded last n (line ∷ lines) some within =
    either_bounded last (begins (keyword_text keyword.Schedule) line) (schedule_at n (header_of line) lines) (schedule_from (n + 1) lines)
    (header_bounded last n (header_of line) lines (omega (arith, within))) (lines_bounded last (n + 1) lines some (omega (arith, within)))

text_bounded : (text : List ℕ) → Bounded (length (lines_of text) + 1) (sched_of text)
unfolding sched_of
text_bounded text =
    let lines = lines_of text in
    lines_bounded (length lines + 1) 1 (map strip_cr lines) (omega arith) (omega (arith, length-map lines strip_cr))

-- the line of a fault in a text
pub fault_line : (text : List ℕ) (line : ℕ) (reason : ScheduleWhy) → sched_of text ≡ Err (line, reason) → line ≤ length (lines_of text) + 1
fault_line text line reason e = subst (Bounded (length (lines_of text) + 1)) e (text_bounded text)
