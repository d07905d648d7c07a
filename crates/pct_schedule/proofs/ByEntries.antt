-- Reading with the list of entries so far gives the schedule of a text, or the prefix in it.
use Rattle.pct_names.proofs.Names.{◌+◌, ◌++◌, [], ap, Bool, cond, Config, entries_from, Entry, entry_in, Err, false, header_of}
use Rattle.pct_names.proofs.Names.{keyword_text, length, lines_of, List, map, nat_lt, None, nothing_after, Ok, Option, prepend_entry, Read}
use Rattle.pct_names.proofs.Names.{read_end, read_entry, refl, sched_of, Schedule, schedule_at, schedule_from, Some, strip_cr, sym, true}
use Rattle.pct_names.proofs.Names.{with_config, ℕ, ◌∙◌, ◌∷◌, ◌≡◌}
use Rattle.std.proofs.Common.{append_assoc, append-nil, length-append}
use Rattle.pct_model.specs.declared.refusal.ScheduleWhy.TheVariants as why
use Rattle.pct_model.specs.declared.keyword.Keyword.TheVariants as keyword
use Rattle.pct_model.specs.Schedule.{begins, is_end}
use Rattle.pct_schedule.specs.declared.end.End.{End}
use Rattle.pct_schedule.specs.declared.end.End.TheVariants as end
use Rattle.pct_schedule.specs.Ends.{entries_to}
use Rattle.pct_schedule.specs.Prefix.{prefix_entries_from}
use Rattle.pct_schedule.proofs.LineByLine.{ended, with_entry, with_header, schedule_in, entries_in_to, unended, no_line, one_line}

-- a schedule of these entries and the entries that are read after them
abbrev after_these : Config → List Entry → Read (List Entry) → Schedule
after_these config prefix (Ok entries) = Ok (config, prefix ++ entries)
after_these config prefix (Err fault) = Err fault

end_same : (n : ℕ) (config : Config) (prefix : List Entry) (lines : List (List ℕ)) (is : Bool)
    → cond is (ended (n + 1) config prefix lines) (Err (n, why.BadEnd)) ≡ after_these config prefix (cond is (nothing_after n (map strip_cr lines)) (Err (n, why.BadEnd)))
end_same n config prefix [] true = ap (λ (es : List Entry). Ok (config, es)) (sym (append-nil prefix))
end_same n config prefix [] false = refl
end_same n config prefix (line ∷ lines) true = refl
end_same n config prefix (line ∷ lines) false = refl

prefix_same : (config : Config) (prefix : List Entry) (e : Entry) (rest : Read (List Entry)) → after_these config (prefix ++ e ∷ []) rest ≡ after_these config prefix (prepend_entry (Ok e) rest)
prefix_same config prefix e (Ok entries) = ap (λ (es : List Entry). Ok (config, es)) (append_assoc prefix (e ∷ []) entries)
prefix_same config prefix e (Err fault) = refl

budget_same : (n : ℕ) (config : Config) (prefix : List Entry) (e : Entry) (within : Bool) (later : Schedule) (rest : Read (List Entry)) → later ≡ after_these config (prefix ++ e ∷ []) rest
    → cond within later (Err (n, why.TooMany)) ≡ after_these config prefix (prepend_entry (cond within (Ok e) (Err (n, why.TooMany))) rest)
budget_same n config prefix e true later rest same = same ∙ prefix_same config prefix e rest
budget_same n config prefix e false later rest same = refl

entry_same : (n k : ℕ) (config : Config) (prefix : List Entry) (o : Option Entry) (go : Entry → Schedule) (rest : Read (List Entry)) → ((e : Entry) → go e ≡ after_these config (prefix ++ e ∷ []) rest)
    → with_entry n config k o go ≡ after_these config prefix (prepend_entry (read_entry n config.budget k o) rest)
entry_same n k config prefix None go rest same = refl
entry_same n k config prefix (Some e) go rest same = budget_same n config prefix e (nat_lt k config.budget) (go e) rest (same e)

either_same : (config : Config) (prefix : List Entry) (t : Bool) (a b : Schedule) (x y : Read (List Entry)) → a ≡ after_these config prefix x → b ≡ after_these config prefix y
    → cond t a b ≡ after_these config prefix (cond t x y)
either_same config prefix true a b x y e f = e
either_same config prefix false a b x y e f = f

-- the entries of no line, to either end
unended_same : (to : End) (n : ℕ) (config : Config) (prefix : List Entry) → unended to n config prefix ≡ after_these config prefix (entries_to to n config (length prefix) [])
unfolding entries_from prefix_entries_from
unended_same end.Required n config prefix = refl
unended_same end.Optional n config prefix = ap (λ (es : List Entry). Ok (config, es)) (sym (append-nil prefix))

-- the entries of one line and of the lines after it, to either end
one_more : (to : End) (n : ℕ) (config : Config) (k : ℕ) (line : List ℕ) (lines : List (List ℕ))
    → cond (begins (keyword_text keyword.End) line) (read_end n k line lines) (prepend_entry (read_entry n config.budget k (entry_in config.format line)) (entries_to to (n + 1) config (k + 1) lines)) ≡ entries_to to n config k (line ∷ lines)
unfolding entries_from prefix_entries_from
one_more end.Required n config k line lines = refl
one_more end.Optional n config k line lines = refl

-- the entries of the lines after these entries
entries_same : (to : End) (n : ℕ) (config : Config) (prefix : List Entry) (lines : List (List ℕ))
    → entries_in_to to n config prefix lines ≡ after_these config prefix (entries_to to n config (length prefix) (map strip_cr lines))
entries_same to n config prefix [] = no_line to n config prefix ∙ unended_same to n config prefix
entries_same to n config prefix (line ∷ lines) =
    let read = strip_cr line in
    let after = map strip_cr lines in
    let go : Entry → Schedule = λ e. entries_in_to to (n + 1) config (prefix ++ e ∷ []) lines in
    let rest = entries_to to (n + 1) config (length prefix + 1) after in
    one_line to n config prefix line lines
    ∙ either_same config prefix (begins (keyword_text keyword.End) read)
    (cond (is_end (length prefix) read) (ended (n + 1) config prefix lines) (Err (n, why.BadEnd)))
    (with_entry n config (length prefix) (entry_in config.format read) go)
    (read_end n (length prefix) read after)
    (prepend_entry (read_entry n config.budget (length prefix) (entry_in config.format read)) rest)
    (end_same n config prefix lines (is_end (length prefix) read))
    (entry_same n (length prefix) config prefix (entry_in config.format read) go rest
    (λ e. entries_same to (n + 1) config (prefix ++ e ∷ []) lines
    ∙ ap (λ (k : ℕ). after_these config (prefix ++ e ∷ []) (entries_to to (n + 1) config k after)) (length-append prefix (e ∷ []))))
    ∙ ap (after_these config prefix) (one_more to n config (length prefix) read after)

none_before : (config : Config) (read : Read (List Entry)) → after_these config [] read ≡ with_config config read
none_before config (Ok entries) = refl
none_before config (Err fault) = refl

-- the lines after a header with these numbers
pub from_first : (to : End) (n : ℕ) (config : Config) (lines : List (List ℕ)) → with_config config (entries_to to n config 0 (map strip_cr lines)) ≡ entries_in_to to n config [] lines
from_first to n config lines = sym (entries_same to n config [] lines ∙ none_before config (entries_to to n config 0 (map strip_cr lines)))

header_same : (n : ℕ) (o : Option Config) (lines : List (List ℕ)) → with_header n o lines ≡ schedule_at n o (map strip_cr lines)
header_same n None lines = refl
header_same n (Some config) lines = sym (from_first end.Required (n + 1) config lines)

both_same : (t : Bool) (a b x y : Schedule) → a ≡ x → b ≡ y → cond t a b ≡ cond t x y
both_same true a b x y e f = e
both_same false a b x y e f = f

lines_same : (n : ℕ) (lines : List (List ℕ)) → schedule_in n lines ≡ schedule_from n (map strip_cr lines)
unfolding schedule_in schedule_from
lines_same n [] = refl
lines_same n (line ∷ lines) =
    let read = strip_cr line in
    both_same (begins (keyword_text keyword.Schedule) read) (with_header n (header_of read) lines) (schedule_in (n + 1) lines) (schedule_at n (header_of read) (map strip_cr lines)) (schedule_from (n + 1) (map strip_cr lines))
    (header_same n (header_of read) lines) (lines_same (n + 1) lines)

-- the schedule of a text, read line by line
pub by_lines : (text : List ℕ) → sched_of text ≡ schedule_in 1 (lines_of text)
unfolding sched_of
by_lines text = sym (lines_same 1 (lines_of text))
