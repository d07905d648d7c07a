-- A schedule that is read is within its limits, and the sections of an input are in the input.
use Rattle.pct_names.proofs.Names.{◌&&◌, ◌+◌, ◌++◌, ◌<◌, ◌>>=◌, [], Alt, and_from, and_parts, arith, Bool, bytes_eq, choice_of, cond}
use Rattle.pct_names.proofs.Names.{cond_both, Config, config_of, decimal, digits_value, Entry, entry_in, entry_of, entry_of_parts}
use Rattle.pct_names.proofs.Names.{entry_of_words, Err, Format, format_with, has_choice, header_of, header_of_words, if_known, IfSome}
use Rattle.pct_names.proofs.Names.{is_config, keyword_text, length, lines_of, List, list_all, list_all-append, nat_le, nat_lt, None}
use Rattle.pct_names.proofs.Names.{number_of, numbered_choice, Ok, Option, refl, sched_of, Schedule, Some, strip_cr, subst, sym, true}
use Rattle.pct_names.proofs.Names.{words_of, ℕ, ◌∙◌, ◌∷◌, ◌≡◌}
use Rattle.std.proofs.Common.{ltb-true, length-append}
use Rattle.pct_model.specs.declared.schedule.Alt.TheVariants as alt
use Rattle.pct_model.specs.declared.refusal.ScheduleWhy.TheVariants as why
use Rattle.pct_model.specs.declared.keyword.Keyword.TheVariants as keyword
use Rattle.pct_model.specs.Schedule.{begins, is_end}
use Rattle.pct_schedule.specs.declared.end.End.{End}
use Rattle.pct_schedule.specs.declared.end.End.TheVariants as end
use Rattle.pct_schedule.specs.Ends.{schedule_to}
use Rattle.pct_schedule.specs.Memory.{header_line}
use Rattle.pct_schedule.specs.Schedules.{fits, is_choice, is_entry, IsSchedule}
use Rattle.pct_schedule.proofs.LineByLine.{ended, with_entry, entries_in_to, unended, no_line, one_line}
use Rattle.pct_schedule.proofs.ByEntries.{from_first}
use Rattle.pct_schedule.proofs.ByHeader.{at_header, from_header, from_its_header}

-- ---- values that pass a test

-- the value, if there is one, passes the test
abbrev Passes : {X : Type 0} → (X → Bool) → Option X → Type 0
Passes test o = IfSome o (λ x. test x ≡ true)

bind_passes : {X Y : Type 0} (some : X → Bool) (test : Y → Bool) (o : Option X) (f : X → Option Y) → Passes some o → ((x : X) → some x ≡ true → Passes test (f x)) → Passes test (o >>= f)
bind_passes some test None f passes each = tt
bind_passes some test (Some x) f passes each = each x passes

if_passes : {X : Type 0} (test : X → Bool) (b : Bool) (x y : Option X) → (b ≡ true → Passes test x) → Passes test y → Passes test (cond b x y)
if_passes test b x y here otherwise = cond_both b x y (Passes test) here (λ _. otherwise)

-- ---- numbers

number_fits : (word : List ℕ) → Passes fits (number_of word)
unfolding number_of
number_fits word =
    let n = digits_value 10 word in
    let printed = bytes_eq (decimal n) word in
    if_passes fits (printed && nat_le n 4294967295) (Some n) None (λ e. (and_parts printed (nat_le n 4294967295) e).1) tt

-- ---- entries

numbered_is_choice : (kind : List ℕ) (n : ℕ) → fits n ≡ true → Passes is_choice (numbered_choice kind n)
numbered_is_choice kind n fit =
    let dtor = cond (bytes_eq kind (keyword_text keyword.Dtor)) (Some (alt.Dtor n)) None in
    let pick = cond (bytes_eq kind (keyword_text keyword.Pick)) (Some (alt.Pick n)) dtor in
    let new = cond (bytes_eq kind (keyword_text keyword.New)) (Some (alt.New n)) pick in
    if_passes is_choice (bytes_eq kind (keyword_text keyword.Act)) (Some (alt.Act n)) new (λ _. fit)
    (if_passes is_choice (bytes_eq kind (keyword_text keyword.New)) (Some (alt.New n)) pick (λ _. fit)
    (if_passes is_choice (bytes_eq kind (keyword_text keyword.Pick)) (Some (alt.Pick n)) dtor (λ _. fit)
    (if_passes is_choice (bytes_eq kind (keyword_text keyword.Dtor)) (Some (alt.Dtor n)) None (λ _. fit) tt)))

words_are_choice : (words : List (List ℕ)) → Passes is_choice (choice_of words)
words_are_choice [] = tt
words_are_choice (kind ∷ []) =
    let expire = cond (bytes_eq kind (keyword_text keyword.Expire)) (Some alt.Expire) None in
    if_passes is_choice (bytes_eq kind (keyword_text keyword.Go)) (Some alt.Go) expire (λ _. refl)
    (if_passes is_choice (bytes_eq kind (keyword_text keyword.Expire)) (Some alt.Expire) None (λ _. refl) tt)
words_are_choice (kind ∷ number ∷ []) = bind_passes fits is_choice (number_of number) (numbered_choice kind) (number_fits number) (numbered_is_choice kind)
words_are_choice (kind ∷ number ∷ next ∷ words) = tt

parts_are_entry : (worker pid tid : Option ℕ) (choice : Option Alt) → Passes fits pid → Passes fits tid → Passes is_choice choice → Passes is_entry (entry_of_parts worker pid tid choice)
parts_are_entry None pid tid choice p t c = tt
parts_are_entry (Some worker) None tid choice p t c = tt
parts_are_entry (Some worker) (Some pid) None choice p t c = tt
parts_are_entry (Some worker) (Some pid) (Some tid) None p t c = tt
parts_are_entry (Some worker) (Some pid) (Some tid) (Some choice) p t c =
    if_passes is_entry (nat_le worker 16) (Some (record { worker = worker; pid = pid; tid = tid; alt = choice })) None
    (λ few. and_from (nat_le worker 16 && fits pid && fits tid) (is_choice choice) (and_from (nat_le worker 16 && fits pid) (fits tid) (and_from (nat_le worker 16) (fits pid) few p) t) c) tt

words_are_entry : (words : List (List ℕ)) → Passes is_entry (entry_of_words words)
words_are_entry [] = tt
words_are_entry (worker ∷ []) = tt
words_are_entry (worker ∷ pid ∷ []) = tt
words_are_entry (worker ∷ pid ∷ tid ∷ choice) = parts_are_entry (number_of worker) (number_of pid) (number_of tid) (choice_of choice) (number_fits pid) (number_fits tid) (words_are_choice choice)

line_is_entry : (line : List ℕ) → Passes is_entry (entry_of line)
unfolding entry_of
line_is_entry line = words_are_entry (words_of line)

-- an entry of a schedule of this format has a choice that the format has
abbrev is_known : Format → Entry → Bool
is_known format e = has_choice format e.alt

line_is_entry_in : (format : Format) (line : List ℕ) → Passes is_entry (entry_in format line)
line_is_entry_in format line = bind_passes is_entry is_entry (entry_of line) (if_known format) (line_is_entry line) (λ e fit. if_passes is_entry (is_known format e) (Some e) None (λ _. fit) tt)

known_of : (format : Format) (o : Option Entry) → Passes (is_known format) (o >>= if_known format)
known_of format None = tt
known_of format (Some e) = if_passes (is_known format) (is_known format e) (Some e) None (λ known. known) tt

line_is_known : (format : Format) (line : List ℕ) → Passes (is_known format) (entry_in format line)
line_is_known format line = known_of format (entry_of line)

-- ---- the header

numbers_are_config : (format : Option Format) (budget passes slots : Option ℕ) → Passes is_config (config_of format budget passes slots)
numbers_are_config None budget passes slots = tt
numbers_are_config (Some format) None passes slots = tt
numbers_are_config (Some format) (Some budget) None slots = tt
numbers_are_config (Some format) (Some budget) (Some passes) None = tt
numbers_are_config (Some format) (Some budget) (Some passes) (Some slots) =
    let config : Config = record { budget = budget; passes = passes; slots = slots; format = format } in
    if_passes is_config (is_config config) (Some config) None (λ is. is) tt

words_are_config : (words : List (List ℕ)) → Passes is_config (header_of_words words)
words_are_config [] = tt
words_are_config (a ∷ []) = tt
words_are_config (a ∷ b ∷ []) = tt
words_are_config (a ∷ b ∷ c ∷ []) = tt
words_are_config (a ∷ b ∷ c ∷ d ∷ []) = tt
words_are_config (title ∷ format ∷ budget ∷ passes ∷ slots ∷ []) =
    if_passes is_config _ (config_of (format_with format) (number_of budget) (number_of passes) (number_of slots)) None (λ _. numbers_are_config (format_with format) (number_of budget) (number_of passes) (number_of slots)) tt
words_are_config (a ∷ b ∷ c ∷ d ∷ e ∷ next ∷ words) = tt

line_is_config : (line : List ℕ) → Passes is_config (header_of line)
unfolding header_of
line_is_config line = words_are_config (words_of line)

-- ---- schedules

-- a schedule that is read is within its limits
abbrev Within : Schedule → Type 0
Within (Ok schedule) = IsSchedule schedule.0 schedule.1
Within (Err e) = Unit {0}

if_within : (b : Bool) (x y : Schedule) → Within x → Within y → Within (cond b x y)
if_within b x y here otherwise = cond_both b x y Within (λ _. here) (λ _. otherwise)

ended_within : (n : ℕ) (config : Config) (entries : List Entry) (lines : List (List ℕ)) → IsSchedule config entries → Within (ended n config entries lines)
ended_within n config entries [] is = is
ended_within n config entries (line ∷ lines) is = tt

more_within : (config : Config) (entries : List Entry) (e : Entry) → IsSchedule config entries → length entries < config.budget → is_entry e ≡ true → is_known config.format e ≡ true → IsSchedule config (entries ++ e ∷ [])
more_within config entries e is within fit known =
    record {
      config_fits = is.config_fits;
      few = omega (arith, length-append entries (e ∷ []), within);
      each = all_more is_entry is.each fit;
      known = all_more (is_known config.format) is.known known;
    }
  where
    all_more : (test : Entry → Bool) → list_all test entries ≡ true → test e ≡ true → list_all test (entries ++ e ∷ []) ≡ true
    all_more test all last = list_all-append test entries (e ∷ []) ∙ and_from (list_all test entries) (list_all test (e ∷ [])) all (and_from (test e) true last refl)

entry_within : (n : ℕ) (config : Config) (entries : List Entry) (o : Option Entry) (go : Entry → Schedule) → IsSchedule config entries → Passes is_entry o → Passes (is_known config.format) o
    → ((e : Entry) → IsSchedule config (entries ++ e ∷ []) → Within (go e)) → Within (with_entry n config (length entries) o go)
entry_within n config entries None go is passes known more = tt
entry_within n config entries (Some e) go is passes known more =
    cond_both (nat_lt (length entries) config.budget) (go e) (Err (n, why.TooMany)) Within
    (λ within. more e (more_within config entries e is (ltb-true (length entries) config.budget within) passes known)) (λ _. tt)

unended_within : (to : End) (n : ℕ) (config : Config) (entries : List Entry) → IsSchedule config entries → Within (unended to n config entries)
unended_within end.Required n config entries is = tt
unended_within end.Optional n config entries is = is

entries_within : (to : End) (n : ℕ) (config : Config) (entries : List Entry) (lines : List (List ℕ)) → IsSchedule config entries → Within (entries_in_to to n config entries lines)
entries_within to n config entries [] is = subst Within (sym (no_line to n config entries)) (unended_within to n config entries is)
entries_within to n config entries (line ∷ lines) is =
    let go : Entry → Schedule = λ e. entries_in_to to (n + 1) config (entries ++ e ∷ []) lines in
    subst Within (sym (one_line to n config entries line lines))
    (if_within (begins (keyword_text keyword.End) (strip_cr line))
    (cond (is_end (length entries) (strip_cr line)) (ended (n + 1) config entries lines) (Err (n, why.BadEnd)))
    (with_entry n config (length entries) (entry_in config.format (strip_cr line)) go)
    (if_within (is_end (length entries) (strip_cr line)) (ended (n + 1) config entries lines) (Err (n, why.BadEnd)) (ended_within (n + 1) config entries lines is) tt)
    (entry_within n config entries (entry_in config.format (strip_cr line)) go is (line_is_entry_in config.format (strip_cr line)) (line_is_known config.format (strip_cr line))
    (λ e more. entries_within to (n + 1) config (entries ++ e ∷ []) lines more)))

header_within : (to : End) (n : ℕ) (o : Option Config) (lines : List (List ℕ)) → Passes is_config o → Within (at_header to n o lines)
header_within to n None lines passes = tt
header_within to n (Some config) lines passes =
    subst Within (sym (from_first to (n + 1) config lines)) (entries_within to (n + 1) config [] lines (record { config_fits = passes; few = omega arith; each = refl; known = refl }))

found_within : (to : End) (header : Option (ℕ × List ℕ × List (List ℕ))) → Within (from_header to header)
found_within to None = tt
found_within to (Some found) = header_within to found.0 (header_of found.1) found.2 (line_is_config found.1)

-- the schedule that a text gives, or the prefix, is within its limits
pub text_within : (to : End) (text : List ℕ) (config : Config) (entries : List Entry) → schedule_to to text ≡ Ok (config, entries) → IsSchedule config entries
text_within to text config entries e =
    let header = header_line 1 (lines_of text) in
    subst Within (sym (from_its_header to text header refl) ∙ e) (found_within to header)

-- and so is its schedule
pub sched_within : (text : List ℕ) (config : Config) (entries : List Entry) → sched_of text ≡ Ok (config, entries) → IsSchedule config entries
sched_within text config entries e = text_within end.Required text config entries e
