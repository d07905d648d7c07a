-- The schedule of a report is read back from its text.
use Rattle.pct_names.proofs.Names.{◌&&◌, ◌+◌, ◌++◌, ◌<◌, [], All, All-head, All-tail, Alt, alt_words, and_from, and_parts, ap, arith, Bool}
use Rattle.pct_names.proofs.Names.{bytes_eq, choice_of, cond, Config, decimal, digits, end_line, Entry, entry_in, entry_line, entry_of}
use Rattle.pct_names.proofs.Names.{entry_of_words, Err, Event, event_line, event_names, event_words, false, false_from_ne_true, flat_map-cons, Format}
use Rattle.pct_names.proofs.Names.{format_number, format_with, has_choice, header_line, header_of, header_of_words, if_known, is_config}
use Rattle.pct_names.proofs.Names.{is_digit, is_end_of_words, join_with_byte, keyword_text, length, line_text, lines_of, List, list_all}
use Rattle.pct_names.proofs.Names.{list_all-append, map, MAX_WORKER, nat_eq, nat_le, None, Ok, Option, option_and_then, option_map}
use Rattle.pct_names.proofs.Names.{option_map_or, refl, report, report_lines, report_of, reverse, Run, run, same_Some, sched_of, Schedule}
use Rattle.pct_names.proofs.Names.{schedule_lines, Script, Some, split_once, strip_cr, sym, text_of, thread_text, title_line, true, Verdict}
use Rattle.pct_names.proofs.Names.{verdict_line, verdict_of, verdict_words, words_of, ℕ, ◌∙◌, ◌∷◌, ◌≡◌, ◌≤◌}
use Rattle.std.proofs.Common.{append_assoc, append-nil, leb-true, lt-ltb, eq-eqb, true≢false, length-append, le-leb}
use Rattle.pct_model.specs.declared.schedule.Alt.TheVariants as alt
use Rattle.pct_model.specs.declared.schedule.Format.TheVariants as format
use Rattle.pct_model.specs.declared.refusal.ScheduleWhy.TheVariants as why
use Rattle.pct_model.specs.declared.keyword.Keyword.TheVariants as keyword
use Rattle.pct_model.specs.Schedule.{begins, is_end}
use Rattle.pct_model.proofs.Bytes.{same_bytes, bytes_eq-refl}
use Rattle.pct_engine_laws.specs.RunNumbers.{IsChoiceWithin, IsEntryWithin}
use Rattle.pct_engine_laws.proofs.LongerRuns.{run_parts}
use Rattle.pct_engine_laws.proofs.RunNumbers.{run_numbers_fit}
use Rattle.pct_text.proofs.SplitOnce.{split_again, lacks_other, lacks-append, lacks-cons}
use Rattle.pct_text.proofs.Numbers.{number_again, digits_of_decimal}
use Rattle.pct_text.proofs.Lines.{strip_cr-lacks, lines_of-nil, lines_of-line, words_of-last, words_of-split_once}
use Rattle.pct_schedule.specs.Schedules.{fits, is_choice, is_entry, IsSchedule}
use Rattle.pct_schedule.proofs.Splits.{begins_with}
use Rattle.pct_schedule.proofs.LineByLine.{ended, with_entry, entries_in, with_header, schedule_in}
use Rattle.pct_schedule.proofs.BySplits.{begins-schedule, begins-end}
use Rattle.pct_schedule.proofs.ByEntries.{by_lines}
use Rattle.pct_schedule_laws.proofs.KnownChoices.{is_known, run_known}
use Rattle.pct_schedule_laws.proofs.PlainWords.{is_plain_byte, is_plain, are_plain, keyword_plain, decimal_plain}
use Rattle.pct_schedule_laws.proofs.PlainLines.{event_line_plain, verdict_line_plain, title_line_plain, end_line_plain, header_line_plain, entry_line_plain}

-- ---- lines

-- a line of plain words lacks each byte that is neither plain nor a space
pub line_lacks : (c : ℕ) (words : List (List ℕ)) → is_plain_byte c ≡ false → nat_eq 32 c ≡ false → are_plain words ≡ true → split_once c (join_with_byte 32 words) ≡ None
unfolding split_once
line_lacks c [] fails other plain = refl
line_lacks c (w ∷ []) fails other plain = lacks_other is_plain_byte c w fails (and_parts (is_plain w) true plain).0
line_lacks c (w ∷ next ∷ words) fails other plain =
    let parts = and_parts (is_plain w) (are_plain (next ∷ words)) plain in
    lacks-append c w (32 ∷ join_with_byte 32 (next ∷ words)) (lacks_other is_plain_byte c w fails parts.0)
    (lacks-cons c 32 (join_with_byte 32 (next ∷ words)) other (line_lacks c (next ∷ words) fails other parts.1))

pub line_again : (words : List (List ℕ)) (lines : List (List (List ℕ))) → are_plain words ≡ true → lines_of (text_of (words ∷ lines)) ≡ join_with_byte 32 words ∷ lines_of (text_of lines)
line_again words lines plain =
    ap lines_of (flat_map-cons line_text words lines ∙ append_assoc (join_with_byte 32 words) (10 ∷ []) (text_of lines))
    ∙ lines_of-line (join_with_byte 32 words) (text_of lines) (line_lacks 10 words refl refl plain)

pub line_unchanged : (words : List (List ℕ)) → are_plain words ≡ true → strip_cr (join_with_byte 32 words) ≡ join_with_byte 32 words
line_unchanged words plain = strip_cr-lacks (join_with_byte 32 words) (line_lacks 13 words refl refl plain)

-- ---- first words

plain_lacks : (w : List ℕ) → is_plain w ≡ true → split_once 32 w ≡ None
plain_lacks w plain = lacks_other is_plain_byte 32 w refl plain

-- a line of plain words has those words
pub words_again : (first : List ℕ) (words : List (List ℕ)) → are_plain (first ∷ words) ≡ true → words_of (join_with_byte 32 (first ∷ words)) ≡ first ∷ words
words_again first [] plain = words_of-last first (plain_lacks first (and_parts (is_plain first) true plain).0)
words_again first (next ∷ words) plain =
    let parts = and_parts (is_plain first) (are_plain (next ∷ words)) plain in
    let rest = join_with_byte 32 (next ∷ words) in
    words_of-split_once (first ++ 32 ∷ rest) (first, rest) (split_again 32 first rest (plain_lacks first parts.0)) ∙ ap (λ ws. first ∷ ws) (words_again next words parts.1)

-- a line of two words or more begins with a keyword and a space exactly where its first word is that keyword
by_first_word : (keyword first next : List ℕ) (words : List (List ℕ)) → is_plain first ≡ true → begins_with keyword (join_with_byte 32 (first ∷ next ∷ words)) ≡ bytes_eq first keyword
unfolding begins_with
by_first_word keyword first next words plain =
    ap (λ (o : Option (List ℕ × List ℕ)). option_map_or (λ parts. bytes_eq parts.0 keyword) o false) (split_again 32 first (join_with_byte 32 (next ∷ words)) (plain_lacks first plain))

begins_otherwise : (keyword first : List ℕ) (words : List (List ℕ)) → is_plain first ≡ true → bytes_eq first keyword ≡ false → begins_with keyword (join_with_byte 32 (first ∷ words)) ≡ false
unfolding begins_with
begins_otherwise keyword first [] plain other =
    ap (λ (o : Option (List ℕ × List ℕ)). option_map_or (λ parts. bytes_eq parts.0 keyword) o false) (plain_lacks first plain)
begins_otherwise keyword first (next ∷ words) plain other = by_first_word keyword first next words plain ∙ other

-- two words differ where one passes a test and the other does not
apart : (test : ℕ → Bool) (a b : List ℕ) → list_all test a ≡ true → list_all test b ≡ false → bytes_eq a b ≡ false
apart test a b passes fails =
    false_from_ne_true (bytes_eq a b) (λ (e : bytes_eq a b ≡ true). true≢false (sym passes ∙ ap (list_all test) (same_bytes a b e) ∙ fails))

-- ---- the lines before the schedule

abbrev at_line : ℕ → List (List ℕ) → List ℕ → Bool → Schedule
at_line n lines line found = cond found (with_header n (header_of line) lines) (schedule_in (n + 1) lines)

by_line : (n : ℕ) (words : List (List ℕ)) (lines : List (List (List ℕ))) (found : Bool) → are_plain words ≡ true → begins_with (keyword_text keyword.Schedule) (join_with_byte 32 words) ≡ found
    → schedule_in n (lines_of (text_of (words ∷ lines))) ≡ at_line n (lines_of (text_of lines)) (join_with_byte 32 words) found
unfolding schedule_in
by_line n words lines found plain is =
    let line = join_with_byte 32 words in
    ap (schedule_in n) (line_again words lines plain)
    ∙ ap (λ (l : List ℕ). at_line n (lines_of (text_of lines)) l (begins (keyword_text keyword.Schedule) l)) (line_unchanged words plain)
    ∙ ap (at_line n (lines_of (text_of lines)) line) (sym (begins-schedule line) ∙ is)

passed_over : (n : ℕ) (first : List ℕ) (words : List (List ℕ)) (lines : List (List (List ℕ))) → are_plain (first ∷ words) ≡ true → bytes_eq first (keyword_text keyword.Schedule) ≡ false
    → schedule_in n (lines_of (text_of ((first ∷ words) ∷ lines))) ≡ schedule_in (n + 1) (lines_of (text_of lines))
passed_over n first words lines plain other =
    by_line n (first ∷ words) lines false plain (begins_otherwise (keyword_text keyword.Schedule) first words (and_parts (is_plain first) (are_plain words) plain).0 other)

-- the text of a thread consists of digits and a dot
is_thread_byte : ℕ → Bool
is_thread_byte b = cond (is_digit b) true (nat_eq b 46)

thread_bytes : (xs : List ℕ) → list_all is_digit xs ≡ true → list_all is_thread_byte xs ≡ true
unfolding is_thread_byte
thread_bytes [] all = refl
thread_bytes (x ∷ xs) all =
    let parts = and_parts (is_digit x) (list_all is_digit xs) all in
    ap (λ (b : Bool). cond b true (nat_eq x 46) && list_all is_thread_byte xs) parts.0 ∙ thread_bytes xs parts.1

thread_is_thread : (pid tid : ℕ) → list_all is_thread_byte (thread_text pid tid) ≡ true
unfolding thread_text is_thread_byte
thread_is_thread pid tid =
    list_all-append is_thread_byte (decimal pid) (46 ∷ decimal tid)
    ∙ ap (λ (b : Bool). b && list_all is_thread_byte (decimal tid)) (thread_bytes (decimal pid) (digits_of_decimal pid)) ∙ thread_bytes (decimal tid) (digits_of_decimal tid)

schedule_is_no_thread : list_all is_thread_byte (keyword_text keyword.Schedule) ≡ false
unfolding is_thread_byte keyword_text
schedule_is_no_thread = refl

event_passed : (n : ℕ) (script : Script) (e : Event) (lines : List (List (List ℕ))) → schedule_in n (lines_of (text_of (event_line script e ∷ lines))) ≡ schedule_in (n + 1) (lines_of (text_of lines))
unfolding event_line
event_passed n script e lines =
    passed_over n (thread_text e.pid e.tid) (event_words (event_names script) e.what) lines (event_line_plain script e)
    (apart is_thread_byte (thread_text e.pid e.tid) (keyword_text keyword.Schedule) (thread_is_thread e.pid e.tid) schedule_is_no_thread)

events_passed : (script : Script) (events : List Event) (lines : List (List (List ℕ))) (read : Schedule) → ((n : ℕ) → schedule_in n (lines_of (text_of lines)) ≡ read)
    → (n : ℕ) → schedule_in n (lines_of (text_of (map (event_line script) events ++ lines))) ≡ read
events_passed script [] lines read after n = after n
events_passed script (e ∷ events) lines read after n =
    event_passed n script e (map (event_line script) events ++ lines) ∙ events_passed script events lines read after (n + 1)

verdict_passed : (n : ℕ) (v : Verdict) (lines : List (List (List ℕ))) → schedule_in n (lines_of (text_of (verdict_line v ∷ lines))) ≡ schedule_in (n + 1) (lines_of (text_of lines))
unfolding verdict_line keyword_text
verdict_passed n v lines = passed_over n (keyword_text keyword.Verdict) (verdict_words v) lines (verdict_line_plain v) refl

title_passed : (n : ℕ) (c : Config) (lines : List (List (List ℕ))) → schedule_in n (lines_of (text_of (title_line c ∷ lines))) ≡ schedule_in (n + 1) (lines_of (text_of lines))
unfolding title_line keyword_text
title_passed n c lines = passed_over n (keyword_text keyword.Report) (decimal (format_number c.format) ∷ []) lines (title_line_plain c) refl

-- ---- the header

-- the limits of a run's numbers
pub record InLimits (c : Config) : Type 0 where
  pub budget : c.budget ≤ 200000
  pub passes : c.passes ≤ 16
  pub slots : c.slots ≤ 64

pub in_limits : (c : Config) → is_config c ≡ true → InLimits c
in_limits c is =
    let a = and_parts (nat_le 1 c.budget && nat_le c.budget 200000 && nat_le 4 c.passes && nat_le c.passes 16 && nat_le 1 c.slots) (nat_le c.slots 64) is in
    let b = and_parts (nat_le 1 c.budget && nat_le c.budget 200000 && nat_le 4 c.passes && nat_le c.passes 16) (nat_le 1 c.slots) a.0 in
    let d = and_parts (nat_le 1 c.budget && nat_le c.budget 200000 && nat_le 4 c.passes) (nat_le c.passes 16) b.0 in
    let e = and_parts (nat_le 1 c.budget && nat_le c.budget 200000) (nat_le 4 c.passes) d.0 in
    record {
      budget = leb-true c.budget 200000 (and_parts (nat_le 1 c.budget) (nat_le c.budget 200000) e.0).1;
      passes = leb-true c.passes 16 d.1;
      slots = leb-true c.slots 64 a.1;
    }

format_again : (format : Format) → format_with (decimal (format_number format)) ≡ Some format
unfolding digits
format_again format.One = refl
format_again format.Two = refl

header_again : (c : Config) → is_config c ≡ true → header_of (join_with_byte 32 (header_line c)) ≡ Some c
unfolding header_of header_line
header_again c is =
    let limits = in_limits c is in
    ap header_of_words (words_again (keyword_text keyword.Schedule) (decimal (format_number c.format) ∷ decimal c.budget ∷ decimal c.passes ∷ decimal c.slots ∷ []) (header_line_plain c))
    ∙ rw (bytes_eq-refl (keyword_text keyword.Schedule), format_again c.format, number_again c.budget (omega (arith, limits.budget)), number_again c.passes (omega (arith, limits.passes)), number_again c.slots (omega (arith, limits.slots)))
    (ap (λ (b : Bool). cond b (Some c) None) is)

header_found : (n : ℕ) (c : Config) (lines : List (List (List ℕ))) → is_config c ≡ true → schedule_in n (lines_of (text_of (header_line c ∷ lines))) ≡ entries_in (n + 1) c [] (lines_of (text_of lines))
unfolding header_line
header_found n c lines is =
    by_line n (header_line c) lines true (header_line_plain c)
    (by_first_word (keyword_text keyword.Schedule) (keyword_text keyword.Schedule) (decimal (format_number c.format)) (decimal c.budget ∷ decimal c.passes ∷ decimal c.slots ∷ []) (keyword_plain keyword.Schedule) ∙ bytes_eq-refl (keyword_text keyword.Schedule))
    ∙ ap (λ (o : Option Config). with_header n o (lines_of (text_of lines))) (header_again c is)

-- ---- entries

choice_again : (a : Alt) → is_choice a ≡ true → choice_of (alt_words a) ≡ Some a
unfolding alt_words keyword_text
choice_again alt.Go is = refl
choice_again (alt.Act n) is = rw (number_again n (leb-true n 4294967295 is)) refl
choice_again (alt.New n) is = rw (number_again n (leb-true n 4294967295 is)) refl
choice_again (alt.Pick n) is = rw (number_again n (leb-true n 4294967295 is)) refl
choice_again (alt.Dtor n) is = rw (number_again n (leb-true n 4294967295 is)) refl
choice_again alt.Expire is = refl

-- the limits of an entry
pub record FitsEntry (e : Entry) : Type 0 where
  pub worker : nat_le e.worker 16 ≡ true
  pub pid : e.pid ≤ 4294967295
  pub tid : e.tid ≤ 4294967295
  pub choice : is_choice e.alt ≡ true

pub fits_entry : (e : Entry) → is_entry e ≡ true → FitsEntry e
fits_entry e is =
    let a = and_parts (nat_le e.worker 16 && fits e.pid && fits e.tid) (is_choice e.alt) is in
    let b = and_parts (nat_le e.worker 16 && fits e.pid) (fits e.tid) a.0 in
    let c = and_parts (nat_le e.worker 16) (fits e.pid) b.0 in
    record { worker = c.0; pid = leb-true e.pid 4294967295 c.1; tid = leb-true e.tid 4294967295 b.1; choice = a.1 }

entry_of_again : (e : Entry) → is_entry e ≡ true → entry_of (join_with_byte 32 (entry_line e)) ≡ Some e
unfolding entry_of entry_line
entry_of_again e is =
    let these = fits_entry e is in
    let few : e.worker ≤ 16 = leb-true e.worker 16 these.worker in
    ap entry_of_words (words_again (decimal e.worker) (decimal e.pid ∷ decimal e.tid ∷ alt_words e.alt) (entry_line_plain e))
    ∙ rw (number_again e.worker (omega arith), number_again e.pid these.pid, number_again e.tid these.tid, choice_again e.alt these.choice, these.worker) refl

entry_again : (format : Format) (e : Entry) → is_entry e ≡ true → has_choice format e.alt ≡ true → entry_in format (join_with_byte 32 (entry_line e)) ≡ Some e
entry_again format e is known = ap (λ (o : Option Entry). option_and_then (if_known format) o) (entry_of_again e is) ∙ ap (λ (b : Bool). cond b (Some e) None) known

abbrev at_entry : ℕ → Config → List Entry → List (List ℕ) → List ℕ → Bool → Schedule
at_entry n config entries lines line last =
    cond last (cond (is_end (length entries) line) (ended (n + 1) config entries lines) (Err (n, why.BadEnd)))
    (with_entry n config (length entries) (entry_in config.format line) (λ e. entries_in (n + 1) config (entries ++ e ∷ []) lines))

by_entry_line : (n : ℕ) (config : Config) (entries : List Entry) (words : List (List ℕ)) (lines : List (List (List ℕ))) (last : Bool) → are_plain words ≡ true
    → begins_with (keyword_text keyword.End) (join_with_byte 32 words) ≡ last
    → entries_in n config entries (lines_of (text_of (words ∷ lines))) ≡ at_entry n config entries (lines_of (text_of lines)) (join_with_byte 32 words) last
unfolding entries_in
by_entry_line n config entries words lines last plain is =
    let line = join_with_byte 32 words in
    ap (entries_in n config entries) (line_again words lines plain)
    ∙ ap (λ (l : List ℕ). at_entry n config entries (lines_of (text_of lines)) l (begins (keyword_text keyword.End) l)) (line_unchanged words plain)
    ∙ ap (at_entry n config entries (lines_of (text_of lines)) line) (sym (begins-end line) ∙ is)

end_is_no_number : list_all is_digit (keyword_text keyword.End) ≡ false
unfolding keyword_text
end_is_no_number = refl

entry_read : (n : ℕ) (config : Config) (prefix : List Entry) (e : Entry) (lines : List (List (List ℕ))) → is_entry e ≡ true → is_known config e ≡ true → length prefix < config.budget
    → entries_in n config prefix (lines_of (text_of (entry_line e ∷ lines))) ≡ entries_in (n + 1) config (prefix ++ e ∷ []) (lines_of (text_of lines))
unfolding entry_line
entry_read n config prefix e lines is known within =
    let after = lines_of (text_of lines) in
    let go : Entry → Schedule = λ x. entries_in (n + 1) config (prefix ++ x ∷ []) after in
    by_entry_line n config prefix (entry_line e) lines false (entry_line_plain e)
    (begins_otherwise (keyword_text keyword.End) (decimal e.worker) (decimal e.pid ∷ decimal e.tid ∷ alt_words e.alt) (decimal_plain e.worker) (apart is_digit (decimal e.worker) (keyword_text keyword.End) (digits_of_decimal e.worker) end_is_no_number))
    ∙ ap (λ (o : Option Entry). with_entry n config (length prefix) o go) (entry_again config.format e is known)
    ∙ ap (λ (b : Bool). cond b (go e) (Err (n, why.TooMany))) (lt-ltb (length prefix) config.budget within)

end_again : (n total : ℕ) → n ≡ total → total ≤ 4294967295 → is_end n (join_with_byte 32 (end_line total)) ≡ true
unfolding is_end end_line
end_again n total same few =
    ap (is_end_of_words n) (words_again (keyword_text keyword.End) (decimal total ∷ []) (end_line_plain total))
    ∙ rw (bytes_eq-refl (keyword_text keyword.End), number_again total few) (eq-eqb n total same)

end_read : (n total : ℕ) (config : Config) (prefix : List Entry) → length prefix ≡ total → total ≤ 4294967295 → entries_in n config prefix (lines_of (text_of (end_line total ∷ []))) ≡ Ok (config, prefix)
unfolding end_line
end_read n total config prefix same few =
    let line = join_with_byte 32 (end_line total) in
    by_entry_line n config prefix (end_line total) [] true (end_line_plain total)
    (by_first_word (keyword_text keyword.End) (keyword_text keyword.End) (decimal total) [] (keyword_plain keyword.End) ∙ bytes_eq-refl (keyword_text keyword.End))
    ∙ ap (λ (lines : List (List ℕ)). cond (is_end (length prefix) line) (ended (n + 1) config prefix lines) (Err (n, why.BadEnd))) lines_of-nil
    ∙ ap (λ (b : Bool). cond b (Ok (config, prefix)) (Err (n, why.BadEnd))) (end_again (length prefix) total same few)

entries_again : (total : ℕ) (config : Config) (entries : List Entry) → total ≤ config.budget → total ≤ 4294967295 → list_all is_entry entries ≡ true → list_all (is_known config) entries ≡ true
    → (n : ℕ) (prefix : List Entry) → length prefix + length entries ≡ total
    → entries_in n config prefix (lines_of (text_of (map entry_line entries ++ (end_line total ∷ [])))) ≡ Ok (config, prefix ++ entries)
entries_again total config [] most few all known n prefix same =
    end_read n total config prefix (omega (arith, same)) few ∙ ap (λ (es : List Entry). Ok (config, es)) (sym (append-nil prefix))
entries_again total config (e ∷ entries) most few all known n prefix same =
    let parts = and_parts (is_entry e) (list_all is_entry entries) all in
    let choices = and_parts (is_known config e) (list_all (is_known config) entries) known in
    let more : length (prefix ++ e ∷ []) + length entries ≡ total = omega (arith, length-append prefix (e ∷ []), same) in
    entry_read n config prefix e (map entry_line entries ++ (end_line total ∷ [])) parts.0 choices.0 (omega arith)
    ∙ entries_again total config entries most few parts.1 choices.1 (n + 1) (prefix ++ e ∷ []) more
    ∙ ap (λ (es : List Entry). Ok (config, es)) (append_assoc prefix (e ∷ []) entries)

-- ---- reports

pub schedule_again : (config : Config) (entries : List Entry) → IsSchedule config entries → (n : ℕ) → schedule_in n (lines_of (text_of (schedule_lines config entries))) ≡ Ok (config, entries)
unfolding schedule_lines
schedule_again config entries is n =
    let limits = in_limits config is.config_fits in
    header_found n config (map entry_line entries ++ (end_line (length entries) ∷ [])) is.config_fits
    ∙ entries_again (length entries) config entries is.few (omega (arith, is.few, limits.budget)) is.each is.known (n + 1) [] (omega arith)

grouped : {A : Type 0} (a : A) (bs : List A) (c : A) (ds : List A) → (a ∷ []) ++ bs ++ (c ∷ []) ++ ds ≡ a ∷ (bs ++ (c ∷ ds))
grouped a bs c ds = ap (λ xs. a ∷ xs) (append_assoc bs (c ∷ []) ds)

pub report_again : (script : Script) (config : Config) (events : List Event) (v : Verdict) (entries : List Entry) → IsSchedule config entries
    → sched_of (text_of (report_lines script config events v entries)) ≡ Ok (config, entries)
unfolding report_lines
report_again script config events v entries is =
    let schedule = schedule_lines config entries in
    let encoded = map (event_line script) events in
    by_lines (text_of (report_lines script config events v entries))
    ∙ ap (λ (lines : List (List (List ℕ))). schedule_in 1 (lines_of (text_of lines))) (grouped (title_line config) encoded (verdict_line v) schedule)
    ∙ title_passed 1 config (encoded ++ (verdict_line v ∷ schedule))
    ∙ events_passed script events (verdict_line v ∷ schedule) (Ok (config, entries)) (λ n. verdict_passed n v schedule ∙ schedule_again config entries is (n + 1)) 2

-- ---- runs

choice_fits : (choice : Alt) → IsChoiceWithin 4294967295 choice → is_choice choice ≡ true
choice_fits alt.Go within = refl
choice_fits (alt.Act n) within = le-leb n 4294967295 within
choice_fits (alt.New n) within = le-leb n 4294967295 within
choice_fits (alt.Pick n) within = le-leb n 4294967295 within
choice_fits (alt.Dtor n) within = le-leb n 4294967295 within
choice_fits alt.Expire within = refl

entry_fits : (e : Entry) → IsEntryWithin 4294967295 e → is_entry e ≡ true
entry_fits e within =
    let worker : Bool = nat_le e.worker MAX_WORKER in
    and_from (worker && fits e.pid && fits e.tid) (is_choice e.alt)
    (and_from (worker && fits e.pid) (fits e.tid) (and_from worker (fits e.pid) (le-leb e.worker MAX_WORKER within.worker) (le-leb e.pid 4294967295 within.pid)) (le-leb e.tid 4294967295 within.tid))
    (choice_fits e.alt within.choice)

entries_fit : (entries : List Entry) → All (IsEntryWithin 4294967295) entries → list_all is_entry entries ≡ true
entries_fit [] all = refl
entries_fit (e ∷ entries) all =
    and_from (is_entry e) (list_all is_entry entries) (entry_fits e (All-head (IsEntryWithin 4294967295) e entries all)) (entries_fit entries (All-tail (IsEntryWithin 4294967295) e entries all))

-- the entries of a run are a schedule
pub run_is_schedule : (script : Script) (config : Config) (entries : List Entry) (after : Run) → run script config entries ≡ Some after → IsSchedule config entries
run_is_schedule script config entries after is =
    let parts = run_parts script config entries after is in
    record { config_fits = parts.limits; few = parts.within; each = entries_fit entries (run_numbers_fit script config entries after is); known = run_known script config entries after is }

by_run : (script : Script) (config : Config) (entries : List Entry) (text : List ℕ) (o : Option Run) → run script config entries ≡ o → option_map (report_of script config entries) o ≡ Some text → sched_of text ≡ Ok (config, entries)
by_run script config entries text None ran e = absurd cc
by_run script config entries text (Some r) ran e =
    ap sched_of (sym (same_Some (report_of script config entries r) text e))
    ∙ report_again script config (reverse r.events) (verdict_of script config r.world (length entries)) entries (run_is_schedule script config entries r ran)

-- the schedule of a run is read back from the run's report
pub report_is_read_back : (script : Script) (config : Config) (entries : List Entry) (text : List ℕ) → report script config entries ≡ Some text → sched_of text ≡ Ok (config, entries)
unfolding report
report_is_read_back script config entries text e = by_run script config entries text (run script config entries) refl e
