-- The other lines of a report are read: its title, its verdict, and its schedule.
use Rattle.pct_names.proofs.Names.{◌≡◌, ℕ, ◌+◌, cond, Err, Bool, true, ◌&&◌, List, [], ◌∷◌, ◌++◌, map, Some, Ok, Config, Entry, Format, Verdict, Why}
use Rattle.pct_names.proofs.Names.{ap, decimal, digits, entry_line, end_line, format_number, header_line, join_with_byte, keyword_text, length, lines_of, list_any, refl}
use Rattle.pct_names.proofs.Names.{sched_of, schedule_lines, stop_words, strip_cr, text_of, title_line, verdict_line, verdict_words, ◌∙◌}
use Rattle.pct_model.specs.declared.keyword.Keyword.TheVariants as keyword
use Rattle.pct_model.specs.declared.schedule.Format.TheVariants as format
use Rattle.pct_model.specs.declared.stop.Verdict.TheVariants as verdict
use Rattle.pct_model.specs.declared.stop.Why.TheVariants as why
use Rattle.pct_model.proofs.Bytes.{bytes_eq-refl}
use Rattle.pct_schedule.specs.Schedules.{IsSchedule}
use Rattle.pct_schedule.proofs.ByEntries.{by_lines}
use Rattle.pct_schedule_laws.proofs.PlainLines.{header_line_plain, verdict_line_plain}
use Rattle.pct_schedule_laws.proofs.ReadBack.{line_again, line_unchanged, schedule_again, words_again}
use Rattle.pct_report_reader.specs.declared.fault.ReportWhy.TheVariants as report_why
use Rattle.pct_report_reader.specs.Reading.{begins_schedule, begins_verdict, config_after, format_of_title, is_verdict, is_verdict_of_words, schedule_after, schedule_follows}
use Rattle.pct_report_reader.specs.Texts.{are_words, has_form, is_stop, is_word, verdict_forms}

-- ---- the title

title_by_format : (f : Format) → format_of_title (join_with_byte 32 (keyword_text keyword.Report ∷ decimal (format_number f) ∷ [])) ≡ Some f
unfolding keyword_text digits
title_by_format format.One = refl
title_by_format format.Two = refl

pub title_again : (c : Config) → format_of_title (join_with_byte 32 (title_line c)) ≡ Some c.format
unfolding title_line
title_again c = title_by_format c.format

-- ---- the verdict

pub verdict_begins : (v : Verdict) → begins_verdict (join_with_byte 32 (verdict_line v)) ≡ true
unfolding verdict_line keyword_text verdict_words stop_words
verdict_begins verdict.Complete = refl
verdict_begins verdict.Deadlock = refl
verdict_begins verdict.Budget = refl
verdict_begins verdict.Open = refl
verdict_begins (verdict.Undefined w) = refl

stop_is_verdict : (w : Why) → list_any (has_form (stop_words w)) verdict_forms ≡ true
unfolding stop_words verdict_forms keyword_text are_words is_word is_stop
stop_is_verdict why.ForkChildCall = refl
stop_is_verdict why.AsyncCall = refl
stop_is_verdict why.EnableInHandler = refl
stop_is_verdict why.ExitInEnding = refl
stop_is_verdict why.ThreadId = refl
stop_is_verdict why.JoinSelf = refl
stop_is_verdict why.NotJoinable = refl
stop_is_verdict why.JoinTwice = refl
stop_is_verdict why.DetachJoined = refl
stop_is_verdict why.KeyId = refl
stop_is_verdict why.NotOwner = refl
stop_is_verdict why.CondTwoMutexes = refl
stop_is_verdict why.ExitTwice = refl
stop_is_verdict why.ForkInEnding = refl
stop_is_verdict why.StackFull = refl
stop_is_verdict why.CleanupFull = refl

verdict_has_form : (v : Verdict) → list_any (has_form (verdict_words v)) verdict_forms ≡ true
unfolding verdict_words verdict_forms keyword_text are_words
verdict_has_form verdict.Complete = refl
verdict_has_form verdict.Deadlock = refl
verdict_has_form verdict.Budget = refl
verdict_has_form verdict.Open = refl
verdict_has_form (verdict.Undefined w) = stop_is_verdict w

pub verdict_is_verdict : (v : Verdict) → is_verdict (join_with_byte 32 (verdict_line v)) ≡ true
unfolding is_verdict verdict_line
verdict_is_verdict v =
    ap is_verdict_of_words (words_again (keyword_text keyword.Verdict) (verdict_words v) (verdict_line_plain v))
    ∙ ap (λ (t : Bool). t && list_any (has_form (verdict_words v)) verdict_forms) (bytes_eq-refl (keyword_text keyword.Verdict)) ∙ verdict_has_form v

-- ---- the schedule

header_begins : (f : Format) (rest : List ℕ) → begins_schedule f (keyword_text keyword.Schedule ++ 32 ∷ (decimal (format_number f) ++ 32 ∷ rest)) ≡ true
unfolding keyword_text digits
header_begins format.One rest = refl
header_begins format.Two rest = refl

schedule_follows_it : (config : Config) (entries : List Entry) → schedule_follows config.format (map strip_cr (lines_of (text_of (schedule_lines config entries)))) ≡ true
unfolding schedule_lines header_line
schedule_follows_it config entries =
    let first = header_line config in
    let rest = map entry_line entries ++ (end_line (length entries) ∷ []) in
    ap (λ (lines : List (List ℕ)). schedule_follows config.format (map strip_cr lines)) (line_again first rest (header_line_plain config))
    ∙ ap (begins_schedule config.format) (line_unchanged first (header_line_plain config))
    ∙ header_begins config.format (join_with_byte 32 (decimal config.budget ∷ decimal config.passes ∷ decimal config.slots ∷ []))

pub schedule_read : (config : Config) (entries : List Entry) (n : ℕ) → IsSchedule config entries
    → schedule_after config.format n (map strip_cr (lines_of (text_of (schedule_lines config entries)))) ≡ Ok config
unfolding sched_of
schedule_read config entries n is =
    let text = text_of (schedule_lines config entries) in
    ap (λ (t : Bool). cond t (config_after n (sched_of text)) (Err (n + 1, report_why.BadSchedule))) (schedule_follows_it config entries)
    ∙ ap (config_after n) (by_lines text ∙ schedule_again config entries is 1)
