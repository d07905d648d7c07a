-- A report is read.
use Rattle.pct_names.proofs.Names.{◌≡◌, ℕ, ◌+◌, Bool, true, false, cond, List, [], ◌∷◌, ◌++◌, length, map, Err, Ok, Option, All, All-head, All-tail}
use Rattle.pct_names.proofs.Names.{ap, arith, Config, Entry, Event, event_line, Format, join_with_byte, lines_of, refl, report_lines, schedule_lines, Script, strip_cr}
use Rattle.pct_names.proofs.Names.{text_of, title_line, Verdict, verdict_line, words_of, ◌∙◌}
use Rattle.std.proofs.Common.{append_assoc}
use Rattle.pct_schedule.specs.Schedules.{IsSchedule}
use Rattle.pct_schedule_laws.proofs.PlainLines.{event_line_plain, title_line_plain, verdict_line_plain}
use Rattle.pct_schedule_laws.proofs.ReadBack.{line_again, line_unchanged}
use Rattle.pct_report_reader.specs.declared.fault.ReportWhy.TheVariants as why
use Rattle.pct_report_reader.specs.EventWords.{event_words_in}
use Rattle.pct_report_reader.specs.Reading.{Read, ReadBody, begins_verdict, body_from, body_in, body_of, config_with, event_lines, event_lines_after_title, event_lines_from, is_event, is_verdict, report_in, schedule_after, span_of, with_lines}
use Rattle.pct_event_lines.proofs.EventsAgain.{HasText}
use Rattle.pct_report_laws.specs.ReportsRead.{IsReadAs}
use Rattle.pct_report_laws.proofs.EventLineReads.{event_begins, event_bytes, event_is_event, event_words_again}
use Rattle.pct_report_laws.proofs.OtherLineReads.{schedule_read, title_again, verdict_begins, verdict_is_verdict}

module _ (script : Script) (v : Verdict) (rest : List (List (List ℕ))) where
  -- the lines of the text of events, a verdict and other lines
  abbrev lines_from : List Event → List (List ℕ)
  lines_from events = lines_of (text_of (map (event_line script) events ++ (verdict_line v ∷ rest)))

  abbrev verdict_bytes : List ℕ
  verdict_bytes = join_with_byte 32 (verdict_line v)

  -- a line of a text, without its CR
  abbrev stripped : List (List ℕ) → List (List ℕ)
  stripped lines = map strip_cr lines

  abbrev after : List (List ℕ)
  after = lines_of (text_of rest)

  first_event : (e : Event) (events : List Event) → lines_from (e ∷ events) ≡ event_bytes script e ∷ lines_from events
  first_event e events = line_again (event_line script e) (map (event_line script) events ++ (verdict_line v ∷ rest)) (event_line_plain script e)

  first_verdict : lines_from [] ≡ verdict_bytes ∷ after
  first_verdict = line_again (verdict_line v) rest (verdict_line_plain v)

  -- ---- the body

  abbrev body_line : Format → ℕ → List ℕ → List (List ℕ) → (begins is_one is_other : Bool) → Read ReadBody
  body_line f n line lines begins is_one is_other =
      cond begins (cond is_one (Ok (record { format = f; number = n; after = lines })) (Err (n, why.BadVerdict)))
      (cond is_other (body_from f (n + 1) lines) (Err (n, why.BadEvent)))

  body_at : (f : Format) (n : ℕ) (line : List ℕ) (lines : List (List ℕ)) → body_from f n (line ∷ lines) ≡ body_line f n line lines (begins_verdict line) (is_verdict line) (is_event line)
  unfolding body_from
  body_at f n line lines = refl

  body_again : (f : Format) (n : ℕ) (events : List Event) → All (HasText script) events
      → body_from f n (stripped (lines_from events)) ≡ Ok (record { format = f; number = n + length events; after = stripped after })
  body_again f n [] texts =
      ap (λ (lines : List (List ℕ)). body_from f n (stripped lines)) first_verdict
      ∙ ap (λ (line : List ℕ). body_from f n (line ∷ stripped after)) (line_unchanged (verdict_line v) (verdict_line_plain v))
      ∙ body_at f n verdict_bytes (stripped after)
      ∙ ap (λ (t : Bool). body_line f n verdict_bytes (stripped after) t (is_verdict verdict_bytes) (is_event verdict_bytes)) (verdict_begins v)
      ∙ ap (λ (t : Bool). body_line f n verdict_bytes (stripped after) true t (is_event verdict_bytes)) (verdict_is_verdict v)
      ∙ ap (λ (number : ℕ). Ok (record { format = f; number = number; after = stripped after })) (omega arith)
  body_again f n (e ∷ events) texts =
      let text = All-head (HasText script) e events texts in
      let line = event_bytes script e in
      let lines = stripped (lines_from events) in
      ap (λ (ls : List (List ℕ)). body_from f n (stripped ls)) (first_event e events)
      ∙ ap (λ (l : List ℕ). body_from f n (l ∷ lines)) (line_unchanged (event_line script e) (event_line_plain script e))
      ∙ body_at f n line lines
      ∙ ap (λ (t : Bool). body_line f n line lines t (is_verdict line) (is_event line)) (event_begins script e text)
      ∙ ap (λ (t : Bool). body_line f n line lines false (is_verdict line) t) (event_is_event script e text)
      ∙ body_again f (n + 1) events (All-tail (HasText script) e events texts)
      ∙ ap (λ (number : ℕ). Ok (record { format = f; number = number; after = stripped after })) (omega arith)

  -- ---- event lines

  abbrev words_from : List (ℕ × List ℕ) → List (List (List ℕ))
  words_from lines = map (λ (line : ℕ × List ℕ). words_of line.1) lines

  abbrev event_line_at : ℕ → List ℕ → ℕ → List (List ℕ) → Bool → List (ℕ × List ℕ)
  event_line_at offset line next lines begins = cond begins [] ((offset, line) ∷ event_lines_from next lines)

  lines_at : (offset : ℕ) (line : List ℕ) (lines : List (List ℕ))
      → event_lines_from offset (line ∷ lines) ≡ event_line_at offset (strip_cr line) (offset + length line + 1) lines (begins_verdict (strip_cr line))
  unfolding event_lines_from
  lines_at offset line lines = refl

  words_found : (offset : ℕ) (events : List Event) → All (HasText script) events → words_from (event_lines_from offset (lines_from events)) ≡ map (event_line script) events
  words_found offset [] texts =
      let next = offset + length verdict_bytes + 1 in
      ap words_from (ap (event_lines_from offset) first_verdict ∙ lines_at offset verdict_bytes after
      ∙ ap (λ (l : List ℕ). event_line_at offset l next after (begins_verdict l)) (line_unchanged (verdict_line v) (verdict_line_plain v))
      ∙ ap (event_line_at offset verdict_bytes next after) (verdict_begins v))
  words_found offset (e ∷ events) texts =
      let line = event_bytes script e in
      let next = offset + length line + 1 in
      let lines = lines_from events in
      ap words_from (ap (event_lines_from offset) (first_event e events) ∙ lines_at offset line lines
      ∙ ap (λ (l : List ℕ). event_line_at offset l next lines (begins_verdict l)) (line_unchanged (event_line script e) (event_line_plain script e))
      ∙ ap (event_line_at offset line next lines) (event_begins script e (All-head (HasText script) e events texts)))
      ∙ ap (λ (words : List (List ℕ)). words ∷ words_from (event_lines_from next lines)) (event_words_again script e)
      ∙ ap (λ (others : List (List (List ℕ))). event_line script e ∷ others) (words_found next events (All-tail (HasText script) e events texts))

-- ---- reports

grouped : {A : Type 0} (a : A) (bs : List A) (c : A) (ds : List A) → (a ∷ []) ++ bs ++ (c ∷ []) ++ ds ≡ a ∷ (bs ++ (c ∷ ds))
grouped a bs c ds = ap (λ xs. a ∷ xs) (append_assoc bs (c ∷ []) ds)

module _ (script : Script) (config : Config) (events : List Event) (v : Verdict) (entries : List Entry) where
  abbrev text : List ℕ
  text = text_of (report_lines script config events v entries)

  abbrev schedule : List (List (List ℕ))
  schedule = schedule_lines config entries

  abbrev title : List ℕ
  title = join_with_byte 32 (title_line config)

  lines_again : lines_of text ≡ title ∷ lines_from script v schedule events
  unfolding report_lines
  lines_again =
      ap (λ (lines : List (List (List ℕ))). lines_of (text_of lines)) (grouped (title_line config) (map (event_line script) events) (verdict_line v) schedule)
      ∙ line_again (title_line config) (map (event_line script) events ++ (verdict_line v ∷ schedule)) (title_line_plain config)

  body_is : All (HasText script) events
      → body_in (map strip_cr (lines_of text)) ≡ Ok (record { format = config.format; number = 2 + length events; after = map strip_cr (lines_of (text_of schedule)) })
  unfolding body_in
  body_is texts =
      let rest = map strip_cr (lines_from script v schedule events) in
      ap (λ (lines : List (List ℕ)). body_in (map strip_cr lines)) lines_again
      ∙ ap (λ (line : List ℕ). body_in (line ∷ rest)) (line_unchanged (title_line config) (title_line_plain config))
      ∙ ap (λ (f : Option Format). body_of f rest) (title_again config)
      ∙ body_again script v schedule config.format 2 events texts

  words_are : All (HasText script) events → event_words_in text ≡ map (event_line script) events
  unfolding event_lines
  words_are texts =
      ap (λ (lines : List (List ℕ)). map (λ (line : ℕ × List ℕ). words_of line.1) (event_lines_after_title lines)) lines_again
      ∙ words_found script v schedule (length title + 1) events texts

  report_from : (body : ReadBody) → body_in (map strip_cr (lines_of text)) ≡ Ok body → schedule_after body.format body.number body.after ≡ Ok config
      → report_in text ≡ Ok (config, map span_of (event_lines text))
  unfolding report_in
  report_from body is read =
      ap (λ (b : Read ReadBody). with_lines (event_lines text) (config_with b)) is ∙ ap (with_lines (event_lines text)) read

  pub report_is_read : IsSchedule config entries → All (HasText script) events → IsReadAs script config events text
  report_is_read is texts =
      let after = map strip_cr (lines_of (text_of schedule)) in
      let n = 2 + length events in
      record {
        report = report_from (record { format = config.format; number = n; after = after }) (body_is texts) (schedule_read config entries n is);
        words = words_are texts;
      }
