-- The line of an event has the form of an event, and it does not begin as a verdict.
use Rattle.pct_names.proofs.Names.{◌≡◌, ℕ, ◌<◌, Bool, true, false, ◌&&◌, List, [], ◌∷◌, ◌++◌, length, is_some}
use Rattle.pct_names.proofs.Names.{and_parts, ap, arith, codes, decimal, decimal_nonempty, Event, event_line, event_names, event_words, is_digit, join_with_byte, keyword_text, list_all, nat_eq, nat_le}
use Rattle.pct_names.proofs.Names.{refl, Script, thread_text, words_of, ◌∙◌}
use Rattle.std.proofs.Common.{ne_eqb, leb-true}
use Rattle.pct_model.specs.Schedule.{begins}
use Rattle.pct_text.proofs.Numbers.{digits_of_decimal}
use Rattle.pct_name_numbers.specs.EventReading.{Reading, no_names}
use Rattle.pct_report_reader.specs.Reading.{begins_verdict, is_event, is_event_of_words}
use Rattle.pct_schedule_laws.proofs.PlainLines.{event_line_plain}
use Rattle.pct_schedule_laws.proofs.ReadBack.{words_again}
use Rattle.pct_event_forms.proofs.EventsRead.{event_read}
use Rattle.pct_event_bounds.specs.EventNumbers.{Fits}
use Rattle.pct_event_lines.proofs.NamesRead.{after}
use Rattle.pct_event_lines.proofs.EventsAgain.{HasText, all-refl, line_again}

-- ---- the first byte

-- bytes that begin with a digit
abbrev BeginsWithDigit : List ℕ → Type 0
BeginsWithDigit bytes = (b : ℕ) × (rest : List ℕ) × (bytes ≡ b ∷ rest) × (is_digit b ≡ true)

digits_first : (digits after : List ℕ) → 0 < length digits → list_all is_digit digits ≡ true → BeginsWithDigit (digits ++ after)
digits_first [] after some all = absurd (omega (arith, some))
digits_first (b ∷ digits) after some all = (b, digits ++ after, refl, (and_parts (is_digit b) (list_all is_digit digits) all).0)

thread_first : (pid tid : ℕ) → Fits pid → BeginsWithDigit (thread_text pid tid)
unfolding thread_text
thread_first pid tid fits = digits_first (decimal pid) (46 ∷ decimal tid) (decimal_nonempty pid (omega (arith, fits))) (digits_of_decimal pid)

line_first : (first : List ℕ) (words : List (List ℕ)) → BeginsWithDigit first → BeginsWithDigit (join_with_byte 32 (first ∷ words))
line_first first [] digit = digit
line_first first (next ∷ words) digit =
    (digit.0, digit.1 ++ 32 ∷ join_with_byte 32 (next ∷ words), ap (λ (bytes : List ℕ). bytes ++ 32 ∷ join_with_byte 32 (next ∷ words)) digit.2, digit.3)

letter_apart : (b : ℕ) → is_digit b ≡ true → nat_eq 118 b ≡ false
letter_apart b digit =
    let high = leb-true b 57 (and_parts (nat_le 48 b) (nat_le b 57) digit).1 in
    ne_eqb 118 b (omega (arith, high))

begins_apart : (c b : ℕ) (cs bs : List ℕ) → nat_eq c b ≡ false → begins (c ∷ cs) (b ∷ bs) ≡ false
begins_apart c b cs bs apart = ap (λ (t : Bool). t && begins cs bs) apart

no_verdict : (bytes : List ℕ) → BeginsWithDigit bytes → begins_verdict bytes ≡ false
unfolding keyword_text
no_verdict bytes digit = ap begins_verdict digit.2 ∙ begins_apart 118 digit.0 (codes "erdict") digit.1 (letter_apart digit.0 digit.3)

-- ---- event lines

-- the bytes of an event's line
abbrev pub event_bytes : Script → Event → List ℕ
event_bytes script e = join_with_byte 32 (event_line script e)

pub event_begins : (script : Script) (e : Event) → HasText script e → begins_verdict (event_bytes script e) ≡ false
unfolding event_line
event_begins script e text =
    no_verdict (event_bytes script e) (line_first (thread_text e.pid e.tid) (event_words (event_names script) e.what) (thread_first e.pid e.tid text.1.pid))

pub event_words_again : (script : Script) (e : Event) → words_of (event_bytes script e) ≡ event_line script e
unfolding event_line
event_words_again script e = words_again (thread_text e.pid e.tid) (event_words (event_names script) e.what) (event_line_plain script e)

pub event_is_event : (script : Script) (e : Event) → HasText script e → is_event (event_bytes script e) ≡ true
unfolding is_event
event_is_event script e text =
    let names = after (event_names script) no_names e.what in
    ap is_event_of_words (event_words_again script e) ∙ event_read no_names (event_line script e)
    ∙ ap (λ (read : Reading Event). is_some read) (line_again script no_names names e text (all-refl names))
