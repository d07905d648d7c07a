-- The greatest size of a schedule's text.
use Rattle.pct_names.proofs.Names.{◌*◌, ◌+◌, ◌++◌, [], Alt, alt_words, and_parts, ap, arith, Config, decimal, end_line, Entry, entry_line}
use Rattle.pct_names.proofs.Names.{flat_map, flat_map-cons, Format, format_number, header_line, join_with_byte, keyword_text, length}
use Rattle.pct_names.proofs.Names.{length-decimal-le, line_text, List, list_all, schedule_lines, text_of, true, ℕ, ◌∙◌, ◌∷◌, ◌≡◌, ◌≤◌}
use Rattle.std.proofs.Common.{leb-true, length-append}
use Rattle.pct_model.specs.declared.schedule.Alt.TheVariants as alt
use Rattle.pct_model.specs.declared.schedule.Format.TheVariants as format
use Rattle.pct_schedule.specs.Schedules.{is_choice, is_entry, IsSchedule}
use Rattle.pct_schedule_laws.proofs.ReadBack.{InLimits, in_limits, FitsEntry, fits_entry}
use Rattle.pct_schedule.proofs.ScheduleTexts.{schedule-text}

-- ---- words

-- the bytes of words, with one more byte for each word and one for the line
unfoldable pub words_size : List (List ℕ) → ℕ
words_size [] = 1
words_size (w ∷ words) = length w + 1 + words_size words

joined_size : (words : List (List ℕ)) → length (join_with_byte 32 words) + 1 ≤ words_size words
unfolding words_size
joined_size [] = omega arith
joined_size (w ∷ []) = omega arith
joined_size (w ∷ next ∷ words) = omega (arith, length-append w (32 ∷ join_with_byte 32 (next ∷ words)), joined_size (next ∷ words))

pub line_size : (words : List (List ℕ)) → length (line_text words) ≤ words_size words
line_size words = omega (arith, length-append (join_with_byte 32 words) (10 ∷ []), joined_size words)

-- a number of 32 bits has at most 10 digits
pub number_size : (n : ℕ) → n ≤ 4294967295 → length (decimal n) ≤ 10
number_size n fits = length-decimal-le 10 n (omega arith) (omega arith) (omega arith)

-- ---- schedules

alt_size : (a : Alt) → is_choice a ≡ true → words_size (alt_words a) ≤ 17
unfolding words_size alt_words keyword_text
alt_size alt.Go is = omega arith
alt_size (alt.Act n) is = omega (arith, number_size n (leb-true n 4294967295 is))
alt_size (alt.New n) is = omega (arith, number_size n (leb-true n 4294967295 is))
alt_size (alt.Pick n) is = omega (arith, number_size n (leb-true n 4294967295 is))
alt_size (alt.Dtor n) is = omega (arith, number_size n (leb-true n 4294967295 is))
alt_size alt.Expire is = omega arith

entry_words_size : (e : Entry) → FitsEntry e → words_size (entry_line e) ≤ 50
unfolding words_size entry_line
entry_words_size e is =
    let few : e.worker ≤ 16 = leb-true e.worker 16 is.worker in
    omega (arith, number_size e.worker (omega arith), number_size e.pid is.pid, number_size e.tid is.tid, alt_size e.alt is.choice)

entry_size : (e : Entry) → is_entry e ≡ true → length (line_text (entry_line e)) ≤ 50
entry_size e is = omega (arith, line_size (entry_line e), entry_words_size e (fits_entry e is))

entries_size : (entries : List Entry) → list_all is_entry entries ≡ true → length (flat_map (λ e. line_text (entry_line e)) entries) ≤ 50 * length entries
entries_size [] all = omega arith
entries_size (e ∷ entries) all =
    let parts = and_parts (is_entry e) (list_all is_entry entries) all in
    let text : Entry → List ℕ = λ x. line_text (entry_line x) in
    let whole : length (flat_map text (e ∷ entries)) ≡ length (text e) + length (flat_map text entries) = ap length (flat_map-cons text e entries) ∙ length-append (text e) (flat_map text entries) in
    omega (arith, whole, entry_size e parts.0, entries_size entries parts.1)

format_fits : (format : Format) → format_number format ≤ 4294967295
format_fits format.One = omega arith
format_fits format.Two = omega arith

header_words_size : (c : Config) → InLimits c → words_size (header_line c) ≤ 54
unfolding words_size header_line keyword_text
header_words_size c limits =
    omega (arith, number_size (format_number c.format) (format_fits c.format), number_size c.budget (omega (arith, limits.budget)), number_size c.passes (omega (arith, limits.passes)), number_size c.slots (omega (arith, limits.slots)))

end_words_size : (n : ℕ) → n ≤ 4294967295 → words_size (end_line n) ≤ 16
unfolding words_size end_line keyword_text
end_words_size n fits = omega (arith, number_size n fits)

-- the text of a schedule has at most 10,000,070 bytes
pub schedule_size : (config : Config) (entries : List Entry) → IsSchedule config entries → length (text_of (schedule_lines config entries)) ≤ 10000070
schedule_size config entries is =
    let limits = in_limits config is.config_fits in
    let header = line_text (header_line config) in
    let middle = flat_map (λ e. line_text (entry_line e)) entries in
    let last = line_text (end_line (length entries)) in
    let few : length entries ≤ 200000 = omega (arith, is.few, limits.budget) in
    let whole : length (text_of (schedule_lines config entries)) ≡ length header + (length middle + length last) =
    ap length (schedule-text config entries) ∙ length-append header (middle ++ last) ∙ ap (λ n. length header + n) (length-append middle last) in
    let first : length header ≤ 54 = omega (arith, line_size (header_line config), header_words_size config limits) in
    let ends : length last ≤ 16 = omega (arith, line_size (end_line (length entries)), end_words_size (length entries) (omega arith)) in
    omega (arith, whole, first, ends, few, entries_size entries is.each)
