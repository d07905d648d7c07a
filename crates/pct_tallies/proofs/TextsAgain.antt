-- The text of tallies is read as these tallies.
use Rattle.std.proofs.Common.{◌≡◌, ℕ, zero, suc, ◌+◌, ◌<◌, ◌≤◌, Bool, true, false, ◌&&◌, ◌||◌, List, [], ◌∷◌, ◌++◌, None, append_assoc, ap, arith, length, length-append, map, nat_eq, nat_le, refl, sym, subst, ◌∙◌, true≢false}
use Rattle.std.proofs.Common.{le-leb, leb-true}
use Rattle.std.specs.Prelude.{Ok, codes, decimal, flat_map, if◌then◌else◌}
use Rattle.std.specs.List.{list_all}
use Rattle.std.proofs.lemmas.Grind.{flat_map-append}
use Rattle.pct_names.proofs.Names.{and_parts, is_digit}
use Rattle.pct_model.specs.declared.keyword.Keyword.{Keyword}
use Rattle.pct_model.specs.declared.keyword.Keyword.TheVariants as keyword
use Rattle.pct_model.specs.declared.stop.Why.{Why}
use Rattle.pct_model.specs.declared.stop.Why.TheVariants as why
use Rattle.pct_model.specs.Keywords.{keyword_text, line_text, text_of}
use Rattle.pct_model.specs.Lines.{lines_of, split_once, strip_cr}
use Rattle.pct_model.specs.StopTexts.{class_of_stop, name_of_stop, stop_words}
use Rattle.pct_text.proofs.Lines.{lines_of-line, lines_of-nil, strip_cr-lacks}
use Rattle.pct_text.proofs.Numbers.{digits_of_decimal}
use Rattle.pct_text.proofs.SplitOnce.{lacks_other}
use Rattle.pct_tallies.specs.declared.count.Count.{Count}
use Rattle.pct_tallies.specs.declared.count.StopCount.{StopCount}
use Rattle.pct_tallies.specs.declared.range_tally.RangeTally.{RangeTally}
use Rattle.pct_tallies.specs.declared.tally.Tally.{Tally}
use Rattle.pct_tallies.specs.Readings.{if_some, is_digest, is_hex, lines_in, tallies_from, tallies_in}
use Rattle.pct_tallies.specs.TallyTexts.{count_lines, count_words, number_line, range_lines, stop_line, subject_lines, total_lines, verdict_count_line, verdict_lines}
use Rattle.pct_tallies.specs.TextLaws.{AreWritable, IsWritable, SpelledIsRead, placed_from}
use Rattle.pct_tallies.proofs.TalliesAgain.{all_again, bytes_of}

-- ---- bytes that are a blank or above

abbrev is_shown : ℕ → Bool
is_shown b = nat_le 32 b

abbrev AreShown : List ℕ → Type 0
AreShown word = list_all is_shown word ≡ true

shown_append : (a b : List ℕ) → AreShown a → AreShown b → AreShown (a ++ b)
shown_append [] b h i = i
shown_append (x ∷ a) b h i =
    let parts = and_parts (is_shown x) (list_all is_shown a) h in
    rw (parts.0, shown_append a b parts.1 i) refl

-- the words of a line
abbrev WordsShown : List (List ℕ) → Type 0
WordsShown words = list_all (list_all is_shown) words ≡ true

line_shown : (words : List (List ℕ)) → WordsShown words → AreShown (bytes_of words)
line_shown [] h = refl
line_shown (a ∷ []) h = (and_parts (list_all is_shown a) true h).0
line_shown (a ∷ b ∷ words) h =
    let parts = and_parts (list_all is_shown a) (list_all (list_all is_shown) (b ∷ words)) h in
    shown_append a (32 ∷ bytes_of (b ∷ words)) parts.0 (line_shown (b ∷ words) parts.1)

weaker : (p : ℕ → Bool) → ((b : ℕ) → p b ≡ true → is_shown b ≡ true) → (word : List ℕ) → list_all p word ≡ true → AreShown word
weaker p h [] all = refl
weaker p h (b ∷ word) all =
    let parts = and_parts (p b) (list_all p word) all in
    rw (h b parts.0, weaker p h word parts.1) refl

digit_shown : (b : ℕ) → is_digit b ≡ true → is_shown b ≡ true
digit_shown b h = let parts = and_parts (nat_le 48 b) (nat_le b 57) h in le-leb 32 b (omega (arith, leb-true 48 b parts.0))

decimal_shown : (n : ℕ) → AreShown (decimal n)
decimal_shown n = weaker is_digit digit_shown (decimal n) (digits_of_decimal n)

hex_shown : (b : ℕ) → is_hex b ≡ true → is_shown b ≡ true
hex_shown b h = by_digit (nat_le 48 b && nat_le b 57) refl
  where
    by_digit : (t : Bool) → (nat_le 48 b && nat_le b 57) ≡ t → is_shown b ≡ true
    by_digit true is = digit_shown b is
    by_digit false is =
        let letter : (nat_le 97 b && nat_le b 102) ≡ true = rw is at h in
        let parts = and_parts (nat_le 97 b) (nat_le b 102) letter in
        le-leb 32 b (omega (arith, leb-true 97 b parts.0))

-- ---- the lines of a text

abbrev LinesShown : List (List (List ℕ)) → Type 0
LinesShown lines = list_all (list_all (list_all is_shown)) lines ≡ true

lines_again : (lines : List (List (List ℕ))) → LinesShown lines → lines_in (text_of lines) ≡ map bytes_of lines
lines_again [] h = ap (map strip_cr) lines_of-nil
lines_again (words ∷ lines) h =
    let parts = and_parts (list_all (list_all is_shown) words) (list_all (list_all (list_all is_shown)) lines) h in
    let line = bytes_of words in
    let shown = line_shown words parts.0 in
    let no_lf : split_once 10 line ≡ None = lacks_other is_shown 10 line refl shown in
    let no_cr : split_once 13 line ≡ None = lacks_other is_shown 13 line refl shown in
    ap (map strip_cr) (ap lines_of (append_assoc line (10 ∷ []) (text_of lines)) ∙ lines_of-line line (text_of lines) no_lf)
    ∙ (λ i. strip_cr-lacks line no_cr i ∷ lines_again lines parts.1 i)

-- ---- the lines of a tally

all_append : {X : Type 0} (p : X → Bool) (xs ys : List X) → list_all p xs ≡ true → list_all p ys ≡ true → list_all p (xs ++ ys) ≡ true
all_append p [] ys h i = i
all_append p (x ∷ xs) ys h i =
    let parts = and_parts (p x) (list_all p xs) h in
    rw (parts.0, all_append p xs ys parts.1 i) refl

two_shown : (a b : List ℕ) → AreShown a → AreShown b → WordsShown (a ∷ b ∷ [])
two_shown a b h i = rw (h, i) refl

four_shown : (a b c d : List ℕ) → AreShown a → AreShown b → AreShown c → AreShown d → WordsShown (a ∷ b ∷ c ∷ d ∷ [])
four_shown a b c d h i j k = rw (h, i, j, k) refl

script_shown : AreShown (keyword_text keyword.Script)
unfolding keyword_text
script_shown = refl

first_shown : AreShown (keyword_text keyword.First)
unfolding keyword_text
first_shown = refl

complete_shown : AreShown (keyword_text keyword.Complete)
unfolding keyword_text
complete_shown = refl

deadlock_shown : AreShown (keyword_text keyword.Deadlock)
unfolding keyword_text
deadlock_shown = refl

budget_shown : AreShown (keyword_text keyword.Budget)
unfolding keyword_text
budget_shown = refl

joined_shown : AreShown (keyword_text keyword.Joined)
unfolding keyword_text
joined_shown = refl

canceled_shown : AreShown (keyword_text keyword.Canceled)
unfolding keyword_text
canceled_shown = refl

least_shown : AreShown (keyword_text keyword.Least)
unfolding keyword_text
least_shown = refl

most_shown : AreShown (keyword_text keyword.Most)
unfolding keyword_text
most_shown = refl

class_shown : (w : Why) → AreShown (keyword_text (class_of_stop w))
unfolding keyword_text
class_shown why.ForkChildCall = refl
class_shown why.AsyncCall = refl
class_shown why.EnableInHandler = refl
class_shown why.ExitInEnding = refl
class_shown why.ThreadId = refl
class_shown why.JoinSelf = refl
class_shown why.NotJoinable = refl
class_shown why.JoinTwice = refl
class_shown why.DetachJoined = refl
class_shown why.KeyId = refl
class_shown why.NotOwner = refl
class_shown why.CondTwoMutexes = refl
class_shown why.ExitTwice = refl
class_shown why.ForkInEnding = refl
class_shown why.StackFull = refl
class_shown why.CleanupFull = refl

name_shown : (w : Why) → AreShown (keyword_text (name_of_stop w))
unfolding keyword_text
name_shown why.ForkChildCall = refl
name_shown why.AsyncCall = refl
name_shown why.EnableInHandler = refl
name_shown why.ExitInEnding = refl
name_shown why.ThreadId = refl
name_shown why.JoinSelf = refl
name_shown why.NotJoinable = refl
name_shown why.JoinTwice = refl
name_shown why.DetachJoined = refl
name_shown why.KeyId = refl
name_shown why.NotOwner = refl
name_shown why.CondTwoMutexes = refl
name_shown why.ExitTwice = refl
name_shown why.ForkInEnding = refl
name_shown why.StackFull = refl
name_shown why.CleanupFull = refl

number_shown : (k : Keyword) (n : ℕ) → AreShown (keyword_text k) → WordsShown (number_line k n)
number_shown k n h = two_shown (keyword_text k) (decimal n) h (decimal_shown n)

counts_shown : (count : Count) → WordsShown (count_words count)
unfolding count_words
counts_shown count = by_runs (nat_eq count.runs 0)
  where
    by_runs : (t : Bool) → WordsShown (if t then decimal count.runs ∷ [] else decimal count.runs ∷ keyword_text keyword.First ∷ decimal count.first ∷ [])
    by_runs true = rw (decimal_shown count.runs) refl
    by_runs false = rw (decimal_shown count.runs, first_shown, decimal_shown count.first) refl

verdict_shown : (k : Keyword) (count : Count) → AreShown (keyword_text k) → WordsShown (verdict_count_line k count)
verdict_shown k count h = rw (h, counts_shown count) refl

stop_shown : (s : StopCount) → WordsShown (stop_line s)
unfolding stop_words
stop_shown s = rw (class_shown s.why, name_shown s.why, counts_shown s.count) refl

stops_shown : (stops : List StopCount) → LinesShown (map stop_line stops)
stops_shown [] = refl
stops_shown (s ∷ stops) = rw (stop_shown s, stops_shown stops) refl

tally_shown : (t : Tally) → LinesShown (count_lines t)
unfolding count_lines verdict_lines total_lines
tally_shown t =
    let words = list_all (list_all is_shown) in
    let verdicts = verdict_count_line keyword.Complete t.complete ∷ verdict_count_line keyword.Deadlock t.deadlock ∷ verdict_count_line keyword.Budget t.budget ∷ [] in
    let totals = number_line keyword.Joined t.joined ∷ number_line keyword.Canceled t.canceled ∷ number_line keyword.Least t.least ∷ number_line keyword.Most t.most ∷ [] in
    let first : LinesShown verdicts = rw (verdict_shown keyword.Complete t.complete complete_shown, verdict_shown keyword.Deadlock t.deadlock deadlock_shown, verdict_shown keyword.Budget t.budget budget_shown) refl in
    let last : LinesShown totals = rw (number_shown keyword.Joined t.joined joined_shown, number_shown keyword.Canceled t.canceled canceled_shown, number_shown keyword.Least t.least least_shown, number_shown keyword.Most t.most most_shown) refl in
    all_append words (verdicts ++ map stop_line t.stops) totals (all_append words verdicts (map stop_line t.stops) first (stops_shown t.stops)) last

digits_shown : (digits : List ℕ) → is_digest digits ≡ true → AreShown digits
digits_shown digits h = weaker is_hex hex_shown digits (and_parts (nat_eq (length digits) 64) (list_all is_hex digits) h).1

range_shown : (r : RangeTally) → is_digest r.subject.digest ≡ true → LinesShown (range_lines r)
unfolding range_lines subject_lines
range_shown r h =
    let l = r.subject.limits in
    let seeds : WordsShown (codes "tally" ∷ decimal r.seeds.first ∷ decimal r.seeds.last ∷ []) = rw (decimal_shown r.seeds.first, decimal_shown r.seeds.last) refl in
    let script : WordsShown (keyword_text keyword.Script ∷ r.subject.digest ∷ []) = two_shown (keyword_text keyword.Script) r.subject.digest script_shown (digits_shown r.subject.digest h) in
    let limits : WordsShown (codes "limits" ∷ decimal l.budget ∷ decimal l.passes ∷ decimal l.slots ∷ []) = rw (decimal_shown l.budget, decimal_shown l.passes, decimal_shown l.slots) refl in
    rw (seeds, script, limits, tally_shown r.tally) refl

ranges_shown : (ranges : List RangeTally) → AreWritable ranges → LinesShown (flat_map range_lines ranges)
ranges_shown [] are = refl
ranges_shown (r ∷ ranges) are = all_append (list_all (list_all is_shown)) (range_lines r) (flat_map range_lines ranges) (range_shown r are.0.digest) (ranges_shown ranges are.1)

-- ---- the text of tallies

-- a tally has a byte
some_bytes : (r : RangeTally) → 0 < length (text_of (range_lines r))
unfolding range_lines
some_bytes r =
    let first = bytes_of (codes "tally" ∷ decimal r.seeds.first ∷ decimal r.seeds.last ∷ []) in
    let rest = text_of (subject_lines r.subject ++ count_lines r.tally) in
    omega (arith, length-append (first ++ 10 ∷ []) rest, length-append first (10 ∷ []))

enough_bytes : (ranges : List RangeTally) → length ranges ≤ length (text_of (flat_map range_lines ranges))
enough_bytes [] = omega arith
enough_bytes (r ∷ ranges) =
    let more = enough_bytes ranges in
    let some = some_bytes r in
    let split = ap length (flat_map-append line_text (range_lines r) (flat_map range_lines ranges)) in
    omega (arith, more, some, split, length-append (text_of (range_lines r)) (text_of (flat_map range_lines ranges)))

if_some_placed : (n : ℕ) (ranges : List RangeTally) → 0 < length ranges → if_some (Ok (placed_from n ranges)) ≡ Ok (placed_from n ranges)
if_some_placed n [] some = absurd (omega (arith, some))
if_some_placed n (r ∷ ranges) some = refl

pub spelled_is_read : SpelledIsRead
unfolding tallies_in
spelled_is_read ranges some are =
    let text = text_of (flat_map range_lines ranges) in
    ap (λ (ls : List (List ℕ)). if_some (tallies_from (length text) (1, ls))) (lines_again (flat_map range_lines ranges) (ranges_shown ranges are))
    ∙ ap if_some (all_again ranges are (length text) 1 (enough_bytes ranges))
    ∙ if_some_placed 1 ranges some
