-- The events that the lines of a text spell, and which of them a pattern matches. An event or a pattern is a list of words.
use Rattle.std.specs.Prelude.{◌≡◌, ℕ, ◌-◌, ◌≤◌, Bool, true, false, ◌&&◌, ◌||◌, List, [], ◌∷◌, codes, drop, bytes_eq, length, map, slice_get, take}
use Rattle.std.specs.Option.{option_map_or}
use Rattle.pct_model.specs.LineParsing.{words_in}
use Rattle.pct_expect.specs.declared.span.Span.{Span}

-- ---- events

-- the part of a text
abbrev pub part_at : List ℕ → Span → List ℕ
part_at text span = take (span.end - span.start) (drop span.start text)

-- the part is in the text
abbrev pub IsWithin : List ℕ → Span → Type 0
IsWithin text span = (span.start ≤ span.end) × (span.end ≤ length text)

-- the words of each line
abbrev pub events_in : List ℕ → List Span → List (List (List ℕ))
events_in text lines = map (λ span. words_in (part_at text span)) lines

-- the thread of an event, as `PID.TID`: its first word
abbrev pub thread_of : List (List ℕ) → List ℕ
thread_of [] = []
thread_of (word ∷ words) = word

-- ---- patterns

-- a pattern's word matches the word: it is `*` or the word itself
abbrev pub word_matches : List ℕ → List ℕ → Bool
word_matches asked word = bytes_eq asked (codes "*") || bytes_eq asked word

-- a pattern matches an event: the event has as many words, and each word of the pattern matches the word in its place
unfoldable pub matches : List (List ℕ) → List (List ℕ) → Bool
matches [] [] = true
matches [] (word ∷ words) = false
matches (asked ∷ pattern) [] = false
matches (asked ∷ pattern) (word ∷ words) = word_matches asked word && matches pattern words

-- ---- events by their index, which is counted from 0

-- event i is there and the pattern matches it
abbrev pub MatchesAt : List (List ℕ) → List (List (List ℕ)) → ℕ → Type 0
MatchesAt pattern events i = option_map_or (matches pattern) (slice_get events i) false ≡ true

-- the thread of event i
abbrev pub thread_at : List (List (List ℕ)) → ℕ → List ℕ
thread_at events i = option_map_or thread_of (slice_get events i) []
