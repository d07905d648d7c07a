-- Keys of words, by which most patterns are refused: words whose keys differ are not the same. No public clause cites this file.
use Rattle.std.specs.Prelude.{ℕ, ◌+◌, ◌-◌, ◌*◌, ◌%◌, if◌then◌else◌, List, Option, Some, None, codes, bytes_eq, length, map, slice_get}
use Rattle.std.specs.Option.{option_map_or}
use Rattle.pct_model.specs.LineParsing.{words_in}
use Rattle.pct_expect.specs.declared.span.Span.{Span}
use Rattle.pct_expect.specs.Events.{part_at}

-- the key of a word of this length, with this first and this last byte
abbrev pub key_with : ℕ → Option ℕ → Option ℕ → ℕ
key_with size None last = 0
key_with size (Some first) None = 0
key_with size (Some first) (Some last) = size % 256 * 65536 + first * 256 + last

-- the key of a word
unfoldable pub key_of : List ℕ → ℕ
key_of word = key_with (length word) (slice_get word 0) (slice_get word (length word - 1))

-- the key of an event: of its second word, or 0 if there is none
unfoldable pub event_key : List (List ℕ) → ℕ
event_key words = option_map_or key_of (slice_get words 1) 0

-- the key of a pattern's word, unless the word is `*`
abbrev pub asked_of : List ℕ → Option ℕ
asked_of word = if bytes_eq word (codes "*") then None else Some (key_of word)

-- the key of the events that a pattern matches, if its second word says it
unfoldable pub asked_key : List (List ℕ) → Option ℕ
asked_key pattern = option_map_or asked_of (slice_get pattern 1) None

-- the key of the event that each part of a text spells
abbrev pub keys_in : List ℕ → List Span → List ℕ
keys_in text lines = map (λ span. event_key (words_in (part_at text span))) lines
