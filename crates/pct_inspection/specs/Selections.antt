-- The words of a selection, which says what `lanes` and `picture` leave out.
use Rattle.std.specs.Prelude.{ℕ, suc, zero, Bool, true, false, ◌&&◌, if◌then◌else◌, List, [], ◌∷◌, Option, Some, None, bytes_eq, codes, is_some, nat_le, option_map}
use Rattle.std.specs.Option.{option_map_or}
use Rattle.pct_model.specs.Lines.{◌>>=◌, number_of, split_once}
use Rattle.pct_inspection.specs.declared.selecting.SelectionOption.{SelectionOption}
use Rattle.pct_inspection.specs.declared.selecting.SelectionOption.TheVariants.{Steps, Threads}

-- a selection: the numbers of the first and of the last step, the text of the threads, and whether steps without an event are left out
pub record SelectionValue : Type 0 where
  pub steps : Option (ℕ × ℕ)
  pub threads : Option (List ℕ)
  pub events : Bool

-- nothing is left out
abbrev pub all_selected : SelectionValue
all_selected = record { steps = None; threads = None; events = false }

-- ---- values

-- the range of steps that a text FROM-TO writes: 1 ≤ FROM ≤ TO
unfoldable pub steps_of : List ℕ → Option (ℕ × ℕ)
steps_of text =
    split_once 45 text >>= λ parts.
    number_of parts.0 >>= λ from.
    number_of parts.1 >>= λ to.
    if nat_le 1 from && nat_le from to then Some (from, to) else None

-- the text names a thread, P.T
unfoldable pub is_thread : List ℕ → Bool
is_thread text = option_map_or (λ parts. is_some (number_of parts.0) && is_some (number_of parts.1)) (split_once 46 text) false

-- the text names a thread, and if a comma follows its name the rest of the text is of this kind
abbrev pub begins_with_thread : (List ℕ → Bool) → List ℕ → Option (List ℕ × List ℕ) → Bool
begins_with_thread follows text None = is_thread text
begins_with_thread follows text (Some parts) = is_thread parts.0 && follows parts.1

-- the text names 1 to N threads, separated by commas
unfoldable pub are_threads : ℕ → List ℕ → Bool
are_threads zero text = false
are_threads (suc n) text = begins_with_thread (λ rest. are_threads n rest) text (split_once 44 text)

-- ---- words

-- the option with this name
unfoldable pub option_named : List ℕ → Option SelectionOption
option_named name =
    if bytes_eq name (codes "--steps") then Some Steps
    else if bytes_eq name (codes "--threads") then Some Threads
    else None

-- a selection of which some words are read, and the option whose value is the next word, if there is one
pub record BegunValue : Type 0 where
  pub selection : SelectionValue
  pub option : Option SelectionOption

-- a selection, and the next word is no value
abbrev pub with_part : SelectionValue → BegunValue
with_part s = record { selection = s; option = None }

-- with `--events`, if that is the first one
abbrev pub with_events : SelectionValue → Option BegunValue
with_events s = if s.events then None else Some (with_part (record s { events = true }))

-- with the value of an option, if that is the first one
unfoldable pub with_value : SelectionValue → SelectionOption → List ℕ → Option BegunValue
with_value s Steps text = if is_some s.steps then None else option_map (λ steps. with_part (record s { steps = Some steps })) (steps_of text)
with_value s Threads text = if is_some s.threads then None else if are_threads 64 text then Some (with_part (record s { threads = Some text })) else None

-- with NAME=VALUE, which is split at its first `=`; or with the name of an option, whose value is the next word
abbrev pub with_option : SelectionValue → List ℕ → Option (List ℕ × List ℕ) → Option BegunValue
with_option s word (Some parts) = option_named parts.0 >>= λ option. with_value s option parts.1
with_option s word None = option_map (λ option. record { selection = s; option = Some option }) (option_named word)

-- with a value, or with a word that is none
abbrev pub with_next : SelectionValue → Option SelectionOption → List ℕ → Option BegunValue
with_next s (Some option) word = with_value s option word
with_next s None word = if bytes_eq word (codes "--events") then with_events s else with_option s word (split_once 61 word)

-- with one more word
unfoldable pub with_word : BegunValue → List ℕ → Option BegunValue
with_word b word = with_next b.selection b.option word

-- with more words
unfoldable pub begun_after : BegunValue → List (List ℕ) → Option BegunValue
begun_after b [] = Some b
begun_after b (word ∷ words) = with_word b word >>= λ c. begun_after c words

-- the selection, if no value is missing
abbrev pub selection_of : BegunValue → Option SelectionValue
selection_of b = if is_some b.option then None else Some b.selection

-- the selection that words ask for, in any order, each part at most once
unfoldable pub selection_asked : List (List ℕ) → Option SelectionValue
selection_asked words = begun_after (with_part all_selected) words >>= selection_of
