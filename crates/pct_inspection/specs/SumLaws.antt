-- What `sum` gives of what `tally` gives.
use Rattle.std.specs.Prelude.{◌≡◌, ℕ, ◌+◌, ◌≤◌, List, ◌++◌, length, Some}
use Rattle.pct_model.specs.declared.limits.TheConstants.{MAX_INPUT}
use Rattle.pct_inspection.specs.declared.words.Inspection.TheVariants as inspection
use Rattle.pct_inspection.specs.Inspection.{IsInspected}
use Rattle.pct_inspection.specs.Words.{inspection_asked}

-- the words ask for the tally of the seeds first to last
abbrev pub AsksForTally : List (List ℕ) → ℕ → ℕ → Type 0
AsksForTally words first last = inspection_asked words ≡ Some (inspection.Tally (record { first = first; last = last }))

-- where `tally` accepts an input, `sum` of what it writes for the seeds first to middle and for middle + 1 to last, in this order or the other, writes
-- what it writes for the seeds first to last
abbrev pub SumsAreTallies : Type 0
SumsAreTallies =
    (words words_earlier words_later words_all : List (List ℕ)) (input earlier later all : List ℕ) (first middle last : ℕ)
    → AsksForTally words_earlier first middle → AsksForTally words_later (middle + 1) last → AsksForTally words_all first last
    → IsInspected words_earlier input 0 earlier → IsInspected words_later input 0 later → IsInspected words_all input 0 all
    → inspection_asked words ≡ Some inspection.Sum → length (earlier ++ later) ≤ MAX_INPUT
    → ((code : ℕ) (text : List ℕ) → IsInspected words (earlier ++ later) code text → (code ≡ 0) × (text ≡ all))
    × ((code : ℕ) (text : List ℕ) → IsInspected words (later ++ earlier) code text → (code ≡ 0) × (text ≡ all))
