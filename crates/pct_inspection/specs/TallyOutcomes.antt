-- The outcomes of `tally` and of `sum`.
use Rattle.std.specs.Prelude.{◌≡◌, ℕ, ◌≤◌, true, List, [], ◌∷◌, length, Some, Result, Ok, Err, codes, decimal}
use Rattle.hex.specs.Hex.{encode_lower}
use Rattle.sha2.specs.Sha256.{sha256}
use Rattle.pct_model.specs.declared.keyword.Keyword.TheVariants as keyword
use Rattle.pct_model.specs.declared.limits.TheConstants.{DEFAULT_BUDGET, DEFAULT_PASSES, DEFAULT_SLOTS, MAX_INPUT}
use Rattle.pct_model.specs.declared.script.Script.{Script}
use Rattle.pct_model.specs.Canon.{canon}
use Rattle.pct_model.specs.Keywords.{keyword_text, line_text, text_of}
use Rattle.pct_model.specs.Schedule.{replay_parts}
use Rattle.pct_model.specs.Spells.{Spells}
use Rattle.pct_tallies.specs.declared.fault.TallyFault.{TallyFault}
use Rattle.pct_tallies.specs.declared.fault.TallyFault.TheVariants as fault
use Rattle.pct_tallies.specs.declared.fault.TallyWhy.{TallyWhy}
use Rattle.pct_tallies.specs.declared.range_tally.PlacedTally.{PlacedTally}
use Rattle.pct_tallies.specs.declared.range_tally.RangeTally.{RangeTally}
use Rattle.pct_tallies.specs.declared.range_tally.Subject.{Subject}
use Rattle.pct_tallies.specs.declared.seeds.Seeds.{Seeds}
use Rattle.pct_tallies.specs.declared.tally.Tally.{Tally}
use Rattle.pct_tallies.specs.Faults.{Fault, why_text}
use Rattle.pct_tallies.specs.Readings.{tallies_in}
use Rattle.pct_tallies.specs.TallyTexts.{range_lines}
use Rattle.pct_tallies.specs.Totals.{IsTotalOf}
use Rattle.pct_sample.specs.FirstSeeds.{AreFirstSeeds}
use Rattle.pct_sample.specs.Samples.{TallyOf}
use Rattle.pct_inspection.specs.declared.words.Inspection.{Inspection}
use Rattle.pct_inspection.specs.declared.words.Inspection.TheVariants as inspection
use Rattle.pct_inspection.specs.SurveyOutcomes.{IsSurveyed}
use Rattle.pct_inspection.specs.Words.{inspection_asked, is_tallied}

-- ---- what is asked

-- it is of a script, and not of tallies or of a report
abbrev pub IsOfScript : Inspection → Type 0
IsOfScript inspection.Sum = ⊥
IsOfScript inspection.Judge = ⊥
IsOfScript _ = Unit {0}

-- a range of seeds is one for which a tally is made
abbrev pub IsTallied : Seeds → Type 0
IsTallied seeds = is_tallied seeds ≡ true

abbrev pub IsAccepted : Inspection → Type 0
IsAccepted (inspection.Tally seeds) = IsTallied seeds
IsAccepted (inspection.Survey seeds config) = IsSurveyed seeds config
IsAccepted _ = Unit {0}

-- where the script's part of an input ends, and where the prefix's part begins: with `tally` all is the script
abbrev pub parts_for : Inspection → List ℕ → ℕ × ℕ
parts_for (inspection.Tally seeds) input = (length input, length input)
parts_for _ input = replay_parts input

-- ---- what is written

-- `refused tally LINE WHY`
unfoldable pub refused_tally : ℕ → TallyWhy → List (List ℕ)
refused_tally line why = keyword_text keyword.Refused ∷ codes "tally" ∷ decimal line ∷ why_text why ∷ []

-- what is run for a tally of a script: the digits of the SHA-256 of its canonical text, and the numbers of `run` without options
abbrev pub subject_of : Script → Subject
subject_of script = record {
  digest = encode_lower (sha256 (canon script));
  limits = record { budget = DEFAULT_BUDGET; passes = DEFAULT_PASSES; slots = DEFAULT_SLOTS };
}

-- ---- outcomes

-- the sum of the tallies in a text, or the fault of the text or of the tallies
pub data IsTotalIn (text : List ℕ) (total : Result RangeTally Fault) : Type 0 where
  NotRead : (fault : Fault) → tallies_in text ≡ Err fault → total ≡ Err fault → IsTotalIn text total
  Totalled : (tallies : List PlacedTally) → tallies_in text ≡ Ok tallies → IsTotalOf tallies total → IsTotalIn text total

-- a result that memory ran out
abbrev pub Exhausted : Result RangeTally TallyFault
Exhausted = Err fault.NoMemory

-- `tally`: what is counted of the runs of the script under the seeds of the range
pub record Tallies (words : List (List ℕ)) (input : List ℕ) (code : ℕ) (text : List ℕ) : Type 0 where
  pub seeds : Seeds
  pub asked : inspection_asked words ≡ Some (inspection.Tally seeds)
  pub fits : length input ≤ MAX_INPUT
  pub script : Script
  pub spelled : Spells input script
  pub tally : Tally
  pub counted : TallyOf script seeds tally
  pub first : AreFirstSeeds script seeds tally
  pub code_is : code ≡ 0
  pub text_is : text ≡ text_of (range_lines (record { seeds = seeds; subject = subject_of script; tally = tally }))

-- `sum` of an input that is not only tallies: the first line that is none of a tally is reported
pub record RefusesTallies (words : List (List ℕ)) (input : List ℕ) (code : ℕ) (text : List ℕ) : Type 0 where
  pub asked : inspection_asked words ≡ Some inspection.Sum
  pub fits : length input ≤ MAX_INPUT
  pub line : ℕ
  pub why : TallyWhy
  pub read : tallies_in input ≡ Err (line, why)
  pub code_is : code ≡ 16
  pub text_is : text ≡ line_text (refused_tally line why)

-- `sum` of tallies without a sum
pub record RefusesSum (words : List (List ℕ)) (input : List ℕ) (code : ℕ) (text : List ℕ) : Type 0 where
  pub asked : inspection_asked words ≡ Some inspection.Sum
  pub fits : length input ≤ MAX_INPUT
  pub tallies : List PlacedTally
  pub read : tallies_in input ≡ Ok tallies
  pub line : ℕ
  pub why : TallyWhy
  pub refused : IsTotalOf tallies (Err (line, why))
  pub code_is : code ≡ 16
  pub text_is : text ≡ line_text (refused_tally line why)

-- `sum` of tallies
pub record Sums (words : List (List ℕ)) (input : List ℕ) (code : ℕ) (text : List ℕ) : Type 0 where
  pub asked : inspection_asked words ≡ Some inspection.Sum
  pub fits : length input ≤ MAX_INPUT
  pub tallies : List PlacedTally
  pub read : tallies_in input ≡ Ok tallies
  pub total : RangeTally
  pub summed : IsTotalOf tallies (Ok total)
  pub code_is : code ≡ 0
  pub text_is : text ≡ text_of (range_lines total)
