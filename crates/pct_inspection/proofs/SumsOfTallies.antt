-- The sum of what `tally` writes for two ranges is what it writes for the seeds of both.
use Rattle.pct_names.proofs.Names.{◌+◌, ◌++◌, ◌∙◌, ◌≡◌, ◌≤◌, ap, arith, canon, length, List, Option, refl, Script, Some, Spells, subst, sym, true, ℕ, ◌≢◌}
use Rattle.std.proofs.Common.{length-append}
use Rattle.pct_grammar.proofs.Scripts.{spells_one_script}
use Rattle.pct_tallies.specs.declared.range_tally.RangeTally.{RangeTally}
use Rattle.pct_tallies.specs.declared.seeds.Seeds.{Seeds}
use Rattle.pct_tallies.specs.declared.tally.Tally.{Tally}
use Rattle.pct_tallies.specs.Sums.{fits, sum_of}
use Rattle.pct_tallies.specs.TextLaws.{IsWritable}
use Rattle.pct_tallies.specs.Totals.{sum_with}
use Rattle.pct_tallies.proofs.SumsOfRuns.{sum_of_ranges}
use Rattle.pct_tallies.proofs.TwoTexts.{range_text, Sums, texts_added, texts_added_back}
use Rattle.pct_sample.specs.SeedRuns.{IsRunOfSeed}
use Rattle.pct_sample.specs.Samples.{TallyOf}
use Rattle.pct_sample.proofs.CountedTallies.{tally_is_counted}
use Rattle.pct_sample.proofs.LongerTallies.{tallies_fit}
use Rattle.pct_sample.proofs.OneTally.{tallies_are_one}
use Rattle.pct_inspection.specs.declared.words.Form.TheVariants as form
use Rattle.pct_inspection.specs.declared.words.Inspection.{Inspection}
use Rattle.pct_inspection.specs.declared.words.Inspection.TheVariants as inspection
use Rattle.pct_inspection.specs.declared.words.View.TheVariants as view
use Rattle.pct_inspection.specs.TallyOutcomes.{subject_of, Tallies}
use Rattle.pct_inspection.specs.Inspection.{asks_to_draw, IsInspected}
use Rattle.pct_inspection.specs.Inspection as outcome
use Rattle.pct_inspection.specs.Answer.{AsksFor}
use Rattle.pct_inspection.specs.SumLaws.{SumsAreTallies}
use Rattle.pct_inspection.proofs.AskedSeeds.{AreAsked, asked_range, asked_seeds}
use Rattle.pct_inspection.proofs.Digests.{digest_is_written}
use Rattle.pct_inspection.proofs.Inputs.{kind, same_kind}
use Rattle.pct_inspection.proofs.OneInspection.{inspection_is_one}

-- ---- what `tally` writes

-- the seeds of words that ask for a tally
abbrev tally_seeds : Seeds → Option Inspection → Seeds
tally_seeds other (Some (inspection.Tally seeds)) = seeds
tally_seeds other _ = other

module _ (words : List (List ℕ)) (input text : List ℕ) (seeds : Seeds) (asked : AsksFor words (inspection.Tally seeds)) where
  -- the words ask for nothing else
  not_asked : (other : Inspection) → AsksFor words other → kind other ≢ 2 → ⊥
  not_asked other also apart = apart (sym (same_kind words (inspection.Tally seeds) other asked also))

  -- with the code 0 the outcome is a tally
  tallied : IsInspected words input 0 text → Tallies words input 0 text
  tallied (outcome.WordsRefused o) = absurd (omega (arith, o.code_is))
  tallied (outcome.InputRefused o) = absurd (omega (arith, o.code_is))
  tallied (outcome.ScriptRefused o) = absurd (omega (arith, o.code_is))
  tallied (outcome.PrefixRefused o) = absurd (omega (arith, o.code_is))
  tallied (outcome.Continued o) = absurd (not_asked (inspection.Continue o.seed) o.asked (λ e. absurd (omega (arith, e))))
  tallied (outcome.Traced o) = absurd (not_asked (inspection.Show (view.Steps form.Trace)) o.asked (λ e. absurd (omega (arith, e))))
  tallied (outcome.Listed o) = absurd (not_asked (inspection.Show view.Choices) o.asked (λ e. absurd (omega (arith, e))))
  tallied (outcome.Valued o) = absurd (not_asked (inspection.Show view.States) o.asked (λ e. absurd (omega (arith, e))))
  tallied (outcome.Drawn o) = absurd (not_asked (inspection.Show (view.Steps o.shown)) o.asked (λ e. absurd (omega (arith, e))))
  tallied (outcome.Tallied o) = o
  tallied (outcome.TalliesRefused o) = absurd (omega (arith, o.code_is))
  tallied (outcome.SumRefused o) = absurd (omega (arith, o.code_is))
  tallied (outcome.Summed o) = absurd (not_asked inspection.Sum o.asked (λ e. absurd (omega (arith, e))))
  tallied (outcome.ExpectationRefused o) = absurd (omega (arith, o.code_is))
  tallied (outcome.Surveyed o) = absurd (not_asked (inspection.Survey o.seeds o.config) o.asked (λ e. absurd (omega (arith, e))))
  tallied (outcome.ReportRefused o) = absurd (omega (arith, o.code_is))
  tallied (outcome.Judged o) = absurd (not_asked inspection.Judge o.asked (λ e. absurd (omega (arith, e))))

-- the tally of a script under the seeds of a range
abbrev range_of : Script → Seeds → Tally → RangeTally
range_of script seeds tally = record { seeds = seeds; subject = subject_of script; tally = tally }

-- the text is that of the tally of a script under seeds that words ask for
record Counts (script : Script) (seeds : Seeds) (text : List ℕ) : Type 0 where
  asked : AreAsked seeds
  tally : Tally
  counted : TallyOf script seeds tally
  text_is : text ≡ range_text (range_of script seeds tally)

counts : (words : List (List ℕ)) (input text : List ℕ) (seeds : Seeds) (script : Script) → AsksFor words (inspection.Tally seeds) → Spells input script → IsInspected words input 0 text → Counts script seeds text
counts words input text seeds script asked spelled inspected =
    let t = tallied words input text seeds asked inspected in
    let same_seeds : t.seeds ≡ seeds = ap (tally_seeds seeds) (sym t.asked ∙ asked) in
    let same_script : t.script ≡ script = spells_one_script input t.script script t.spelled spelled in
    record {
      asked = asked_seeds words seeds asked;
      tally = t.tally;
      counted = subst (λ (s : Script). TallyOf s seeds t.tally) same_script (subst (λ (s : Seeds). TallyOf t.script s t.tally) same_seeds t.counted);
      text_is = t.text_is ∙ (λ i. range_text (range_of (same_script i) (same_seeds i) t.tally));
    }

-- such a tally has a text
writable : (script : Script) (seeds : Seeds) (text : List ℕ) (c : Counts script seeds text) → IsWritable (range_of script seeds c.tally)
writable script seeds text c =
    let range = asked_range seeds c.asked in
    record {
      seeds = range.0;
      digest = digest_is_written (canon script);
      limits = record { budget = omega arith; passes = omega arith; slots = omega arith };
      counted = tally_is_counted script seeds c.tally range.0 (omega (arith, range.1)) c.counted;
    }

-- ---- two ranges, the second of which begins right after the first

module _ (script : Script) (first middle last : ℕ) (earlier later all : List ℕ)
    (a : Counts script (record { first = first; last = middle }) earlier) (b : Counts script (record { first = middle + 1; last = last }) later) (c : Counts script (record { first = first; last = last }) all) where
  abbrev one : RangeTally
  one = range_of script (record { first = first; last = middle }) a.tally

  abbrev other : RangeTally
  other = range_of script (record { first = middle + 1; last = last }) b.tally

  -- their sum is the tally of all seeds
  all_is : all ≡ range_text (sum_with one other)
  all_is =
      let low = asked_range (record { first = first; last = middle }) a.asked in
      let high = asked_range (record { first = middle + 1; last = last }) b.asked in
      let seeds : Seeds = record { first = first; last = last } in
      let both : TallyOf script seeds (sum_of a.tally b.tally) = sum_of_ranges (IsRunOfSeed script) first middle last a.tally b.tally low.0.some high.0.some a.counted b.counted in
      c.text_is ∙ ap (λ (t : Tally). range_text (range_of script seeds t)) (tallies_are_one script seeds c.tally (sum_of a.tally b.tally) c.counted both)

  sum_fits : fits a.tally b.tally ≡ true
  sum_fits =
      let low = asked_range (record { first = first; last = middle }) a.asked in
      let high = asked_range (record { first = middle + 1; last = last }) b.asked in
      let whole = asked_range (record { first = first; last = last }) c.asked in
      tallies_fit script (record { first = first; last = middle }) (record { first = middle + 1; last = last }) a.tally b.tally (omega (arith, low.0.some, high.0.some, whole.1)) a.counted b.counted

  module _ (words : List (List ℕ)) (asked : AsksFor words inspection.Sum) where
    -- of a text with this sum `sum` writes the tally of all seeds
    summed : (input : List ℕ) → length input ≤ 16777216 → Sums input (sum_with one other) → (code : ℕ) (text : List ℕ) → IsInspected words input code text → (code ≡ 0) × (text ≡ all)
    summed input fit sums code text inspected =
        let is : IsInspected words input 0 all = outcome.Summed (record { asked = asked; fits = fit; tallies = sums.tallies; read = sums.read; total = sum_with one other; summed = sums.summed; code_is = refl; text_is = all_is }) in
        let same = inspection_is_one words input code 0 text all inspected is in
        (same.0, same.1 (ap asks_to_draw asked))

    in_order : length (earlier ++ later) ≤ 16777216 → (code : ℕ) (text : List ℕ) → IsInspected words (earlier ++ later) code text → (code ≡ 0) × (text ≡ all)
    in_order fit =
        summed (earlier ++ later) fit
        (subst (λ (t : List ℕ). Sums t (sum_with one other)) (sym (λ i. a.text_is i ++ b.text_is i)) (texts_added one other (writable script _ earlier a) (writable script _ later b) refl refl sum_fits))

    out_of_order : length (earlier ++ later) ≤ 16777216 → (code : ℕ) (text : List ℕ) → IsInspected words (later ++ earlier) code text → (code ≡ 0) × (text ≡ all)
    out_of_order fit =
        summed (later ++ earlier) (omega (arith, fit, length-append earlier later, length-append later earlier))
        (subst (λ (t : List ℕ). Sums t (sum_with one other)) (sym (λ i. b.text_is i ++ a.text_is i)) (texts_added_back one other (writable script _ earlier a) (writable script _ later b) refl refl sum_fits))

pub sums_are_tallies : SumsAreTallies
sums_are_tallies words words_earlier words_later words_all input earlier later all first middle last asks_earlier asks_later asks_all is_earlier is_later is_all asks_sum fit =
    let t = tallied words_earlier input earlier (record { first = first; last = middle }) asks_earlier is_earlier in
    let a = counts words_earlier input earlier (record { first = first; last = middle }) t.script asks_earlier t.spelled is_earlier in
    let b = counts words_later input later (record { first = middle + 1; last = last }) t.script asks_later t.spelled is_later in
    let c = counts words_all input all (record { first = first; last = last }) t.script asks_all t.spelled is_all in
    (in_order t.script first middle last earlier later all a b c words asks_sum fit, out_of_order t.script first middle last earlier later all a b c words asks_sum fit)
