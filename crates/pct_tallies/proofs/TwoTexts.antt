-- The texts of two ranges, the second of which begins right after the first, are read and added.
use Rattle.std.proofs.Common.{◌≡◌, ℕ, ◌+◌, ◌≤◌, true, List, [], ◌∷◌, ◌++◌, append-nil, ap, arith, length, sym, ◌∙◌}
use Rattle.std.specs.Prelude.{Ok, flat_map}
use Rattle.std.proofs.lemmas.Grind.{flat_map-append}
use Rattle.pct_model.specs.Keywords.{line_text, text_of}
use Rattle.pct_tallies.specs.declared.range_tally.PlacedTally.{PlacedTally}
use Rattle.pct_tallies.specs.declared.range_tally.RangeTally.{RangeTally}
use Rattle.pct_tallies.specs.Readings.{tallies_in}
use Rattle.pct_tallies.specs.Sums.{fits}
use Rattle.pct_tallies.specs.TallyTexts.{range_lines}
use Rattle.pct_tallies.specs.TextLaws.{IsWritable}
use Rattle.pct_tallies.specs.Totals.{IsTotalOf, sum_with}
use Rattle.pct_tallies.proofs.TextsAgain.{spelled_is_read}
use Rattle.pct_tallies.proofs.TwoRanges.{two_added, two_added_back}

-- the text of a tally
abbrev pub range_text : RangeTally → List ℕ
range_text r = text_of (range_lines r)

-- a text is read as tallies with this sum
pub record Sums (text : List ℕ) (total : RangeTally) : Type 0 where
  pub tallies : List PlacedTally
  pub read : tallies_in text ≡ Ok tallies
  pub summed : IsTotalOf tallies (Ok total)

both_texts : (a b : RangeTally) → range_text a ++ range_text b ≡ text_of (flat_map range_lines (a ∷ b ∷ []))
both_texts a b =
    ap (λ (text : List ℕ). range_text a ++ text) (ap text_of (sym (append-nil (range_lines b))))
    ∙ sym (flat_map-append line_text (range_lines a) (range_lines b ++ []))

module _ (a b : RangeTally) (first : IsWritable a) (second : IsWritable b) (same : a.subject ≡ b.subject) (next : b.seeds.first ≡ a.seeds.last + 1) (fit : fits a.tally b.tally ≡ true) where
  pub texts_added : Sums (range_text a ++ range_text b) (sum_with a b)
  texts_added = record {
    tallies = record { line = 1; range = a } ∷ record { line = 1 + length (range_lines a); range = b } ∷ [];
    read = ap tallies_in (both_texts a b) ∙ spelled_is_read (a ∷ b ∷ []) (omega arith) (first, (second, tt));
    summed = two_added (record { line = 1; range = a }) (record { line = 1 + length (range_lines a); range = b }) same first.seeds.some next fit;
  }

  pub texts_added_back : Sums (range_text b ++ range_text a) (sum_with a b)
  texts_added_back = record {
    tallies = record { line = 1; range = b } ∷ record { line = 1 + length (range_lines b); range = a } ∷ [];
    read = ap tallies_in (both_texts b a) ∙ spelled_is_read (b ∷ a ∷ []) (omega arith) (second, (first, tt));
    summed = two_added_back (record { line = 1 + length (range_lines b); range = a }) (record { line = 1; range = b }) same first.seeds.some next fit;
  }
