-- The seeds that the words ask a tally for.
use Rattle.pct_names.proofs.Names.{◌&&◌, ◌-◌, ◌<◌, ◌^◌, ◌∙◌, ◌∷◌, ◌≡◌, ◌≤◌, [], and_parts, ap, arith, Bool, bytes_eq, codes, cond, cond_some}
use Rattle.pct_names.proofs.Names.{false, length, List, nat_le, nat_lt, None, none-some, not, option_and_then, option_and_then_some, Option, refl}
use Rattle.pct_names.proofs.Names.{same_Some, Some, subst, sym, true, ℕ}
use Rattle.std.proofs.lemmas.Bool.{leb-true, ltb-true, true≢false}
use Rattle.std.specs.List.{list_all}
use Rattle.std.specs.Str.Parse.{digits_value}
use Rattle.pct_model.specs.declared.run_options.RunOption.TheVariants as option
use Rattle.pct_model.specs.LineParsing.{is_empty}
use Rattle.pct_model.specs.Names.{is_digit}
use Rattle.pct_model.specs.RunOptions.{greatest_value, is_value, least_value}
use Rattle.pct_tallies.specs.declared.seeds.Seeds.{Seeds}
use Rattle.pct_tallies.specs.Seeds.{IsRange, is_range, seed_count}
use Rattle.pct_inspection.specs.declared.words.Inspection.{Inspection}
use Rattle.pct_inspection.specs.declared.words.Inspection.TheVariants as inspection
use Rattle.pct_inspection.specs.declared.words.View.{View}
use Rattle.pct_inspection.specs.Words.{allows, asked_alone, config_asked, continuation_asked, inspection_asked, is_tallied, seed_count as survey_seeds, seed_in, seeds_asked, survey_asked, tally_asked, view_asked, view_named}
use Rattle.pct_inspection.specs.Answer.{AsksFor}
use Rattle.pct_inspection.specs.TallyOutcomes.{IsAccepted, IsTallied}
use Rattle.pct_inspection.proofs.AskedSurveys.{asked_survey}

-- a range for which a tally is made, whose last seed has at most 64 bits
pub record AreAsked (seeds : Seeds) : Type 0 where
  pub tallied : IsTallied seeds
  pub fits : seeds.last < 2 ^ 64

-- it is a range of at most 1,000,000 seeds
pub asked_range : (seeds : Seeds) → AreAsked seeds → IsRange seeds × (seed_count seeds ≤ 1000000)
asked_range seeds are =
    let whole = and_parts (is_range seeds) (nat_lt (seeds.last - seeds.first) 1000000) are.tallied in
    let ends = and_parts (nat_le 1 seeds.first) (nat_le seeds.first seeds.last) whole.0 in
    let low = leb-true 1 seeds.first ends.0 in
    let some = leb-true seeds.first seeds.last ends.1 in
    let few = ltb-true (seeds.last - seeds.first) 1000000 whole.1 in
    (record { from_one = low; some = some; fits = are.fits }, omega (arith, low, some, few))

-- ---- what the words ask for

abbrev is_tally : Inspection → Bool
is_tally (inspection.Tally seeds) = true
is_tally (inspection.Continue seed) = false
is_tally (inspection.Show shown) = false
is_tally inspection.Sum = false
is_tally (inspection.Survey count config) = false
is_tally inspection.Judge = false

module _ (seeds : Seeds) where
  -- another command is no tally
  no_tally : (b : Bool) (other : Inspection) → is_tally other ≡ false → cond b (Some other) None ≡ Some (inspection.Tally seeds) → ⊥
  no_tally true other is_other is = true≢false (sym (ap is_tally (same_Some other (inspection.Tally seeds) is)) ∙ is_other)
  no_tally false other is_other is = none-some (inspection.Tally seeds) is

  not_continued : (words : List (List ℕ)) → continuation_asked words ≡ Some (inspection.Tally seeds) → ⊥
  not_continued [] is = none-some (inspection.Tally seeds) is
  not_continued (seed ∷ []) is = no_tally (is_value option.Seed seed) (inspection.Continue (digits_value 10 seed)) refl is
  not_continued (seed ∷ next ∷ words) is = none-some (inspection.Tally seeds) is

  not_shown : (words : List (List ℕ)) (view : Option View) → option_and_then (view_asked words) view ≡ Some (inspection.Tally seeds) → ⊥
  not_shown words (Some shown) is = no_tally (allows shown words) (inspection.Show shown) refl is
  not_shown words None is = none-some (inspection.Tally seeds) is

  not_surveyed : (words : List (List ℕ)) → survey_asked words ≡ Some (inspection.Tally seeds) → ⊥
  unfolding survey_asked
  not_surveyed [] is = none-some (inspection.Tally seeds) is
  not_surveyed (count ∷ options) is =
      option_and_then_some (λ n. option_and_then (λ config. Some (inspection.Survey n config)) (config_asked options)) (survey_seeds count) (inspection.Tally seeds) is
      (λ n _ rest.
      option_and_then_some (λ config. Some (inspection.Survey n config)) (config_asked options) (inspection.Tally seeds) rest
      (λ config _ same. true≢false (sym (ap is_tally (same_Some (inspection.Survey n config) (inspection.Tally seeds) same)))))

  -- a seed has at most 64 bits
  seed_fits : (text : List ℕ) (n : ℕ) → seed_in text ≡ Some n → n < 2 ^ 64
  seed_fits text n is =
      let parts = cond_some (is_value option.Seed text) (digits_value 10 text) n is in
      let most = and_parts (not (is_empty text) && list_all is_digit text && nat_le (length text) 20 && nat_le (least_value option.Seed) (digits_value 10 text)) (nat_le (digits_value 10 text) (greatest_value option.Seed)) parts.0 in
      let within : digits_value 10 text ≤ 18446744073709551615 = leb-true (digits_value 10 text) 18446744073709551615 most.1 in
      omega (arith, within, parts.1)

  seeds_are : (first last : List ℕ) → seeds_asked first last ≡ Some seeds → AreAsked seeds
  unfolding seeds_asked
  seeds_are first last is =
      option_and_then_some (λ from. option_and_then (λ to. cond (is_tallied (record { first = from; last = to })) (Some (record { first = from; last = to })) None) (seed_in last)) (seed_in first) seeds is
      (λ from from_is rest.
      option_and_then_some (λ to. cond (is_tallied (record { first = from; last = to })) (Some (record { first = from; last = to })) None) (seed_in last) seeds rest
      (λ to to_is made.
      let parts = cond_some (is_tallied (record { first = from; last = to })) (record { first = from; last = to }) seeds made in
      subst AreAsked parts.1 (record { tallied = parts.0; fits = seed_fits last to to_is })))

  tally_is : (words : List (List ℕ)) → tally_asked words ≡ Some (inspection.Tally seeds) → AreAsked seeds
  tally_is [] is = absurd (none-some (inspection.Tally seeds) is)
  tally_is (first ∷ []) is = absurd (none-some (inspection.Tally seeds) is)
  tally_is (first ∷ last ∷ []) is =
      option_and_then_some (λ s. Some (inspection.Tally s)) (seeds_asked first last) (inspection.Tally seeds) is
      (λ s s_is same. seeds_are first last (s_is ∙ ap (λ (x : Inspection). Some (seeds_in x)) (same_Some (inspection.Tally s) (inspection.Tally seeds) same)))
    where
      seeds_in : Inspection → Seeds
      seeds_in (inspection.Tally s) = s
      seeds_in _ = seeds
  tally_is (first ∷ last ∷ next ∷ words) is = absurd (none-some (inspection.Tally seeds) is)

  by_command : (continues tallies sums surveys judges : Bool) (words : List (List ℕ)) (view : Option View)
      → cond continues (continuation_asked words) (cond tallies (tally_asked words) (cond sums (asked_alone words inspection.Sum) (cond surveys (survey_asked words) (cond judges (asked_alone words inspection.Judge) (option_and_then (view_asked words) view))))) ≡ Some (inspection.Tally seeds)
      → AreAsked seeds
  by_command true tallies sums surveys judges words view is = absurd (not_continued words is)
  by_command false true sums surveys judges words view is = tally_is words is
  by_command false false true surveys judges words view is = absurd (no_tally (is_empty words) inspection.Sum refl is)
  by_command false false false true judges words view is = absurd (not_surveyed words is)
  by_command false false false false true words view is = absurd (no_tally (is_empty words) inspection.Judge refl is)
  by_command false false false false false words view is = absurd (not_shown words view is)

-- the seeds that words ask a tally for
pub asked_seeds : (words : List (List ℕ)) (seeds : Seeds) → AsksFor words (inspection.Tally seeds) → AreAsked seeds
unfolding inspection_asked
asked_seeds [] seeds is = absurd (none-some (inspection.Tally seeds) is)
asked_seeds (command ∷ words) seeds is =
    by_command seeds (bytes_eq command (codes "continue")) (bytes_eq command (codes "tally")) (bytes_eq command (codes "sum")) (bytes_eq command (codes "survey"))
    (bytes_eq command (codes "judge")) words (view_named command) is

-- what words ask for is accepted
pub is_accepted_asked : (words : List (List ℕ)) (asked : Inspection) → AsksFor words asked → IsAccepted asked
is_accepted_asked words (inspection.Tally seeds) is = (asked_seeds words seeds is).tallied
is_accepted_asked words (inspection.Continue seed) is = tt
is_accepted_asked words (inspection.Show shown) is = tt
is_accepted_asked words inspection.Sum is = tt
is_accepted_asked words (inspection.Survey seeds config) is = asked_survey words seeds config is
is_accepted_asked words inspection.Judge is = tt
