-- The survey that the words ask for.
use Rattle.pct_names.proofs.Names.{◌&&◌, ◌∷◌, ◌≡◌, ◌≤◌, [], and_parts, ap, Bool, bytes_eq, codes, cond, cond_some, Config, false, is_config}
use Rattle.pct_names.proofs.Names.{keyword_text, List, nat_le, None, none-some, not, numeral, option_and_then, option_and_then_some, option_map, Option, refl, run_options, RunOptions}
use Rattle.pct_names.proofs.Names.{same_Some, Some, subst, sym, true, ℕ, ◌∙◌}
use Rattle.std.proofs.lemmas.Bool.{leb-true, true≢false}
use Rattle.std.specs.List.{list_any}
use Rattle.std.specs.Str.Parse.{digits_value}
use Rattle.pct_model.specs.declared.keyword.Keyword.TheVariants as keyword
use Rattle.pct_model.specs.declared.run_options.RunOption.TheVariants as option
use Rattle.pct_model.specs.LineParsing.{is_empty}
use Rattle.pct_model.specs.RunOptions.{is_value}
use Rattle.pct_options.proofs.Configs.{run_is_within}
use Rattle.pct_inspection.specs.declared.words.Inspection.{Inspection}
use Rattle.pct_inspection.specs.declared.words.Inspection.TheVariants as inspection
use Rattle.pct_inspection.specs.declared.words.View.{View}
use Rattle.pct_inspection.specs.Words.{allows, asked_alone, config_asked, continuation_asked, has_leading_zero, inspection_asked, is_of_one_run, seed_count, seeds_asked, survey_asked, tally_asked, view_asked, view_named}
use Rattle.pct_inspection.specs.Answer.{AsksFor}
use Rattle.pct_inspection.specs.SurveyOutcomes.{IsSurveyed}

-- ---- the number of seeds, and the configuration

count_fits : (word : List ℕ) (n : ℕ) → seed_count word ≡ Some n → n ≤ 100000
unfolding seed_count
count_fits word n is =
    option_and_then_some (λ m. cond (not (has_leading_zero word) && nat_le 1 m && nat_le m 100000) (Some m) None) (numeral word) n is
    (λ m _ rest.
    let parts = cond_some (not (has_leading_zero word) && nat_le 1 m && nat_le m 100000) m n rest in
    subst (λ (k : ℕ). k ≤ 100000) parts.1 (leb-true m 100000 (and_parts (not (has_leading_zero word) && nat_le 1 m) (nat_le m 100000) parts.0).1))

of_options : (words : List (List ℕ)) (config : Config) (run : Option RunOptions) → run_options words ≡ run → option_map (λ r. r.config) run ≡ Some config → is_config config ≡ true
of_options words config None at is = absurd (none-some config is)
of_options words config (Some run) at is = subst (λ (c : Config). is_config c ≡ true) (same_Some run.config config is) (run_is_within words run at)

by_words : (refused : Bool) (words : List (List ℕ)) (config : Config) → cond refused None (option_map (λ r. r.config) (run_options words)) ≡ Some config → is_config config ≡ true
by_words true words config is = absurd (none-some config is)
by_words false words config is = of_options words config (run_options words) refl is

config_fits : (options : List (List ℕ)) (config : Config) → config_asked options ≡ Some config → is_config config ≡ true
unfolding config_asked
config_fits options config is = by_words (list_any is_of_one_run options) (keyword_text keyword.Run ∷ options) config is

-- ---- what the words ask for

abbrev is_survey : Inspection → Bool
is_survey (inspection.Survey seeds config) = true
is_survey (inspection.Continue seed) = false
is_survey (inspection.Show shown) = false
is_survey (inspection.Tally seeds) = false
is_survey inspection.Sum = false
is_survey inspection.Judge = false

-- the number of seeds and the configuration of a survey
abbrev parts_of : ℕ × Config → Inspection → ℕ × Config
parts_of other (inspection.Survey seeds config) = (seeds, config)
parts_of other _ = other

module _ (seeds : ℕ) (config : Config) where
  -- another command is no survey
  no_survey : (b : Bool) (other : Inspection) → is_survey other ≡ false → cond b (Some other) None ≡ Some (inspection.Survey seeds config) → ⊥
  no_survey true other is_other is = true≢false (sym (ap is_survey (same_Some other (inspection.Survey seeds config) is)) ∙ is_other)
  no_survey false other is_other is = none-some (inspection.Survey seeds config) is

  not_continued : (words : List (List ℕ)) → continuation_asked words ≡ Some (inspection.Survey seeds config) → ⊥
  not_continued [] is = none-some (inspection.Survey seeds config) is
  not_continued (seed ∷ []) is = no_survey (is_value option.Seed seed) (inspection.Continue (digits_value 10 seed)) refl is
  not_continued (seed ∷ next ∷ words) is = none-some (inspection.Survey seeds config) is

  not_tallied : (words : List (List ℕ)) → tally_asked words ≡ Some (inspection.Survey seeds config) → ⊥
  not_tallied [] is = none-some (inspection.Survey seeds config) is
  not_tallied (first ∷ []) is = none-some (inspection.Survey seeds config) is
  not_tallied (first ∷ last ∷ []) is =
      option_and_then_some (λ s. Some (inspection.Tally s)) (seeds_asked first last) (inspection.Survey seeds config) is
      (λ s _ same. true≢false (sym (ap is_survey (same_Some (inspection.Tally s) (inspection.Survey seeds config) same))))
  not_tallied (first ∷ last ∷ next ∷ words) is = none-some (inspection.Survey seeds config) is

  not_shown : (words : List (List ℕ)) (view : Option View) → option_and_then (view_asked words) view ≡ Some (inspection.Survey seeds config) → ⊥
  not_shown words (Some shown) is = no_survey (allows shown words) (inspection.Show shown) refl is
  not_shown words None is = none-some (inspection.Survey seeds config) is

  survey_is : (words : List (List ℕ)) → survey_asked words ≡ Some (inspection.Survey seeds config) → IsSurveyed seeds config
  unfolding survey_asked
  survey_is [] is = absurd (none-some (inspection.Survey seeds config) is)
  survey_is (count ∷ options) is =
      option_and_then_some (λ n. option_and_then (λ c. Some (inspection.Survey n c)) (config_asked options)) (seed_count count) (inspection.Survey seeds config) is
      (λ n n_is rest.
      option_and_then_some (λ c. Some (inspection.Survey n c)) (config_asked options) (inspection.Survey seeds config) rest
      (λ c c_is same.
      let parts = ap (parts_of (n, c)) (same_Some (inspection.Survey n c) (inspection.Survey seeds config) same) in
      subst (λ (p : ℕ × Config). IsSurveyed p.0 p.1) parts (count_fits count n n_is, config_fits options c c_is)))

  by_command : (continues tallies sums surveys judges : Bool) (words : List (List ℕ)) (view : Option View)
      → cond continues (continuation_asked words) (cond tallies (tally_asked words) (cond sums (asked_alone words inspection.Sum) (cond surveys (survey_asked words) (cond judges (asked_alone words inspection.Judge) (option_and_then (view_asked words) view)))))
      ≡ Some (inspection.Survey seeds config) → IsSurveyed seeds config
  by_command true tallies sums surveys judges words view is = absurd (not_continued words is)
  by_command false true sums surveys judges words view is = absurd (not_tallied words is)
  by_command false false true surveys judges words view is = absurd (no_survey (is_empty words) inspection.Sum refl is)
  by_command false false false true judges words view is = survey_is words is
  by_command false false false false true words view is = absurd (no_survey (is_empty words) inspection.Judge refl is)
  by_command false false false false false words view is = absurd (not_shown words view is)

-- it is within the limits
pub asked_survey : (words : List (List ℕ)) (seeds : ℕ) (config : Config) → AsksFor words (inspection.Survey seeds config) → IsSurveyed seeds config
unfolding inspection_asked
asked_survey [] seeds config is = absurd (none-some (inspection.Survey seeds config) is)
asked_survey (command ∷ words) seeds config is =
    by_command seeds config (bytes_eq command (codes "continue")) (bytes_eq command (codes "tally")) (bytes_eq command (codes "sum")) (bytes_eq command (codes "survey"))
    (bytes_eq command (codes "judge")) words (view_named command) is
