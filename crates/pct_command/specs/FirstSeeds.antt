-- What the first seeds of a sample show to `run`.
use Rattle.std.specs.Prelude.{◌≡◌, ◌≢◌, ℕ, true, List, [], ◌∷◌, Contains}
use Rattle.std.specs.Str.Parse.{digits_value}
use Rattle.pct_model.specs.declared.keyword.Keyword.TheVariants as keyword
use Rattle.pct_model.specs.declared.run_options.RunOption.TheVariants as option
use Rattle.pct_model.specs.declared.stop.Verdict.{Verdict}
use Rattle.pct_model.specs.declared.stop.Verdict.TheVariants as verdict
use Rattle.pct_model.specs.Keywords.{keyword_text}
use Rattle.pct_model.specs.Outcome.{code_of_verdict}
use Rattle.pct_model.specs.RunOptions.{is_value, option_name}
use Rattle.pct_tallies.specs.declared.count.Count.{Count}
use Rattle.pct_tallies.specs.declared.tally.Tally.{Tally}
use Rattle.pct_command.specs.Command.{IsAnswer, Samples}

-- the count of the runs with this verdict in a tally
abbrev pub IsCountOf : Tally → Verdict → Count → Type 0
IsCountOf tally verdict.Complete count = count ≡ tally.complete
IsCountOf tally verdict.Deadlock count = count ≡ tally.deadlock
IsCountOf tally verdict.Budget count = count ≡ tally.budget
IsCountOf tally (verdict.Undefined why) count = Contains tally.stops (record { why = why; count = count })
IsCountOf tally verdict.Open count = ⊥

-- the words `run --seed TEXT`
abbrev pub words_of_seed : List ℕ → List (List ℕ)
words_of_seed text = keyword_text keyword.Run ∷ option_name option.Seed ∷ text ∷ []

-- where `sample` counts runs of an input with a verdict, each answer of `run --seed S` to this input, with the first of their seeds as S, has
-- the code of this verdict
abbrev pub FirstSeedsReproduce : Type 0
FirstSeedsReproduce =
    (words : List (List ℕ)) (input : List ℕ) (code : ℕ) (text : List ℕ) (sampled : Samples words input code text)
    (v : Verdict) (count : Count) → IsCountOf sampled.tally v count → count.runs ≢ 0
    → (seed : List ℕ) → is_value option.Seed seed ≡ true → digits_value 10 seed ≡ count.first
    → (run_code : ℕ) (report : List ℕ) → IsAnswer (words_of_seed seed) input run_code report → run_code ≡ code_of_verdict v
