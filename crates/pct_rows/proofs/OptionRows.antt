-- The arguments of `run`: words that give options, and words that are refused. The first word of each row is left out where it is `run`.
use Rattle.pct_names.proofs.Names.{◌++◌, [], Bool, codes, is_none, List, map, Option, refl, replicate, run_options, RunOptions, Some, true}
use Rattle.pct_names.proofs.Names.{ℕ, ◌∷◌, ◌≡◌}
use Rattle.pct_model.specs.declared.schedule.Format.TheVariants.{One}
use Rattle.pct_rows.proofs.OnLiterals.{options_on_literals}

-- the numbers that these words ask for, after `run`
abbrev asked : List (List ℕ) → Option RunOptions
asked words = run_options (codes "run" ∷ words)

-- the budget, the passes, the slots and the seed of a run, its workers and their turns
abbrev numbers_with : ℕ → ℕ → ℕ → ℕ → ℕ → ℕ → Option RunOptions
numbers_with budget passes slots seed workers turns = Some (record { config = record { budget = budget; passes = passes; slots = slots; format = One }; seed = seed; workers = workers; turns = turns })

-- the same of one worker, with as many turns as the budget
abbrev numbers : ℕ → ℕ → ℕ → ℕ → Option RunOptions
numbers budget passes slots seed = numbers_with budget passes slots seed 1 budget

-- the workers and their turns, of a run with the default of each other number
abbrev workers_and_turns : ℕ → ℕ → Option RunOptions
workers_and_turns workers turns = numbers_with 10000 4 64 1 workers turns

-- the words of each list are refused after `run`
abbrev refused : List (List (List ℕ)) → List Bool
refused lists = map (λ words. is_none (asked words)) lists

-- ---- accepted

no_option : asked [] ≡ numbers 10000 4 64 1
unfolding options_on_literals
no_option = refl

-- each option in both forms
one_option : map asked ((codes "--budget" ∷ codes "500" ∷ []) ∷ (codes "--budget=500" ∷ []) ∷ (codes "--passes" ∷ codes "5" ∷ []) ∷ (codes "--passes=5" ∷ []) ∷ (codes "--slots" ∷ codes "8" ∷ []) ∷ (codes "--slots=8" ∷ []) ∷ (codes "--seed" ∷ codes "7" ∷ []) ∷ (codes "--seed=7" ∷ []) ∷ []) ≡ numbers 500 4 64 1 ∷ numbers 500 4 64 1 ∷ numbers 10000 5 64 1 ∷ numbers 10000 5 64 1 ∷ numbers 10000 4 8 1 ∷ numbers 10000 4 8 1 ∷ numbers 10000 4 64 7 ∷ numbers 10000 4 64 7 ∷ []
unfolding options_on_literals
one_option = refl

-- the options of the workers, in both forms
one_of_the_workers : map asked ((codes "--workers" ∷ codes "2" ∷ []) ∷ (codes "--workers=2" ∷ []) ∷ (codes "--turns" ∷ codes "5" ∷ []) ∷ (codes "--turns=5" ∷ []) ∷ []) ≡ workers_and_turns 2 10000 ∷ workers_and_turns 2 10000 ∷ workers_and_turns 1 5 ∷ workers_and_turns 1 5 ∷ []
unfolding options_on_literals
one_of_the_workers = refl

-- without `--turns` they are as many as the budget, wherever it stands
turns_as_the_budget : map asked ((codes "--workers" ∷ codes "2" ∷ []) ∷ (codes "--budget=500" ∷ codes "--workers=2" ∷ []) ∷ (codes "--workers=2" ∷ codes "--budget" ∷ codes "500" ∷ []) ∷ (codes "--workers=2" ∷ codes "--seed=7" ∷ codes "--budget=500" ∷ []) ∷ []) ≡ workers_and_turns 2 10000 ∷ numbers_with 500 4 64 1 2 500 ∷ numbers_with 500 4 64 1 2 500 ∷ numbers_with 500 4 64 7 2 500 ∷ []
unfolding options_on_literals
turns_as_the_budget = refl

-- with `--turns` they are not changed by the budget, be it less or more
turns_beside_a_budget : map asked ((codes "--turns=5" ∷ codes "--budget=500" ∷ []) ∷ (codes "--budget=500" ∷ codes "--turns" ∷ codes "5" ∷ []) ∷ (codes "--turns" ∷ codes "600" ∷ codes "--budget=500" ∷ []) ∷ (codes "--budget=500" ∷ codes "--turns=600" ∷ []) ∷ []) ≡ replicate 2 (numbers_with 500 4 64 1 1 5) ++ replicate 2 (numbers_with 500 4 64 1 1 600)
unfolding options_on_literals
turns_beside_a_budget = refl

-- all six, in three orders and with both forms
every_option : map asked ((codes "--budget=500" ∷ codes "--passes" ∷ codes "5" ∷ codes "--slots=8" ∷ codes "--seed" ∷ codes "7" ∷ codes "--workers" ∷ codes "3" ∷ codes "--turns=20" ∷ []) ∷ (codes "--turns" ∷ codes "20" ∷ codes "--workers=3" ∷ codes "--seed" ∷ codes "7" ∷ codes "--slots" ∷ codes "8" ∷ codes "--passes=5" ∷ codes "--budget" ∷ codes "500" ∷ []) ∷ (codes "--workers=3" ∷ codes "--budget" ∷ codes "500" ∷ codes "--turns" ∷ codes "20" ∷ codes "--seed=7" ∷ codes "--passes" ∷ codes "5" ∷ codes "--slots=8" ∷ []) ∷ []) ≡ replicate 3 (numbers_with 500 5 8 7 3 20)
unfolding options_on_literals
every_option = refl

-- the four others, in two orders and with both forms
four_options : map asked ((codes "--budget=500" ∷ codes "--passes" ∷ codes "5" ∷ codes "--slots=8" ∷ codes "--seed" ∷ codes "7" ∷ []) ∷ (codes "--seed" ∷ codes "7" ∷ codes "--slots" ∷ codes "8" ∷ codes "--passes=5" ∷ codes "--budget" ∷ codes "500" ∷ []) ∷ []) ≡ replicate 2 (numbers 500 5 8 7)
unfolding options_on_literals
four_options = refl

least_and_greatest : map asked ((codes "--budget=1" ∷ codes "--passes=4" ∷ codes "--slots=1" ∷ codes "--seed=0" ∷ []) ∷ (codes "--budget=200000" ∷ codes "--passes=16" ∷ codes "--slots=64" ∷ codes "--seed=18446744073709551615" ∷ []) ∷ []) ≡ numbers 1 4 1 0 ∷ numbers 200000 16 64 18446744073709551615 ∷ []
unfolding options_on_literals
least_and_greatest = refl

least_and_greatest_of_workers : map asked ((codes "--workers=1" ∷ codes "--turns=1" ∷ []) ∷ (codes "--workers" ∷ codes "16" ∷ codes "--turns" ∷ codes "200000" ∷ []) ∷ (codes "--workers=16" ∷ []) ∷ (codes "--turns=200000" ∷ []) ∷ []) ≡ workers_and_turns 1 1 ∷ workers_and_turns 16 200000 ∷ workers_and_turns 16 10000 ∷ workers_and_turns 1 200000 ∷ []
unfolding options_on_literals
least_and_greatest_of_workers = refl

-- leading zeros, up to 20 digits
leading_zeros : map asked ((codes "--budget=0500" ∷ []) ∷ (codes "--slots" ∷ codes "00000000000000000008" ∷ []) ∷ (codes "--seed=00000000000000000000" ∷ []) ∷ []) ≡ numbers 500 4 64 1 ∷ numbers 10000 4 8 1 ∷ numbers 10000 4 64 0 ∷ []
unfolding options_on_literals
leading_zeros = refl

leading_zeros_of_workers : map asked ((codes "--workers=016" ∷ []) ∷ (codes "--workers" ∷ codes "00000000000000000002" ∷ []) ∷ (codes "--turns" ∷ codes "0200000" ∷ []) ∷ (codes "--turns=00000000000000000005" ∷ []) ∷ []) ≡ workers_and_turns 16 10000 ∷ workers_and_turns 2 10000 ∷ workers_and_turns 1 200000 ∷ workers_and_turns 1 5 ∷ []
unfolding options_on_literals
leading_zeros_of_workers = refl

-- ---- refused

-- an option twice, in any forms and also with one value
repeated : refused ((codes "--budget" ∷ codes "5" ∷ codes "--budget" ∷ codes "5" ∷ []) ∷ (codes "--passes=5" ∷ codes "--passes" ∷ codes "6" ∷ []) ∷ (codes "--slots=8" ∷ codes "--seed=1" ∷ codes "--slots=9" ∷ []) ∷ (codes "--seed" ∷ codes "1" ∷ codes "--seed" ∷ codes "2" ∷ []) ∷ []) ≡ replicate 4 true
unfolding options_on_literals
repeated = refl

repeated_of_workers : refused ((codes "--workers" ∷ codes "2" ∷ codes "--workers" ∷ codes "2" ∷ []) ∷ (codes "--workers=2" ∷ codes "--workers" ∷ codes "3" ∷ []) ∷ (codes "--turns=5" ∷ codes "--turns=5" ∷ []) ∷ (codes "--turns" ∷ codes "5" ∷ codes "--workers=2" ∷ codes "--turns=6" ∷ []) ∷ []) ≡ replicate 4 true
unfolding options_on_literals
repeated_of_workers = refl

-- a name without a value, or with an empty one; a name is not the value of another
without_value : refused ((codes "--budget" ∷ []) ∷ (codes "--seed=" ∷ []) ∷ (codes "--seed" ∷ codes "" ∷ []) ∷ (codes "--budget" ∷ codes "--seed" ∷ codes "7" ∷ []) ∷ (codes "--seed=1" ∷ codes "--slots" ∷ []) ∷ []) ≡ replicate 5 true
unfolding options_on_literals
without_value = refl

workers_without_value : refused ((codes "--workers" ∷ []) ∷ (codes "--turns=" ∷ []) ∷ (codes "--workers" ∷ codes "" ∷ []) ∷ (codes "--workers" ∷ codes "--turns" ∷ codes "5" ∷ []) ∷ (codes "--workers=2" ∷ codes "--turns" ∷ []) ∷ []) ≡ replicate 5 true
unfolding options_on_literals
workers_without_value = refl

-- numbers outside the range
out_of_range : refused ((codes "--budget=0" ∷ []) ∷ (codes "--budget=200001" ∷ []) ∷ (codes "--passes=3" ∷ []) ∷ (codes "--passes=17" ∷ []) ∷ (codes "--slots=0" ∷ []) ∷ (codes "--slots=65" ∷ []) ∷ (codes "--seed=18446744073709551616" ∷ []) ∷ []) ≡ replicate 7 true
unfolding options_on_literals
out_of_range = refl

workers_out_of_range : refused ((codes "--workers" ∷ codes "0" ∷ []) ∷ (codes "--workers=0" ∷ []) ∷ (codes "--workers" ∷ codes "17" ∷ []) ∷ (codes "--workers=17" ∷ []) ∷ (codes "--turns" ∷ codes "0" ∷ []) ∷ (codes "--turns=0" ∷ []) ∷ (codes "--turns" ∷ codes "200001" ∷ []) ∷ (codes "--turns=200001" ∷ []) ∷ (codes "--budget=500" ∷ codes "--turns=0" ∷ []) ∷ []) ≡ replicate 9 true
unfolding options_on_literals
workers_out_of_range = refl

-- what is no number of 1 to 20 digits
not_numbers : refused ((codes "--seed=+7" ∷ []) ∷ (codes "--seed" ∷ codes "-7" ∷ []) ∷ (codes "--seed= 7" ∷ []) ∷ (codes "--seed=7x" ∷ []) ∷ (codes "--seed=0x7" ∷ []) ∷ (codes "--seed==7" ∷ []) ∷ (codes "--seed" ∷ codes "=7" ∷ []) ∷ (codes "--seed=000000000000000000007" ∷ []) ∷ []) ≡ replicate 8 true
unfolding options_on_literals
not_numbers = refl

-- what is the name of no option
not_options : refused ((codes "--" ∷ []) ∷ (codes "-s" ∷ codes "7" ∷ []) ∷ (codes "--help" ∷ []) ∷ (codes "seed" ∷ codes "7" ∷ []) ∷ (codes "--Seed" ∷ codes "7" ∷ []) ∷ (codes "--see=7" ∷ []) ∷ (codes "--seeds=7" ∷ []) ∷ (codes "--worker" ∷ codes "2" ∷ []) ∷ (codes "--turn=1" ∷ []) ∷ (codes "workers" ∷ codes "2" ∷ []) ∷ (codes "--Turns=1" ∷ []) ∷ (codes "7" ∷ []) ∷ (codes "" ∷ []) ∷ (codes "run" ∷ []) ∷ []) ≡ replicate 14 true
unfolding options_on_literals
not_options = refl

-- no word, and other first words
other_commands : map (λ words. is_none (run_options words)) ([] ∷ (codes "walk" ∷ []) ∷ (codes "--seed=7" ∷ []) ∷ (codes "--seed=7" ∷ codes "run" ∷ []) ∷ (codes "replay" ∷ codes "--seed=7" ∷ []) ∷ []) ≡ replicate 5 true
unfolding options_on_literals
other_commands = refl
