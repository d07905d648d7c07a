-- The configuration of a run that words ask for is within the limits, and so are its workers and their turns.
use Rattle.pct_names.proofs.Names.{◌&&◌, ◌>>=◌, [], all_options, and_parts, arith, Bool, bytes_eq, cond, cond_some, DEFAULT_BUDGET}
use Rattle.pct_names.proofs.Names.{DEFAULT_PASSES, DEFAULT_SEED, DEFAULT_SLOTS, DEFAULT_WORKERS, digits_value, false, given_after}
use Rattle.pct_names.proofs.Names.{GivenOption, greatest_value, HasWorkers, IfSome, is_config, is_named, keyword_text, least_value, List}
use Rattle.pct_names.proofs.Names.{list_all, list_any, nat_le, None, none-some, number_by, number_given, numbers_given, Option}
use Rattle.pct_names.proofs.Names.{option_and_then, options_of, refl, run_options, RunOption, RunOptions, same_Some, Some, subst, sym, true}
use Rattle.pct_names.proofs.Names.{values_given, ℕ, ◌∷◌, ◌≡◌, ◌≤◌}
use Rattle.std.proofs.Common.{leb-true, le-leb}
use Rattle.pct_model.specs.declared.keyword.Keyword.TheVariants as keyword
use Rattle.pct_model.specs.declared.run_options.RunOption.TheVariants as option
use Rattle.pct_model.specs.declared.schedule.Format.TheVariants.{One}
use Rattle.pct_model.specs.RunOptions.{is_value}

-- a value comes only from the branch that has one
of_true : {A : Type 0} (b : Bool) (o : Option A) (x : A) → cond b o None ≡ Some x → o ≡ Some x
of_true true o x is = is
of_true false o x is = absurd (none-some x is)

-- ---- the number of an option

-- a number is within the range of an option
record IsWithin (o : RunOption) (n : ℕ) : Type 0 where
  least : least_value o ≤ n
  greatest : n ≤ greatest_value o

value_within : (o : RunOption) (n : ℕ) (written : Bool) → (written && nat_le (least_value o) n && nat_le n (greatest_value o)) ≡ true → IsWithin o n
value_within o n written is =
    let high = and_parts (written && nat_le (least_value o) n) (nat_le n (greatest_value o)) is in
    record { least = leb-true (least_value o) n (and_parts written (nat_le (least_value o) n) high.0).1; greatest = leb-true n (greatest_value o) high.1 }

-- the number of an option is within its range, if the default is
number_within : (o : RunOption) (default : ℕ) → IsWithin o default → (texts : List (List ℕ)) (n : ℕ) → number_by o default texts ≡ Some n → IsWithin o n
number_within o default within [] n is = subst (IsWithin o) (same_Some default n is) within
number_within o default within (text ∷ []) n is =
    let found = cond_some (is_value o text) (digits_value 10 text) n is in
    subst (IsWithin o) found.1 (value_within o (digits_value 10 text) _ found.0)
number_within o default within (text ∷ next ∷ texts) n is = absurd (none-some n is)

-- the same of the options that words give
given_number_within : (o : RunOption) (default : ℕ) (given : List GivenOption) → IsWithin o default → (n : ℕ) → number_given o default given ≡ Some n → IsWithin o n
given_number_within o default given within n is = number_within o default within (values_given o given) n is

-- ---- the numbers of a run

-- the numbers of a run are within the limits
record AreWithin (options : RunOptions) : Type 0 where
  config : is_config options.config ≡ true
  workers : HasWorkers options

config_within : (budget passes slots : ℕ) → IsWithin option.Budget budget → IsWithin option.Passes passes → IsWithin option.Slots slots → is_config (record { budget = budget; passes = passes; slots = slots; format = One }) ≡ true
config_within budget passes slots b p s =
    rw (le-leb 1 budget b.least, le-leb budget 200000 b.greatest, le-leb 4 passes p.least, le-leb passes 16 p.greatest, le-leb 1 slots s.least, le-leb slots 64 s.greatest) refl

-- numbers that are each within the range of its option
each_within : (budget passes slots seed workers turns : ℕ) → IsWithin option.Budget budget → IsWithin option.Passes passes → IsWithin option.Slots slots → IsWithin option.Workers workers → IsWithin option.Turns turns
    → AreWithin (record { config = record { budget = budget; passes = passes; slots = slots; format = One }; seed = seed; workers = workers; turns = turns })
each_within budget passes slots seed workers turns b p s w t = record {
  config = config_within budget passes slots b p s;
  workers = record { some_workers = w.least; few_workers = w.greatest; some_turns = t.least; few_turns = t.greatest };
}

-- a value that is found by two steps
both : {A B : Type 0} (o : Option A) (f : A → Option B) (y : B) → (o >>= f) ≡ Some y → (x : A) × (o ≡ Some x) × (f x ≡ Some y)
both None f y is = absurd (none-some y is)
both (Some x) f y is = (x, refl, is)

numbers_within : (given : List GivenOption) (options : RunOptions) → numbers_given given ≡ Some options → AreWithin options
numbers_within given options is =
    let budget = both (number_given option.Budget DEFAULT_BUDGET given) _ options is in
    let passes = both (number_given option.Passes DEFAULT_PASSES given) _ options budget.2 in
    let slots = both (number_given option.Slots DEFAULT_SLOTS given) _ options passes.2 in
    let seed = both (number_given option.Seed DEFAULT_SEED given) _ options slots.2 in
    let workers = both (number_given option.Workers DEFAULT_WORKERS given) _ options seed.2 in
    let turns = both (number_given option.Turns budget.0 given) _ options workers.2 in
    let b = given_number_within option.Budget DEFAULT_BUDGET given (record { least = omega arith; greatest = omega arith }) budget.0 budget.1 in
    subst AreWithin (same_Some _ options turns.2) (each_within budget.0 passes.0 slots.0 seed.0 workers.0 turns.0 b
    (given_number_within option.Passes DEFAULT_PASSES given (record { least = omega arith; greatest = omega arith }) passes.0 passes.1)
    (given_number_within option.Slots DEFAULT_SLOTS given (record { least = omega arith; greatest = omega arith }) slots.0 slots.1)
    (given_number_within option.Workers DEFAULT_WORKERS given (record { least = omega arith; greatest = omega arith }) workers.0 workers.1)
    (given_number_within option.Turns budget.0 given (record { least = b.least; greatest = b.greatest }) turns.0 turns.1))

options_within : (given : Option (List GivenOption)) (options : RunOptions) → option_and_then options_of given ≡ Some options → AreWithin options
unfolding options_of
options_within None options is = absurd (none-some options is)
options_within (Some given) options is = numbers_within given options (of_true (list_all (λ g. list_any (is_named g.name) all_options) given) _ options is)

words_within : (words : List (List ℕ)) (options : RunOptions) → run_options words ≡ Some options → AreWithin options
unfolding run_options
words_within [] options is = absurd (none-some options is)
words_within (command ∷ words) options is = options_within (given_after None words) options (of_true (bytes_eq command (keyword_text keyword.Run)) _ options is)

-- the configuration of the run that the words ask for
pub run_is_within : (words : List (List ℕ)) (options : RunOptions) → run_options words ≡ Some options → is_config options.config ≡ true
run_is_within words options is = (words_within words options is).config

-- the workers of the run that the words ask for, and their turns
pub run_has_workers : (words : List (List ℕ)) (options : RunOptions) → run_options words ≡ Some options → HasWorkers options
run_has_workers words options is = (words_within words options is).workers

-- the same of options alone
pub options_have_workers : (given : Option (List GivenOption)) (run : Option RunOptions) → run ≡ option_and_then options_of given → IfSome run (λ options. HasWorkers options)
options_have_workers given None is = tt
options_have_workers given (Some options) is = (options_within given options (sym is)).workers
