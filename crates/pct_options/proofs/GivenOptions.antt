-- What options were given, and what further options give, is what all of them give.
use Rattle.pct_names.proofs.Names.{◌<◌, ◌>>=◌, [], all_options, ap, Bool, cond, DEFAULT_BUDGET, DEFAULT_PASSES, DEFAULT_SEED, DEFAULT_SLOTS}
use Rattle.pct_names.proofs.Names.{DEFAULT_WORKERS, digits_value, false, find, given_after, GivenOption, is_named, is_some, length, List}
use Rattle.pct_names.proofs.Names.{list_all, list_any, None, none-some, number_by, Option, option_and_then, option_map, option_name}
use Rattle.pct_names.proofs.Names.{options_of, refl, RunOption, RunOptions, same_Some, Some, sym, true, unwrap_or, values_given, ◌||◌, ℕ}
use Rattle.pct_names.proofs.Names.{◌∙◌, ◌∷◌, ◌≡◌}
use Rattle.pct_model.specs.declared.run_options.RunOption.TheVariants as option
use Rattle.pct_model.specs.declared.schedule.Format.TheVariants.{One}
use Rattle.pct_model.specs.RunOptions.{is_value}
use Rattle.pct_model.proofs.Bytes.{same_bytes}
use Rattle.pct_options.specs.declared.given_values.GivenValues.{GivenValues}
use Rattle.pct_options.specs.FirstOption.{first_option}
use Rattle.pct_options.specs.GivenValues.{none_given, numbers_with, with_option, with_value}
use Rattle.pct_options.specs.OptionTexts.{value_of}
use Rattle.pct_options.proofs.FirstOptions.{given_first, given_none}
use Rattle.pct_options.proofs.OptionTexts.{value_as_read}

-- a number, if no value is given
abbrev alone : ℕ → List (List ℕ) → Option ℕ
alone n [] = Some n
alone n (text ∷ texts) = None

-- the number of an option with this default that may have one, and is given these values
abbrev number_with : Option ℕ → RunOption → ℕ → List (List ℕ) → Option ℕ
number_with None o default texts = number_by o default texts
number_with (Some n) o default texts = alone n texts

-- the numbers of a run with these values of the options, if each has one; the value of the turns is told by the budget
abbrev numbers_of : Option ℕ → Option ℕ → Option ℕ → Option ℕ → Option ℕ → (ℕ → Option ℕ) → Option RunOptions
numbers_of budget passes slots seed workers turns =
    budget >>= λ b. passes >>= λ p. slots >>= λ s. seed >>= λ d. workers >>= λ w. turns b >>= λ t.
    Some (record { config = record { budget = b; passes = p; slots = s; format = One }; seed = d; workers = w; turns = t })

-- each name is that of an option
abbrev are_named : List GivenOption → Bool
are_named given = list_all (λ g. list_any (is_named g.name) all_options) given

-- the number of each option with these values and these options
abbrev budget_with : GivenValues → List GivenOption → Option ℕ
budget_with held given = number_with held.budget option.Budget DEFAULT_BUDGET (values_given option.Budget given)

abbrev passes_with : GivenValues → List GivenOption → Option ℕ
passes_with held given = number_with held.passes option.Passes DEFAULT_PASSES (values_given option.Passes given)

abbrev slots_with : GivenValues → List GivenOption → Option ℕ
slots_with held given = number_with held.slots option.Slots DEFAULT_SLOTS (values_given option.Slots given)

abbrev seed_with : GivenValues → List GivenOption → Option ℕ
seed_with held given = number_with held.seed option.Seed DEFAULT_SEED (values_given option.Seed given)

abbrev workers_with : GivenValues → List GivenOption → Option ℕ
workers_with held given = number_with held.workers option.Workers DEFAULT_WORKERS (values_given option.Workers given)

-- that of the turns is told by the budget
abbrev turns_with : GivenValues → List GivenOption → ℕ → Option ℕ
turns_with held given budget = number_with held.turns option.Turns budget (values_given option.Turns given)

-- the numbers of a run with these values and these options
abbrev pub options_with : GivenValues → List GivenOption → Option RunOptions
options_with held given =
    cond (are_named given)
    (numbers_of (budget_with held given) (passes_with held given) (slots_with held given) (seed_with held given) (workers_with held given) (turns_with held given))
    None

-- ---- one option more

-- a value is the number of an option that has none, if no other is given
number_more_by : (o : RunOption) (default : ℕ) (before : Option ℕ) (text : List ℕ) (texts : List (List ℕ)) (b : Bool) → is_value o text ≡ b
    → number_with before o default (text ∷ texts) ≡ option_and_then (λ n. cond (is_some before) None (alone n texts)) (cond b (Some (digits_value 10 text)) None)
number_more_by o default (Some m) text texts true is = refl
number_more_by o default (Some m) text texts false is = refl
number_more_by o default None text [] true is = rw is refl
number_more_by o default None text [] false is = rw is refl
number_more_by o default None text (next ∷ texts) true is = refl
number_more_by o default None text (next ∷ texts) false is = refl

-- the number of an option whose first value is a text
abbrev number_first : RunOption → Option ℕ → List ℕ → List (List ℕ) → Option ℕ
number_first o before text texts = option_and_then (λ n. cond (is_some before) None (alone n texts)) (value_of o text)

number_more : (o : RunOption) (default : ℕ) (before : Option ℕ) (text : List ℕ) (texts : List (List ℕ)) → number_with before o default (text ∷ texts) ≡ number_first o before text texts
number_more o default before text texts =
    number_more_by o default before text texts (is_value o text) refl
    ∙ ap (λ (value : Option ℕ). option_and_then (λ n. cond (is_some before) None (alone n texts)) value) (sym (value_as_read o text))

-- without a number of an option there is no run
no_run : (named : Bool) (numbers : Option ℕ → Option RunOptions) → numbers None ≡ None → None ≡ cond named (numbers None) None
no_run true numbers none = sym none
no_run false numbers none = refl

-- the numbers of a run with one option more, which is given its value first
one_by : (given : List GivenOption) (numbers : Option ℕ → Option RunOptions) (with : ℕ → GivenValues) (number : ℕ → Option ℕ) (before value : Option ℕ) → numbers None ≡ None
    → ((n : ℕ) → options_with (with n) given ≡ cond (are_named given) (numbers (number n)) None)
    → option_and_then (λ held. options_with held given) (option_and_then (λ n. cond (is_some before) None (Some (with n))) value)
    ≡ cond (are_named given) (numbers (option_and_then (λ n. cond (is_some before) None (number n)) value)) None
one_by given numbers with number before None none is = no_run (are_named given) numbers none
one_by given numbers with number None (Some n) none is = is n
one_by given numbers with number (Some m) (Some n) none is = no_run (are_named given) numbers none

no_passes : (budget slots seed workers : Option ℕ) (turns : ℕ → Option ℕ) → numbers_of budget None slots seed workers turns ≡ None
no_passes None slots seed workers turns = refl
no_passes (Some budget) slots seed workers turns = refl

no_slots : (budget passes seed workers : Option ℕ) (turns : ℕ → Option ℕ) → numbers_of budget passes None seed workers turns ≡ None
no_slots None passes seed workers turns = refl
no_slots (Some budget) None seed workers turns = refl
no_slots (Some budget) (Some passes) seed workers turns = refl

no_seed : (budget passes slots workers : Option ℕ) (turns : ℕ → Option ℕ) → numbers_of budget passes slots None workers turns ≡ None
no_seed None passes slots workers turns = refl
no_seed (Some budget) None slots workers turns = refl
no_seed (Some budget) (Some passes) None workers turns = refl
no_seed (Some budget) (Some passes) (Some slots) workers turns = refl

no_workers : (budget passes slots seed : Option ℕ) (turns : ℕ → Option ℕ) → numbers_of budget passes slots seed None turns ≡ None
no_workers None passes slots seed turns = refl
no_workers (Some budget) None slots seed turns = refl
no_workers (Some budget) (Some passes) None seed turns = refl
no_workers (Some budget) (Some passes) (Some slots) None turns = refl
no_workers (Some budget) (Some passes) (Some slots) (Some seed) turns = refl

no_turns : (budget passes slots seed workers : Option ℕ) → numbers_of budget passes slots seed workers (λ b. None) ≡ None
no_turns None passes slots seed workers = refl
no_turns (Some budget) None slots seed workers = refl
no_turns (Some budget) (Some passes) None seed workers = refl
no_turns (Some budget) (Some passes) (Some slots) None workers = refl
no_turns (Some budget) (Some passes) (Some slots) (Some seed) None = refl
no_turns (Some budget) (Some passes) (Some slots) (Some seed) (Some workers) = refl

-- the turns matter at the budget alone
turns_more : (budget passes slots seed workers : Option ℕ) (turns others : ℕ → Option ℕ) → ((b : ℕ) → turns b ≡ others b) → numbers_of budget passes slots seed workers turns ≡ numbers_of budget passes slots seed workers others
turns_more None passes slots seed workers turns others same = refl
turns_more (Some budget) passes slots seed workers turns others same =
    ap (λ (t : Option ℕ). numbers_of (Some budget) passes slots seed workers (λ b. t)) (same budget)

-- an option and its value
known_option : (o : RunOption) (held : GivenValues) (text : List ℕ) (given : List GivenOption)
    → option_and_then (λ h. options_with h given) (option_and_then (with_value held o) (value_of o text)) ≡ options_with held (record { name = option_name o; value = text } ∷ given)
known_option option.Budget held text given =
    let texts = values_given option.Budget given in
    let numbers : Option ℕ → Option RunOptions = λ x. numbers_of x (passes_with held given) (slots_with held given) (seed_with held given) (workers_with held given) (turns_with held given) in
    one_by given numbers (λ n. record held { budget = Some n }) (λ n. alone n texts) held.budget (value_of option.Budget text) refl (λ n. refl)
    ∙ ap (λ (x : Option ℕ). cond (are_named given) (numbers x) None) (sym (number_more option.Budget DEFAULT_BUDGET held.budget text texts))
known_option option.Passes held text given =
    let texts = values_given option.Passes given in
    let numbers : Option ℕ → Option RunOptions = λ x. numbers_of (budget_with held given) x (slots_with held given) (seed_with held given) (workers_with held given) (turns_with held given) in
    one_by given numbers (λ n. record held { passes = Some n }) (λ n. alone n texts) held.passes (value_of option.Passes text) (no_passes (budget_with held given) (slots_with held given) (seed_with held given) (workers_with held given) (turns_with held given)) (λ n. refl)
    ∙ ap (λ (x : Option ℕ). cond (are_named given) (numbers x) None) (sym (number_more option.Passes DEFAULT_PASSES held.passes text texts))
known_option option.Slots held text given =
    let texts = values_given option.Slots given in
    let numbers : Option ℕ → Option RunOptions = λ x. numbers_of (budget_with held given) (passes_with held given) x (seed_with held given) (workers_with held given) (turns_with held given) in
    one_by given numbers (λ n. record held { slots = Some n }) (λ n. alone n texts) held.slots (value_of option.Slots text) (no_slots (budget_with held given) (passes_with held given) (seed_with held given) (workers_with held given) (turns_with held given)) (λ n. refl)
    ∙ ap (λ (x : Option ℕ). cond (are_named given) (numbers x) None) (sym (number_more option.Slots DEFAULT_SLOTS held.slots text texts))
known_option option.Seed held text given =
    let texts = values_given option.Seed given in
    let numbers : Option ℕ → Option RunOptions = λ x. numbers_of (budget_with held given) (passes_with held given) (slots_with held given) x (workers_with held given) (turns_with held given) in
    one_by given numbers (λ n. record held { seed = Some n }) (λ n. alone n texts) held.seed (value_of option.Seed text) (no_seed (budget_with held given) (passes_with held given) (slots_with held given) (workers_with held given) (turns_with held given)) (λ n. refl)
    ∙ ap (λ (x : Option ℕ). cond (are_named given) (numbers x) None) (sym (number_more option.Seed DEFAULT_SEED held.seed text texts))
known_option option.Workers held text given =
    let texts = values_given option.Workers given in
    let numbers : Option ℕ → Option RunOptions = λ x. numbers_of (budget_with held given) (passes_with held given) (slots_with held given) (seed_with held given) x (turns_with held given) in
    one_by given numbers (λ n. record held { workers = Some n }) (λ n. alone n texts) held.workers (value_of option.Workers text) (no_workers (budget_with held given) (passes_with held given) (slots_with held given) (seed_with held given) (turns_with held given)) (λ n. refl)
    ∙ ap (λ (x : Option ℕ). cond (are_named given) (numbers x) None) (sym (number_more option.Workers DEFAULT_WORKERS held.workers text texts))
known_option option.Turns held text given =
    let texts = values_given option.Turns given in
    let numbers : (ℕ → Option ℕ) → Option RunOptions = λ x. numbers_of (budget_with held given) (passes_with held given) (slots_with held given) (seed_with held given) (workers_with held given) x in
    one_by given (λ x. numbers (λ b. x)) (λ n. record held { turns = Some n }) (λ n. alone n texts) held.turns (value_of option.Turns text) (no_turns (budget_with held given) (passes_with held given) (slots_with held given) (seed_with held given) (workers_with held given)) (λ n. refl)
    ∙ ap (λ (run : Option RunOptions). cond (are_named given) run None)
    (turns_more (budget_with held given) (passes_with held given) (slots_with held given) (seed_with held given) (workers_with held given) (λ b. number_first option.Turns held.turns text texts) (λ b. number_with held.turns option.Turns b (text ∷ texts)) (λ b. sym (number_more option.Turns b held.turns text texts)))

-- ---- names

found_step : {A : Type 0} (b : Bool) (test : A → Bool) (x y : A) (rest : Option A) → test x ≡ b → cond b (Some x) rest ≡ Some y → (rest ≡ Some y → test y ≡ true) → test y ≡ true
found_step true test x y rest is found more = ap test (sym (same_Some x y found)) ∙ is
found_step false test x y rest is found more = more found

-- what is found passes the test
found_passes : {A : Type 0} (test : A → Bool) (xs : List A) (y : A) → find test xs ≡ Some y → test y ≡ true
found_passes test [] y found = absurd (none-some y found)
found_passes test (x ∷ xs) y found = found_step (test x) test x y (find test xs) refl found (found_passes test xs y)

none_step : {A : Type 0} (b any : Bool) (x : A) (rest : Option A) → cond b (Some x) rest ≡ None → (rest ≡ None → any ≡ false) → (b || any) ≡ false
none_step true any x rest none more = absurd (none-some x (sym none))
none_step false any x rest none more = more none

-- where nothing is found, none passes it
none_passes : {A : Type 0} (test : A → Bool) (xs : List A) → find test xs ≡ None → list_any test xs ≡ false
none_passes test [] none = refl
none_passes test (x ∷ xs) none = none_step (test x) (list_any test xs) x (find test xs) none (none_passes test xs)

by_name : (held : GivenValues) (g : GivenOption) (given : List GivenOption) (found : Option RunOption) → find (is_named g.name) all_options ≡ found
    → option_and_then (λ h. options_with h given) (option_and_then (λ o. option_and_then (with_value held o) (value_of o g.value)) found) ≡ options_with held (g ∷ given)
by_name held g given None is = rw (none_passes (is_named g.name) all_options is) refl
by_name held g given (Some o) is =
    known_option o held g.value given
    ∙ ap (λ (name : List ℕ). options_with held (record { name = name; value = g.value } ∷ given)) (sym (same_bytes g.name (option_name o) (found_passes (is_named g.name) all_options o is)))

-- the first option, and those after it
one_option : (held : GivenValues) (g : GivenOption) (given : List GivenOption) → option_and_then (λ h. options_with h given) (with_option held g) ≡ options_with held (g ∷ given)
unfolding with_option
one_option held g given = by_name held g given (find (is_named g.name) all_options) refl

-- ---- the words

-- the numbers of a run with these values and the options of these words
abbrev pub run_with : GivenValues → List (List ℕ) → Option RunOptions
run_with held words = option_and_then (options_with held) (given_after None words)

-- at first no option has a value
pub run_begins : (words : List (List ℕ)) → run_with none_given words ≡ option_and_then options_of (given_after None words)
unfolding options_of
run_begins words = refl

no_more : (with : Option GivenValues) → None ≡ option_and_then (λ h. option_and_then (options_with h) None) with
no_more None = refl
no_more (Some held) = refl

more_by : (held : GivenValues) (g : GivenOption) (given : Option (List GivenOption)) → option_and_then (options_with held) (option_map (λ rest. g ∷ rest) given) ≡ option_and_then (λ h. option_and_then (options_with h) given) (with_option held g)
more_by held g None = no_more (with_option held g)
more_by held g (Some given) = sym (one_option held g given)

-- an option that is read
pub run_goes_on : (held : GivenValues) (words after : List (List ℕ)) (g : GivenOption) → first_option words ≡ Some (g, after) → run_with held words ≡ option_and_then (λ h. run_with h after) (with_option held g)
run_goes_on held words after g is = ap (option_and_then (options_with held)) (given_first words after g is) ∙ more_by held g (given_after None after)

-- words that begin with no option
pub run_stops : (held : GivenValues) (words : List (List ℕ)) → 0 < length words → first_option words ≡ None → run_with held words ≡ None
run_stops held words some none = ap (option_and_then (options_with held)) (given_none words some none)

-- no word is left
number_is : (o : RunOption) (default : ℕ) (before : Option ℕ) → number_with before o default [] ≡ Some (unwrap_or before default)
number_is o default None = refl
number_is o default (Some n) = refl

pub run_of_none : (held : GivenValues) → run_with held [] ≡ Some (numbers_with held)
unfolding given_after
run_of_none held =
    rw (number_is option.Budget DEFAULT_BUDGET held.budget, number_is option.Passes DEFAULT_PASSES held.passes, number_is option.Slots DEFAULT_SLOTS held.slots, number_is option.Seed DEFAULT_SEED held.seed, number_is option.Workers DEFAULT_WORKERS held.workers, number_is option.Turns (unwrap_or held.budget DEFAULT_BUDGET) held.turns)
    refl
