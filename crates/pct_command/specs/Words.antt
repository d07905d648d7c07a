-- The command that the words of the program name.
use Rattle.std.specs.Prelude.{◌≡◌, ℕ, ◌≤◌, true, false, if◌then◌else◌, Bool, ◌||◌, List, [], ◌∷◌, length, Option, Some, option_map, bytes_eq, codes}
use Rattle.std.specs.Option.{option_map_or}
use Rattle.pct_model.specs.declared.keyword.Keyword.TheVariants as keyword
use Rattle.pct_model.specs.declared.limits.TheConstants.{MAX_SEEDS}
use Rattle.pct_model.specs.Schedule.{replay_parts}
use Rattle.pct_model.specs.Demo.{demo_number}
use Rattle.pct_model.specs.Outcome.{is_asked, is_accepted, needs_input, asks_demo}
use Rattle.pct_model.specs.Run.{is_config}
use Rattle.pct_model.specs.RunOptions.{HasWorkers, run_options}
use Rattle.pct_model.specs.Sample.{sample_number}
use Rattle.pct_command.specs.declared.words.Job.{Job}
use Rattle.pct_command.specs.declared.words.Job.TheVariants.{Run, Replay, Check, Points, Demo, Sample, Expect, Audit}

-- the words are `expect` alone
unfoldable pub asks_expect : List (List ℕ) → Bool
asks_expect [] = false
asks_expect (word ∷ []) = bytes_eq word (codes "expect")
asks_expect (word ∷ next ∷ words) = false

-- the words are `audit` alone
unfoldable pub asks_audit : List (List ℕ) → Bool
asks_audit [] = false
asks_audit (word ∷ []) = bytes_eq word (codes "audit")
asks_audit (word ∷ next ∷ words) = false

-- the words of a command that judges the report in its input: `expect` alone, or `audit` alone
abbrev pub judges_report : List (List ℕ) → Bool
judges_report words = asks_expect words || asks_audit words

-- the words of a command that reads the input: those of a command on a script (Outcome.antt), or of one that judges a report
abbrev pub reads_input : List (List ℕ) → Bool
reads_input words = needs_input words || judges_report words

-- the words of every command
abbrev pub accepts : List (List ℕ) → Bool
accepts words = is_accepted words || judges_report words

-- the words name this job; `run` has the numbers of its options
abbrev pub Asks : List (List ℕ) → Job → Type 0
Asks words (Run options) = run_options words ≡ Some options
Asks words Replay = is_asked keyword.Replay words ≡ true
Asks words Check = is_asked keyword.Check words ≡ true
Asks words Points = is_asked keyword.Points words ≡ true
Asks words (Demo number) = demo_number words ≡ Some number
Asks words (Sample seeds) = sample_number words ≡ Some seeds
Asks words Expect = asks_expect words ≡ true
Asks words Audit = asks_audit words ≡ true

-- the job that the words name, if they are accepted
abbrev pub job_asked : List (List ℕ) → Option Job
job_asked words =
    option_map_or (λ options. Some (Run options)) (run_options words) (
    if is_asked keyword.Replay words then Some Replay
    else if is_asked keyword.Check words then Some Check
    else if is_asked keyword.Points words then Some Points
    else if asks_expect words then Some Expect
    else if asks_audit words then Some Audit
    else option_map_or (λ number. Some (Demo number)) (demo_number words) (option_map (λ seeds. Sample seeds) (sample_number words))
    )

-- the job reads the input, and the configuration of a run, its workers and their turns, and a number of seeds are within the limits
abbrev pub HasInput : Job → Type 0
HasInput (Run options) = (is_config options.config ≡ true) × HasWorkers options
HasInput Replay = Unit {0}
HasInput Check = Unit {0}
HasInput Points = ⊥
HasInput (Demo number) = ⊥
HasInput (Sample seeds) = (1 ≤ seeds) × (seeds ≤ MAX_SEEDS)
HasInput Expect = Unit {0}
HasInput Audit = Unit {0}

-- the input that the job reads has a script
abbrev pub HasScriptInput : Job → Type 0
HasScriptInput Expect = ⊥
HasScriptInput Audit = ⊥
HasScriptInput job = HasInput job

-- where the script's part of an input ends, and where its schedule's part begins
abbrev pub parts_of_job : Job → List ℕ → ℕ × ℕ
parts_of_job (Run options) input = (length input, length input)
parts_of_job Replay input = replay_parts input
parts_of_job Check input = (length input, length input)
parts_of_job Points input = (length input, length input)
parts_of_job (Demo number) input = (length input, length input)
parts_of_job (Sample seeds) input = (length input, length input)
parts_of_job Expect input = (length input, length input)
parts_of_job Audit input = (length input, length input)

-- the command that the words name takes memory: all that are accepted do, but `points`
abbrev pub takes_memory : List (List ℕ) → Bool
takes_memory words = reads_input words || asks_demo words
