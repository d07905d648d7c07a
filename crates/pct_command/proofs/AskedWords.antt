-- What the words of the program ask for, and which part of an input is the script's.
use Rattle.pct_names.proofs.Names.{[], ap, asks_demo, Bool, bytes_eq, codes, cond, demo_number, false, false_from_ne_true, false≢true}
use Rattle.pct_names.proofs.Names.{if◌then◌else◌, inl, inr, is_accepted, ◌⊎◌}
use Rattle.pct_names.proofs.Names.{is_asked, is_some, Keyword, keyword_text, le_refl, length, List, needs_input, None, none-some, numeral}
use Rattle.pct_names.proofs.Names.{Option, option_map, option_map_or, or_parts, refl, run_options, RunOptions, script_part, Some, sym, take}
use Rattle.pct_names.proofs.Names.{take_all, true, ◌||◌, ◌&&◌, ℕ, ◌∙◌, ◌∷◌, ◌≡◌, ◌≤◌}
use Rattle.pct_names.proofs.Names.{and_parts, asks_sample, nat_le, option_and_then, sample_number, same_Some, seed_count, subst}
use Rattle.std.proofs.lemmas.Bool.{leb-true, true≢false}
use Rattle.pct_model.specs.declared.keyword.Keyword.TheVariants as keyword
use Rattle.pct_model.proofs.Bytes.{same_bytes}
use Rattle.pct_history.proofs.IllegalEntries.{has_value}
use Rattle.pct_options.proofs.Configs.{run_has_workers, run_is_within}
use Rattle.pct_command.specs.declared.words.Job.{Job}
use Rattle.pct_command.specs.declared.words.Job.TheVariants.{Run, Replay, Check, Points, Demo, Sample, Expect, Audit}
use Rattle.pct_command.specs.Words.{accepts, Asks, asks_audit, asks_expect, HasInput, HasScriptInput, job_asked, judges_report, parts_of_job, reads_input}

asked_is : (k : Keyword) (words : List (List ℕ)) → is_asked k words ≡ true → words ≡ keyword_text k ∷ []
unfolding is_asked
asked_is k [] asked = absurd (false≢true asked)
asked_is k (w ∷ []) asked = ap (λ (text : List ℕ). text ∷ []) (same_bytes w (keyword_text k) asked)
asked_is k (w ∷ next ∷ words) asked = absurd (false≢true asked)

-- a value comes only from the branch that has one
is_chosen : {A : Type 0} (b : Bool) (o : Option A) (x : A) → cond b o None ≡ Some x → b ≡ true
is_chosen true o x is = refl
is_chosen false o x is = absurd (none-some x is)

-- `run` and its options are not `replay`
not_replay : (command : List ℕ) (words : List (List ℕ)) → command ≡ keyword_text keyword.Run → is_asked keyword.Replay (command ∷ words) ≡ false
unfolding is_asked keyword_text
not_replay command [] is = ap (λ (w : List ℕ). is_asked keyword.Replay (w ∷ [])) is
not_replay command (next ∷ words) is = refl

pub run_is_no_replay : (words : List (List ℕ)) (options : RunOptions) → run_options words ≡ Some options → is_asked keyword.Replay words ≡ false
unfolding run_options
run_is_no_replay [] options asked = absurd (none-some options asked)
run_is_no_replay (command ∷ words) options asked =
    not_replay command words (same_bytes command (keyword_text keyword.Run) (is_chosen (bytes_eq command (keyword_text keyword.Run)) _ options asked))

-- ---- `demo` and a number

-- the words are `demo` and a text of this number
pub record AsksDemo (words : List (List ℕ)) (number : ℕ) : Type 0 where
  pub text : List ℕ
  pub are : words ≡ keyword_text keyword.Demo ∷ text ∷ []
  pub value : numeral text ≡ Some number

demo_by : (command text : List ℕ) (number : ℕ) (b : Bool) → bytes_eq command (keyword_text keyword.Demo) ≡ b → cond b (numeral text) None ≡ Some number → AsksDemo (command ∷ text ∷ []) number
demo_by command text number true same is = record { text = text; are = ap (λ (w : List ℕ). w ∷ text ∷ []) (same_bytes command (keyword_text keyword.Demo) same); value = is }
demo_by command text number false same is = absurd (none-some number is)

pub demo_words : (words : List (List ℕ)) (number : ℕ) → demo_number words ≡ Some number → AsksDemo words number
unfolding demo_number
demo_words [] number is = absurd (none-some number is)
demo_words (command ∷ []) number is = absurd (none-some number is)
demo_words (command ∷ text ∷ []) number is = demo_by command text number (bytes_eq command (keyword_text keyword.Demo)) refl is
demo_words (command ∷ text ∷ next ∷ words) number is = absurd (none-some number is)

-- words with a number
pub demo_asked : (words : List (List ℕ)) → asks_demo words ≡ true → (number : ℕ) × (demo_number words ≡ Some number)
demo_asked words asked = has_value (demo_number words) asked

-- `demo` needs no input
pub demo_needs_none : (words : List (List ℕ)) (number : ℕ) → demo_number words ≡ Some number → needs_input words ≡ false
unfolding run_options is_asked sample_number keyword_text
demo_needs_none words number asked = ap needs_input (demo_words words number asked).are

-- and it is not `points`
pub demo_is_no_points : (words : List (List ℕ)) (number : ℕ) → demo_number words ≡ Some number → is_asked keyword.Points words ≡ false
unfolding is_asked
demo_is_no_points words number asked = ap (is_asked keyword.Points) (demo_words words number asked).are

-- it reads no input
pub demo_reads_none : (words : List (List ℕ)) (number : ℕ) → demo_number words ≡ Some number → reads_input words ≡ false
unfolding run_options is_asked sample_number keyword_text asks_expect asks_audit
demo_reads_none words number asked = ap reads_input (demo_words words number asked).are

-- words that read an input are not `demo`
pub input_is_no_demo : (words : List (List ℕ)) → reads_input words ≡ true → asks_demo words ≡ true → ⊥
input_is_no_demo words reads asked =
    let number = demo_asked words asked in
    true≢false (sym reads ∙ demo_reads_none words number.0 number.1)

-- ---- `sample` and a number of seeds

-- the words are `sample` and a text of this number, which is within the limit
pub record AsksSample (words : List (List ℕ)) (seeds : ℕ) : Type 0 where
  pub text : List ℕ
  pub are : words ≡ keyword_text keyword.Sample ∷ text ∷ []
  pub value : seed_count text ≡ Some seeds

sample_by : (command text : List ℕ) (seeds : ℕ) (b : Bool) → bytes_eq command (keyword_text keyword.Sample) ≡ b → cond b (seed_count text) None ≡ Some seeds → AsksSample (command ∷ text ∷ []) seeds
sample_by command text seeds true same is = record { text = text; are = ap (λ (w : List ℕ). w ∷ text ∷ []) (same_bytes command (keyword_text keyword.Sample) same); value = is }
sample_by command text seeds false same is = absurd (none-some seeds is)

pub sample_words : (words : List (List ℕ)) (seeds : ℕ) → sample_number words ≡ Some seeds → AsksSample words seeds
unfolding sample_number
sample_words [] seeds is = absurd (none-some seeds is)
sample_words (command ∷ []) seeds is = absurd (none-some seeds is)
sample_words (command ∷ text ∷ []) seeds is = sample_by command text seeds (bytes_eq command (keyword_text keyword.Sample)) refl is
sample_words (command ∷ text ∷ next ∷ words) seeds is = absurd (none-some seeds is)

-- a number of seeds is from 1 to 10,000
within_by : (n seeds : ℕ) (b : Bool) → (nat_le 1 n && nat_le n 10000) ≡ b → cond b (Some n) None ≡ Some seeds → (1 ≤ seeds) × (seeds ≤ 10000)
within_by n seeds true within is =
    let parts = and_parts (nat_le 1 n) (nat_le n 10000) within in
    subst (λ (k : ℕ). (1 ≤ k) × (k ≤ 10000)) (same_Some n seeds is) (leb-true 1 n parts.0, leb-true n 10000 parts.1)
within_by n seeds false within is = absurd (none-some seeds is)

count_within : (given : Option ℕ) (seeds : ℕ) → option_and_then (λ n. cond (nat_le 1 n && nat_le n 10000) (Some n) None) given ≡ Some seeds → (1 ≤ seeds) × (seeds ≤ 10000)
count_within None seeds is = absurd (none-some seeds is)
count_within (Some n) seeds is = within_by n seeds (nat_le 1 n && nat_le n 10000) refl is

pub sample_within : (words : List (List ℕ)) (seeds : ℕ) → sample_number words ≡ Some seeds → (1 ≤ seeds) × (seeds ≤ 10000)
unfolding seed_count
sample_within words seeds asked = let parts = sample_words words seeds asked in count_within (numeral parts.text) seeds parts.value

-- ---- `expect` alone, and `audit` alone

expect_is : (words : List (List ℕ)) → asks_expect words ≡ true → words ≡ codes "expect" ∷ []
unfolding asks_expect
expect_is [] asked = absurd (false≢true asked)
expect_is (w ∷ []) asked = ap (λ (text : List ℕ). text ∷ []) (same_bytes w (codes "expect") asked)
expect_is (w ∷ next ∷ words) asked = absurd (false≢true asked)

audit_is : (words : List (List ℕ)) → asks_audit words ≡ true → words ≡ codes "audit" ∷ []
unfolding asks_audit
audit_is [] asked = absurd (false≢true asked)
audit_is (w ∷ []) asked = ap (λ (text : List ℕ). text ∷ []) (same_bytes w (codes "audit") asked)
audit_is (w ∷ next ∷ words) asked = absurd (false≢true asked)

-- one is not the other
pub expect_is_no_audit : (words : List (List ℕ)) → asks_expect words ≡ true → asks_audit words ≡ false
unfolding asks_audit
expect_is_no_audit words asked = ap asks_audit (expect_is words asked)

-- each judges a report
pub expect_judges : (words : List (List ℕ)) → asks_expect words ≡ true → judges_report words ≡ true
expect_judges words asked = ap (λ (b : Bool). b || asks_audit words) asked

or_right : (b c : Bool) → c ≡ true → (b || c) ≡ true
or_right true c is = refl
or_right false c is = is

pub audit_judges : (words : List (List ℕ)) → asks_audit words ≡ true → judges_report words ≡ true
audit_judges words asked = or_right (asks_expect words) (asks_audit words) asked

-- and no other word does
one_holds : (b c : Bool) → (b || c) ≡ true → (b ≡ true) ⊎ (c ≡ true)
one_holds true c is = inl refl
one_holds false c is = inr is

pub judging : (words : List (List ℕ)) → judges_report words ≡ true → (asks_expect words ≡ true) ⊎ (asks_audit words ≡ true)
judging words judges = one_holds (asks_expect words) (asks_audit words) judges

-- a test that both words fail is failed by those of every command that judges a report
both_fail : (test : List (List ℕ) → Bool) → test (codes "expect" ∷ []) ≡ false → test (codes "audit" ∷ []) ≡ false → (words : List (List ℕ)) → judges_report words ≡ true → test words ≡ false
both_fail test expect audit words judges = of_word (judging words judges)
  where
    of_word : (asks_expect words ≡ true) ⊎ (asks_audit words ≡ true) → test words ≡ false
    of_word (inl asked) = ap test (expect_is words asked) ∙ expect
    of_word (inr asked) = ap test (audit_is words asked) ∙ audit

-- it is no command on a script, nor one without an input
pub judging_is_no_other : (words : List (List ℕ)) → judges_report words ≡ true → is_accepted words ≡ false
unfolding run_options is_asked demo_number sample_number keyword_text
judging_is_no_other words judges = both_fail is_accepted refl refl words judges

judging_needs_none : (words : List (List ℕ)) → judges_report words ≡ true → needs_input words ≡ false
unfolding run_options is_asked sample_number keyword_text
judging_needs_none words judges = both_fail needs_input refl refl words judges

pub input_is_no_judging : (words : List (List ℕ)) → needs_input words ≡ true → judges_report words ≡ false
input_is_no_judging words needs = false_from_ne_true (judges_report words) (λ judges. true≢false (sym needs ∙ judging_needs_none words judges))

-- ---- the job

-- words that name a job name no other
pub names_job : (words : List (List ℕ)) (job : Job) → Asks words job → job_asked words ≡ Some job
unfolding run_options is_asked demo_number sample_number keyword_text asks_expect asks_audit
names_job words (Run options) asks =
    ap (λ (o : Option RunOptions). option_map_or (λ numbers. Some (Run numbers)) o (if is_asked keyword.Replay words then Some Replay else if is_asked keyword.Check words then Some Check else if is_asked keyword.Points words then Some Points else if asks_expect words then Some Expect else if asks_audit words then Some Audit else option_map_or (λ number. Some (Demo number)) (demo_number words) (option_map (λ seeds. Sample seeds) (sample_number words)))) asks
names_job words Replay asks = ap job_asked (asked_is keyword.Replay words asks)
names_job words Check asks = ap job_asked (asked_is keyword.Check words asks)
names_job words Points asks = ap job_asked (asked_is keyword.Points words asks)
names_job words (Demo number) asks =
    let parts = demo_words words number asks in
    ap job_asked parts.are ∙ ap (λ (o : Option ℕ). option_map_or (λ n. Some (Demo n)) o None) parts.value
names_job words (Sample seeds) asks =
    let parts = sample_words words seeds asks in
    ap job_asked parts.are ∙ ap (λ (o : Option ℕ). option_map (λ n. Sample n) o) parts.value
names_job words Expect asks = ap job_asked (expect_is words asks)
names_job words Audit asks = ap job_asked (audit_is words asks)

-- the job judges a report
abbrev pub is_judge : Option Job → Bool
is_judge (Some Expect) = true
is_judge (Some Audit) = true
is_judge _ = false

-- words that name another job judge none
pub other_job : (words : List (List ℕ)) (job : Job) → Asks words job → is_judge (Some job) ≡ false → judges_report words ≡ false
other_job words job asks other = false_from_ne_true (judges_report words) (λ judges. true≢false (of_word (judging words judges)))
  where
    of_word : (asks_expect words ≡ true) ⊎ (asks_audit words ≡ true) → true ≡ false
    of_word (inl asked) = ap is_judge (sym (names_job words Expect asked) ∙ names_job words job asks) ∙ other
    of_word (inr asked) = ap is_judge (sym (names_job words Audit asked) ∙ names_job words job asks) ∙ other

-- the options of a job, if it is a run
abbrev options_in : Option Job → Option RunOptions
options_in (Some (Run options)) = Some options
options_in _ = None

run_asked_by : (asked : Option RunOptions) (replay check points expect audit : Bool) (number seeds : Option ℕ) (options : RunOptions)
    → option_map_or (λ numbers. Some (Run numbers)) asked (if replay then Some Replay else if check then Some Check else if points then Some Points else if expect then Some Expect else if audit then Some Audit else option_map_or (λ n. Some (Demo n)) number (option_map (λ n. Sample n) seeds)) ≡ Some (Run options) → asked ≡ Some options
run_asked_by (Some numbers) replay check points expect audit number seeds options is = ap options_in is
run_asked_by None true check points expect audit number seeds options is = ap options_in is
run_asked_by None false true points expect audit number seeds options is = ap options_in is
run_asked_by None false false true expect audit number seeds options is = ap options_in is
run_asked_by None false false false true audit number seeds options is = ap options_in is
run_asked_by None false false false false true number seeds options is = ap options_in is
run_asked_by None false false false false false None None options is = ap options_in is
run_asked_by None false false false false false None (Some k) options is = ap options_in is
run_asked_by None false false false false false (Some n) seeds options is = ap options_in is

-- words that name a run give its options
pub run_asked : (words : List (List ℕ)) (options : RunOptions) → job_asked words ≡ Some (Run options) → run_options words ≡ Some options
run_asked words options named = run_asked_by (run_options words) (is_asked keyword.Replay words) (is_asked keyword.Check words) (is_asked keyword.Points words) (asks_expect words) (asks_audit words) (demo_number words) (sample_number words) options named

-- the job reads the input
abbrev pub NeedsInput : Job → Type 0
NeedsInput (Run options) = Unit {0}
NeedsInput Replay = Unit {0}
NeedsInput Check = Unit {0}
NeedsInput Points = ⊥
NeedsInput (Demo number) = ⊥
NeedsInput (Sample seeds) = Unit {0}
NeedsInput Expect = Unit {0}
NeedsInput Audit = Unit {0}

-- the options that words give have a configuration, workers and turns within the limits, and so has a number of seeds
pub has_input : (words : List (List ℕ)) (job : Job) → Asks words job → NeedsInput job → HasInput job
has_input words (Run options) asks needs = (run_is_within words options asks, run_has_workers words options asks)
has_input words Replay asks needs = tt
has_input words Check asks needs = tt
has_input words Points asks needs = needs
has_input words (Demo number) asks needs = needs
has_input words (Sample seeds) asks needs = sample_within words seeds asks
has_input words Expect asks needs = tt
has_input words Audit asks needs = tt

-- words that name a job with a script need an input
pub job_needs_input : (words : List (List ℕ)) (job : Job) → Asks words job → HasScriptInput job → needs_input words ≡ true
unfolding run_options is_asked sample_number keyword_text
job_needs_input words (Run options) asks has = ap (λ (o : Option RunOptions). is_some o || is_asked keyword.Replay words || is_asked keyword.Check words || asks_sample words) asks
job_needs_input words Replay asks has = ap needs_input (asked_is keyword.Replay words asks)
job_needs_input words Check asks has = ap needs_input (asked_is keyword.Check words asks)
job_needs_input words Points asks has = absurd has
job_needs_input words (Demo number) asks has = absurd has
job_needs_input words (Sample seeds) asks has =
    let parts = sample_words words seeds asks in
    ap needs_input parts.are ∙ ap (λ (o : Option ℕ). is_some o) parts.value
job_needs_input words Expect asks has = absurd has
job_needs_input words Audit asks has = absurd has

-- so do those of every job with an input
needing : (words : List (List ℕ)) → needs_input words ≡ true → reads_input words ≡ true
needing words needs = ap (λ (b : Bool). b || judges_report words) needs

pub job_reads_input : (words : List (List ℕ)) (job : Job) → Asks words job → HasInput job → reads_input words ≡ true
unfolding run_options is_asked sample_number keyword_text asks_expect asks_audit
job_reads_input words (Run options) asks has = needing words (job_needs_input words (Run options) asks has)
job_reads_input words Replay asks has = needing words (job_needs_input words Replay asks has)
job_reads_input words Check asks has = needing words (job_needs_input words Check asks has)
job_reads_input words Points asks has = absurd has
job_reads_input words (Demo number) asks has = absurd has
job_reads_input words (Sample seeds) asks has = needing words (job_needs_input words (Sample seeds) asks has)
job_reads_input words Expect asks has = ap reads_input (expect_is words asks)
job_reads_input words Audit asks has = ap reads_input (audit_is words asks)

-- `points` needs none, and is accepted
pub points_need_none : (words : List (List ℕ)) → is_asked keyword.Points words ≡ true → needs_input words ≡ false
unfolding run_options is_asked sample_number keyword_text
points_need_none words asked = ap needs_input (asked_is keyword.Points words asked)

pub points_read_none : (words : List (List ℕ)) → is_asked keyword.Points words ≡ true → reads_input words ≡ false
unfolding run_options is_asked sample_number keyword_text asks_expect asks_audit
points_read_none words asked = ap reads_input (asked_is keyword.Points words asked)

pub points_are_no_demo : (words : List (List ℕ)) → is_asked keyword.Points words ≡ true → asks_demo words ≡ false
unfolding demo_number
points_are_no_demo words asked = ap asks_demo (asked_is keyword.Points words asked)

-- the parts of words that are not accepted
pub record IsNone (words : List (List ℕ)) : Type 0 where
  pub needs_none : needs_input words ≡ false
  pub no_points : is_asked keyword.Points words ≡ false
  pub no_demo : asks_demo words ≡ false

pub none_asked : (words : List (List ℕ)) → is_accepted words ≡ false → IsNone words
none_asked words refused =
    let first = or_parts (needs_input words || is_asked keyword.Points words) (asks_demo words) refused in
    let second = or_parts (needs_input words) (is_asked keyword.Points words) first.0 in
    record { needs_none = second.0; no_points = second.1; no_demo = first.1 }

-- the parts of words that no command has
pub record IsNothing (words : List (List ℕ)) : Type 0 where
  pub refused : is_accepted words ≡ false
  pub no_judging : judges_report words ≡ false
  pub reads_none : reads_input words ≡ false

pub nothing_asked : (words : List (List ℕ)) → accepts words ≡ false → IsNothing words
nothing_asked words refused =
    let parts = or_parts (is_accepted words) (judges_report words) refused in
    record { refused = parts.0; no_judging = parts.1; reads_none = ap (λ (b : Bool). b || judges_report words) (none_asked words parts.0).needs_none ∙ parts.1 }

pub replay_asks_replay : is_asked keyword.Replay (keyword_text keyword.Replay ∷ []) ≡ true
unfolding is_asked keyword_text
replay_asks_replay = refl

-- all of the input of `run` is the script's
pub part_of_run : (words : List (List ℕ)) (input : List ℕ) (options : RunOptions) → run_options words ≡ Some options → script_part words input ≡ input
unfolding script_part
part_of_run words input options asked = rw (run_is_no_replay words options asked) refl

-- and of that of `check`
pub part_of_check : (words : List (List ℕ)) (input : List ℕ) → is_asked keyword.Check words ≡ true → script_part words input ≡ input
unfolding script_part is_asked keyword_text
part_of_check words input asked = ap (λ (w : List (List ℕ)). script_part w input) (asked_is keyword.Check words asked)

-- and of one of `points`
pub part_of_points : (words : List (List ℕ)) (input : List ℕ) → is_asked keyword.Points words ≡ true → script_part words input ≡ input
unfolding script_part is_asked keyword_text
part_of_points words input asked = ap (λ (w : List (List ℕ)). script_part w input) (asked_is keyword.Points words asked)

-- and of one of `demo`
pub part_of_demo : (words : List (List ℕ)) (input : List ℕ) (number : ℕ) → demo_number words ≡ Some number → script_part words input ≡ input
unfolding script_part is_asked
part_of_demo words input number asked = ap (λ (w : List (List ℕ)). script_part w input) (demo_words words number asked).are

-- and of that of `sample`
pub part_of_sample : (words : List (List ℕ)) (input : List ℕ) (seeds : ℕ) → sample_number words ≡ Some seeds → script_part words input ≡ input
unfolding script_part is_asked
part_of_sample words input seeds asked = ap (λ (w : List (List ℕ)). script_part w input) (sample_words words seeds asked).are

-- and of that of `expect`
part_of_expect : (words : List (List ℕ)) (input : List ℕ) → asks_expect words ≡ true → script_part words input ≡ input
unfolding script_part is_asked keyword_text
part_of_expect words input asked = ap (λ (w : List (List ℕ)). script_part w input) (expect_is words asked)

-- and of that of `audit`
part_of_audit : (words : List (List ℕ)) (input : List ℕ) → asks_audit words ≡ true → script_part words input ≡ input
unfolding script_part is_asked keyword_text
part_of_audit words input asked = ap (λ (w : List (List ℕ)). script_part w input) (audit_is words asked)

-- the script's part of the input of a job
pub part_of_job : (words : List (List ℕ)) (job : Job) (input : List ℕ) → Asks words job → script_part words input ≡ take (parts_of_job job input).0 input
unfolding script_part is_asked keyword_text
part_of_job words (Run options) input asks = part_of_run words input options asks ∙ sym (take_all (length input) input (le_refl _))
part_of_job words Replay input asks = ap (λ (w : List (List ℕ)). script_part w input) (asked_is keyword.Replay words asks)
part_of_job words Check input asks = part_of_check words input asks ∙ sym (take_all (length input) input (le_refl _))
part_of_job words Points input asks = part_of_points words input asks ∙ sym (take_all (length input) input (le_refl _))
part_of_job words (Demo number) input asks = part_of_demo words input number asks ∙ sym (take_all (length input) input (le_refl _))
part_of_job words (Sample seeds) input asks = part_of_sample words input seeds asks ∙ sym (take_all (length input) input (le_refl _))
part_of_job words Expect input asks = part_of_expect words input asks ∙ sym (take_all (length input) input (le_refl _))
part_of_job words Audit input asks = part_of_audit words input asks ∙ sym (take_all (length input) input (le_refl _))

-- what ends where the input was split is the script's part
pub is_part : (words : List (List ℕ)) (job : Job) (input : List ℕ) (parts : ℕ × ℕ) → Asks words job → parts ≡ parts_of_job job input → take parts.0 input ≡ script_part words input
is_part words job input parts asks same = ap (λ (p : ℕ × ℕ). take p.0 input) same ∙ sym (part_of_job words job input asks)
