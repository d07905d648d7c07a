use Rattle.pct_names.proofs.Names.{[], ap, asks_demo, Bool, Consumes-nil, demo_number, false, false≢true, is_asked, List, map}
use Rattle.pct_names.proofs.Names.{refl, rules, Some, string_bytes, sym, true, ◌||◌, ℕ, ◌∙◌, ◌≡◌}
use Rattle.std.proofs.lemmas.Bool.{true≢false}
use Rattle.pct_model.specs.declared.keyword.Keyword.TheVariants as keyword
use Rattle.pct_command.specs.declared.words.Job.{Job}
use Rattle.pct_command.specs.Words.{accepts, Asks, reads_input}
use Rattle.pct_command.proofs.AskedWords.{NeedsInput, has_input, job_reads_input, points_read_none, points_are_no_demo, demo_reads_none, demo_is_no_points, input_is_no_demo, nothing_asked}
use Rattle.pct_command.proofs.Outcomes.{words-answer, points-answer}
use Rattle.pct_command.proofs.dispatch.answer_words.Goals as goal

-- words that the reader of words refused are not accepted
refused : (b : Bool) → (b ≡ true → ⊥) → b ≡ false
refused true h = absurd (h refl)
refused false h = refl

pub returns-in-Err-clause-answer : goal.returns-in-Err-clause-answer
returns-in-Err-clause-answer g c =
    let words = map string_bytes c.args.words.now in
    let not_accepted : accepts words ≡ false = refused (accepts words) (λ accepted. false≢true (c.in-Err.ensures.accepted.1 accepted)) in
    record {
      input = [];
      read = record { prefix = Consumes-nil _; to_end = λ needs _. absurd (true≢false (sym needs ∙ (nothing_asked words not_accepted).reads_none)) };
      is_answer = words-answer words [] not_accepted;
      of_all = λ left _. words-answer words left not_accepted;
    }

-- `points` reads nothing
pub returns-in-Ok-Points-clause-answer : goal.returns-in-Ok-Points-clause-answer
returns-in-Ok-Points-clause-answer g c =
    let words = map string_bytes c.args.words.now in
    let asked : is_asked keyword.Points words ≡ true = rw c.in-Ok-Points.field-0-is at c.in-Ok-Points.ensures.job in
    record {
      input = [];
      read = record { prefix = Consumes-nil _; to_end = λ needs _. absurd (true≢false (sym needs ∙ points_read_none words asked)) };
      is_answer = points-answer words [] asked;
      of_all = λ left _. points-answer words left asked;
    }

-- the other jobs read an input
pub answer_input-requires-after_bounds : goal.answer_input-requires-after_bounds
answer_input-requires-after_bounds g c κs within =
    let needs : NeedsInput c.in-Ok.job = search rules in
    has_input (map string_bytes c.args.words.now) c.in-Ok.job c.in-Ok.ensures.job needs

-- the words of the other jobs read an input
words_read_input : (words : List (List ℕ)) (job : Job) → Asks words job → NeedsInput job → reads_input words ≡ true
words_read_input words job asks needs = job_reads_input words job asks (has_input words job asks needs)

pub returns-in-Ok-clause-points : goal.returns-in-Ok-clause-points
returns-in-Ok-clause-points g c = λ asked.
    let words = map string_bytes c.args.words.now in
    let needs : NeedsInput c.in-Ok.job = search rules in
    absurd (true≢false (sym (words_read_input words c.in-Ok.job c.in-Ok.ensures.job needs) ∙ points_read_none words asked))

pub returns-in-Ok-clause-read : goal.returns-in-Ok-clause-read
returns-in-Ok-clause-read g c = λ _.
    let needs : NeedsInput c.in-Ok.job = search rules in
    words_read_input (map string_bytes c.args.words.now) c.in-Ok.job c.in-Ok.ensures.job needs

pub returns-in-Ok-clause-memory : goal.returns-in-Ok-clause-memory
returns-in-Ok-clause-memory g c = λ _.
    let words = map string_bytes c.args.words.now in
    let needs : NeedsInput c.in-Ok.job = search rules in
    ap (λ (b : Bool). b || asks_demo words) (words_read_input words c.in-Ok.job c.in-Ok.ensures.job needs)

pub returns-in-Ok-clause-demo : goal.returns-in-Ok-clause-demo
returns-in-Ok-clause-demo g c = λ asked.
    let words = map string_bytes c.args.words.now in
    let needs : NeedsInput c.in-Ok.job = search rules in
    absurd (input_is_no_demo words (words_read_input words c.in-Ok.job c.in-Ok.ensures.job needs) asked)

pub returns-in-Ok-clause-reads : goal.returns-in-Ok-clause-reads
returns-in-Ok-clause-reads g c =
    let reads = c.answer_input.ensures.reads in
    record { prefix = reads.prefix; memory = λ _. reads.memory refl; cause = reads.cause; no_error = reads.no_error }

pub returns-in-Ok-Points-clause-demo : goal.returns-in-Ok-Points-clause-demo
returns-in-Ok-Points-clause-demo g c = λ demo.
    let words = map string_bytes c.args.words.now in
    let asked : is_asked keyword.Points words ≡ true = rw c.in-Ok-Points.field-0-is at c.in-Ok-Points.ensures.job in
    absurd (true≢false (sym demo ∙ points_are_no_demo words asked))

-- `demo` reads nothing
pub returns-in-Ok-demonstrate-clause-answer : goal.returns-in-Ok-demonstrate-clause-answer
returns-in-Ok-demonstrate-clause-answer g c =
    let words = map string_bytes c.args.words.now in
    let asked : demo_number words ≡ Some c.in-Ok-Demo.number = rw c.in-Ok-Demo.field-0-is at c.in-Ok-Demo.ensures.job in
    record {
      input = [];
      read = record { prefix = Consumes-nil _; to_end = λ needs _. absurd (true≢false (sym needs ∙ demo_reads_none words c.in-Ok-Demo.number asked)) };
      is_answer = c.in-Ok-demonstrate.ensures.answer words [] asked;
      of_all = λ left _. c.in-Ok-demonstrate.ensures.answer words left asked;
    }

pub returns-in-Ok-demonstrate-clause-points : goal.returns-in-Ok-demonstrate-clause-points
returns-in-Ok-demonstrate-clause-points g c = λ points.
    let words = map string_bytes c.args.words.now in
    let asked : demo_number words ≡ Some c.in-Ok-Demo.number = rw c.in-Ok-Demo.field-0-is at c.in-Ok-Demo.ensures.job in
    absurd (true≢false (sym points ∙ demo_is_no_points words c.in-Ok-Demo.number asked))

pub returns-in-Err-demonstrate-clause-points : goal.returns-in-Err-demonstrate-clause-points
returns-in-Err-demonstrate-clause-points g c = λ points.
    let words = map string_bytes c.args.words.now in
    let asked : demo_number words ≡ Some c.in-Ok-Demo.number = rw c.in-Ok-Demo.field-0-is at c.in-Ok-Demo.ensures.job in
    absurd (true≢false (sym points ∙ demo_is_no_points words c.in-Ok-Demo.number asked))
