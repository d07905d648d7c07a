use Rattle.pct_names.proofs.Names.{inl, inr, map, refl, string_bytes, ◌∙◌, ◌≡◌}
use Rattle.pct_io.proofs.Unchanged.{KeepsInners-refl}
use Rattle.pct_command.specs.Command.{Outside, IsAnswer, Decides}
use Rattle.pct_command.specs.Words.{reads_input, takes_memory}
use Rattle.pct_command.specs.declared.answers.Answer.{Answer}
use Rattle.pct_command.specs.declared.answers.Answer.TheVariants as answer
use Rattle.pct_command.specs.declared.status.Status.TheVariants as status
use Rattle.pct_command.specs.Answer.{IsDemonstration, status_of_answer, code_of_answer, text_of_answer}
use Rattle.pct_command.proofs.AskedWords.{input_is_no_demo}
use Rattle.pct_command.proofs.CompleteOutcomes.{complete, decides}
use Rattle.pct_command.proofs.dispatch.command.Goals as goal

pub returns-in_default-Ok-clause-answers : goal.returns-in_default-Ok-clause-answers
returns-in_default-Ok-clause-answers g c =
    let before : Outside = record { left = g.S.Source.left c.args.source.now; read_errors = g.S.Source.errors c.args.source.now; written = g.K.Sink.written c.args.sink.now; write_errors = g.K.Sink.errors c.args.sink.now } in
    let after : Outside = record { left = g.S.Source.left c.answer_words.new.source; read_errors = g.S.Source.errors c.answer_words.new.source; written = g.K.Sink.written c.give_answer.new.sink; write_errors = g.K.Sink.errors c.give_answer.new.sink } in
    let read = c.in-Ok.ensures.answer in
    let words = map string_bytes c.args.words.now in
    let whole : Decides (reads_input words) (IsAnswer words) before after (code_of_answer c.in-Ok.answer) = record {
      input = read.input;
      read = read.read;
      output = record { text = text_of_answer c.in-Ok.answer; answer = read.is_answer; wrote = (rw c.in_default-Ok.is-1 at c.give_answer.ensures.written.ok) };
    } in
    decides (reads_input words) (takes_memory words) (IsAnswer words) before after c.give_answer.result.0 c.give_answer.ensures.answered (rw c.give_answer.ensures.status whole)

pub returns-in_default-Ok-clause-complete : goal.returns-in_default-Ok-clause-complete
returns-in_default-Ok-clause-complete g c =
    let before : Outside = record { left = g.S.Source.left c.args.source.now; read_errors = g.S.Source.errors c.args.source.now; written = g.K.Sink.written c.args.sink.now; write_errors = g.K.Sink.errors c.args.sink.now } in
    let after : Outside = record { left = g.S.Source.left c.answer_words.new.source; read_errors = g.S.Source.errors c.answer_words.new.source; written = g.K.Sink.written c.give_answer.new.sink; write_errors = g.K.Sink.errors c.give_answer.new.sink } in
    rw c.give_answer.ensures.status (complete (map string_bytes c.args.words.now) before after c.in-Ok.answer c.in-Ok.ensures.answer (rw c.in_default-Ok.is-1 at c.give_answer.ensures.written.ok))

pub returns-in_default-Err-clause-answers : goal.returns-in_default-Err-clause-answers
returns-in_default-Err-clause-answers g c =
    let read = c.in-Ok.ensures.answer in
    record {
      input = read.input;
      output = record { code = code_of_answer c.in-Ok.answer; text = text_of_answer c.in-Ok.answer; answer = read.is_answer; wrote = (rw c.in_default-Err.is-1 at c.give_answer.ensures.written.err); cause = (rw c.in_default-Err.is-1 at c.give_answer.ensures.written.cause) };
      read = read.read;
    }

pub returns-in-Err-ReadFault-clause-inners : goal.returns-in-Err-ReadFault-clause-inners
returns-in-Err-ReadFault-clause-inners g c = KeepsInners-refl _

pub returns-in-Err-NoMemory-clause-inners : goal.returns-in-Err-NoMemory-clause-inners
returns-in-Err-NoMemory-clause-inners g c = KeepsInners-refl _

-- the status of a demonstration
demonstration-status : (a : Answer) → IsDemonstration a → status_of_answer a ≡ status.Complete
demonstration-status (answer.Refused why) is = absurd is
demonstration-status (answer.Ran engine) is = absurd is
demonstration-status (answer.Checked script) is = absurd is
demonstration-status answer.Points is = absurd is
demonstration-status (answer.Demonstrated number engine) is = refl
demonstration-status (answer.Sampled seeds tally) is = absurd is
demonstration-status (answer.Judged j) is = absurd is
demonstration-status (answer.Audited a) is = absurd is

pub returns-in_default-Ok-clause-demo : goal.returns-in_default-Ok-clause-demo
returns-in_default-Ok-clause-demo g c = λ asked.
    let demo = c.in-Ok.ensures.demo asked in
    (demo.0, inl (c.give_answer.ensures.status ∙ demonstration-status c.in-Ok.answer demo.1))

pub returns-in_default-Err-clause-untouched : goal.returns-in_default-Err-clause-untouched
returns-in_default-Err-clause-untouched g c = λ either. elim either [
  | inl is ↦ absurd cc
  | inr is ↦ absurd cc
]

pub returns-in_default-Err-clause-read_errors : goal.returns-in_default-Err-clause-read_errors
returns-in_default-Err-clause-read_errors g c = record { error = λ is. absurd cc; no_error = λ _. c.in-Ok.ensures.reads.no_error (λ is. absurd cc) }

pub returns-in_default-Err-clause-write_errors : goal.returns-in_default-Err-clause-write_errors
returns-in_default-Err-clause-write_errors g c = record { error = λ _. (rw c.in_default-Err.is-1 at c.give_answer.ensures.written.cause); no_error = λ other. absurd (other refl) }

pub returns-in-Err-ReadFault-clause-demo : goal.returns-in-Err-ReadFault-clause-demo
returns-in-Err-ReadFault-clause-demo g c = λ asked.
    absurd (input_is_no_demo (map string_bytes c.args.words.now) (c.in-Err-ReadFault.ensures.read (rw c.in-Err-ReadFault.field-0-is refl)) asked)

pub returns-in_default-Ok-clause-untouched : goal.returns-in_default-Ok-clause-untouched
returns-in_default-Ok-clause-untouched g c = λ either. elim either [
  | inl is ↦ absurd (c.give_answer.ensures.answered.no_read_fault is)
  | inr is ↦ absurd (c.give_answer.ensures.answered.some_memory is)
]
