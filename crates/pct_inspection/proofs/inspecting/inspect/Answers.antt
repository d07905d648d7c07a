use Rattle.pct_names.proofs.Names.{inl, inr, map, refl, string_bytes}
use Rattle.pct_io.proofs.Unchanged.{KeepsInners-refl}
use Rattle.pct_command.specs.Command.{Outside, Decides}
use Rattle.pct_command.proofs.CompleteOutcomes.{decides}
use Rattle.pct_inspection.specs.Words.{is_inspection}
use Rattle.pct_inspection.specs.Inspection.{IsInspected}
use Rattle.pct_inspection.specs.Answer.{code_of_answer, text_of_answer}
use Rattle.pct_inspection.proofs.CompleteOutcomes.{complete}
use Rattle.pct_inspection.proofs.inspecting.inspect.Goals as goal

pub returns-in_default-Ok-clause-answers : goal.returns-in_default-Ok-clause-answers
returns-in_default-Ok-clause-answers g c =
    let before : Outside = record { left = g.S.Source.left c.args.source.now; read_errors = g.S.Source.errors c.args.source.now; written = g.K.Sink.written c.args.sink.now; write_errors = g.K.Sink.errors c.args.sink.now } in
    let after : Outside = record { left = g.S.Source.left c.answer_words.new.source; read_errors = g.S.Source.errors c.answer_words.new.source; written = g.K.Sink.written c.give_answer.new.sink; write_errors = g.K.Sink.errors c.give_answer.new.sink } in
    let read = c.in-Ok.ensures.answer in
    let words = map string_bytes c.args.words.now in
    let whole : Decides (is_inspection words) (IsInspected words) before after (code_of_answer c.in-Ok.answer) = record {
      input = read.input;
      read = read.read;
      output = record { text = text_of_answer c.in-Ok.answer; answer = read.is_answer; wrote = (rw c.in_default-Ok.is-1 at c.give_answer.ensures.written.ok) };
    } in
    decides (is_inspection words) (is_inspection words) (IsInspected words) before after c.give_answer.result.0 c.give_answer.ensures.answered (rw c.give_answer.ensures.status whole)

pub returns-in_default-Ok-clause-complete : goal.returns-in_default-Ok-clause-complete
returns-in_default-Ok-clause-complete g c =
    let before : Outside = record { left = g.S.Source.left c.args.source.now; read_errors = g.S.Source.errors c.args.source.now; written = g.K.Sink.written c.args.sink.now; write_errors = g.K.Sink.errors c.args.sink.now } in
    let after : Outside = record { left = g.S.Source.left c.answer_words.new.source; read_errors = g.S.Source.errors c.answer_words.new.source; written = g.K.Sink.written c.give_answer.new.sink; write_errors = g.K.Sink.errors c.give_answer.new.sink } in
    rw c.give_answer.ensures.status (complete (map string_bytes c.args.words.now) before after c.in-Ok.answer c.in-Ok.ensures.answer (rw c.in_default-Ok.is-1 at c.give_answer.ensures.written.ok))

pub returns-in_default-Err-clause-answers : goal.returns-in_default-Err-clause-answers
returns-in_default-Err-clause-answers g c =
    let read = c.in-Ok.ensures.answer in
    record {
      input = read.input;
      output = record { code = code_of_answer c.in-Ok.answer; text = text_of_answer c.in-Ok.answer; answer = read.is_answer; wrote = (rw c.in_default-Err.is-1 at c.give_answer.ensures.written.err); cause = (rw c.in_default-Err.is-1 at c.give_answer.ensures.written.cause) };
      read = read.read;
    }

pub returns-in-Err-ReadFault-clause-inners : goal.returns-in-Err-ReadFault-clause-inners
returns-in-Err-ReadFault-clause-inners g c = KeepsInners-refl _

pub returns-in-Err-NoMemory-clause-inners : goal.returns-in-Err-NoMemory-clause-inners
returns-in-Err-NoMemory-clause-inners g c = KeepsInners-refl _

pub returns-in_default-Err-clause-untouched : goal.returns-in_default-Err-clause-untouched
returns-in_default-Err-clause-untouched g c = λ either. elim either [
  | inl is ↦ absurd cc
  | inr is ↦ absurd cc
]

pub returns-in_default-Err-clause-read_errors : goal.returns-in_default-Err-clause-read_errors
returns-in_default-Err-clause-read_errors g c = record { error = λ is. absurd cc; no_error = λ _. c.in-Ok.ensures.reads.no_error (λ is. absurd cc) }

pub returns-in_default-Err-clause-write_errors : goal.returns-in_default-Err-clause-write_errors
returns-in_default-Err-clause-write_errors g c = record { error = λ _. (rw c.in_default-Err.is-1 at c.give_answer.ensures.written.cause); no_error = λ other. absurd (other refl) }
