use Rattle.pct_names.proofs.Names.{arith, refl}
use Rattle.pct_command.proofs.AskedWords.{job_reads_input}
use Rattle.pct_command.proofs.Outcomes.{input-answer}
use Rattle.pct_command.proofs.CompleteOutcomes.{front_length}
use Rattle.pct_command.proofs.dispatch.answer_input.Goals as goal

pub returns-in-Err-TooLong-clause-answer : goal.returns-in-Err-TooLong-clause-answer
returns-in-Err-TooLong-clause-answer g c = λ words asks.
    let over = c.in-Err-TooLong.ensures.too_long (rw c.in-Err-TooLong.field-0-is refl) in
    let accepted = job_reads_input words c.args.job asks c.requires in
    record {
      input = over.0;
      read = record { prefix = over.1.prefix; to_end = λ _ not_long. absurd (not_long refl) };
      is_answer = input-answer words over.0 accepted over.1.bound;
      of_all = λ left has. input-answer words left accepted (omega (arith, over.1.bound, front_length _ _ over.0 left over.1.prefix has));
    }
