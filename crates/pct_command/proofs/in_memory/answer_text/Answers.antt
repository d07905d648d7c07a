use Rattle.pct_names.proofs.Names.{arith}
use Rattle.pct_command.proofs.AskedWords.{job_reads_input}
use Rattle.pct_command.proofs.Outcomes.{input-answer}
use Rattle.pct_command.proofs.in_memory.answer_text.Goals as goal

-- an input that is too long is refused
pub returns-then-input : goal.returns-then-input
returns-then-input g c = λ words asks. input-answer words c.args.input.now (job_reads_input words c.args.job asks c.requires) (omega (arith, c.if-input.true))
