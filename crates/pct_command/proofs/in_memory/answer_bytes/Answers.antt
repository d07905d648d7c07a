use Rattle.pct_names.proofs.Names.{false_from_ne_true, false≢true, is_asked, map, rules, string_bytes, true, ◌≡◌}
use Rattle.pct_model.specs.declared.keyword.Keyword.TheVariants as keyword
use Rattle.pct_command.specs.Words.{accepts}
use Rattle.pct_command.proofs.AskedWords.{NeedsInput, has_input}
use Rattle.pct_command.proofs.Outcomes.{words-answer, points-answer}
use Rattle.pct_command.proofs.in_memory.answer_bytes.Goals as goal

pub returns-in-Err : goal.returns-in-Err
returns-in-Err g c =
    let words = map string_bytes c.args.words.now in
    words-answer words c.args.input.now (false_from_ne_true (accepts words) (λ accepted. false≢true (c.in-Err.ensures.accepted.1 accepted)))

pub returns-in-Ok-Points : goal.returns-in-Ok-Points
returns-in-Ok-Points g c =
    let words = map string_bytes c.args.words.now in
    let asked : is_asked keyword.Points words ≡ true = rw c.in-Ok-Points.field-0-is at c.in-Ok-Points.ensures.job in
    points-answer words c.args.input.now asked

pub answer_text-requires-after_bounds : goal.answer_text-requires-after_bounds
answer_text-requires-after_bounds g c κs within =
    let needs : NeedsInput c.in-Ok.job = search rules in
    has_input (map string_bytes c.args.words.now) c.in-Ok.job c.in-Ok.ensures.job needs

pub returns-in-Ok-Demo : goal.returns-in-Ok-Demo
returns-in-Ok-Demo g c =
    let words = map string_bytes c.args.words.now in
    c.demonstrate.ensures.answer words c.args.input.now (rw c.in-Ok-Demo.field-0-is at c.in-Ok-Demo.ensures.job)
