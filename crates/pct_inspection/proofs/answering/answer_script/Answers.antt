use Rattle.pct_names.proofs.Names.{ap, List, refl, Some, Spells, subst, take, take-length, ℕ, ◌∙◌}
use Rattle.pct_command.proofs.NonEmptyTexts.{needs_bytes, faultless_bytes, some_of_prefix}
use Rattle.pct_inspection.specs.declared.words.Inspection.{Inspection}
use Rattle.pct_inspection.specs.TallyOutcomes.{IsAccepted, parts_for}
use Rattle.pct_inspection.proofs.Inputs.{is_script, has-parts, script_part}
use Rattle.pct_inspection.proofs.Outcomes.{script-answer}
use Rattle.pct_inspection.proofs.answering.answer_script.Goals as goal

pub returns-in-Continue-clause-answer : goal.returns-in-Continue-clause-answer
returns-in-Continue-clause-answer g c = λ words asks.
    let input = c.args.input.now in
    c.continue_script.ensures words input (asks ∙ ap Some c.in-Continue.is)
    (has-parts input c.in-Ok.script c.parts_of-end.result c.requires.fits (c.parts_of-end.ensures.parts ∙ ap (λ (asked : Inspection). parts_for asked input) c.in-Continue.is) c.in-Ok.ensures.spelled)

pub returns-in-Continue-clause-memory : goal.returns-in-Continue-clause-memory
returns-in-Continue-clause-memory g c = λ _.
    some_of_prefix c.parts_of-end.result.0 c.args.input.now (faultless_bytes (take c.parts_of-end.result.0 c.args.input.now) c.in-Ok.ensures.faultless)

pub returns-in-Show-clause-answer : goal.returns-in-Show-clause-answer
returns-in-Show-clause-answer g c = λ words asks.
    let input = c.args.input.now in
    let parts = c.parts_of-end.result in
    let same = c.parts_of-end.ensures.parts ∙ ap (λ (asked : Inspection). parts_for asked input) c.in-Show.is in
    c.show_script.ensures words input (asks ∙ ap Some c.in-Show.is) (has-parts input c.in-Ok.script parts c.requires.fits same c.in-Ok.ensures.spelled) (is_script input parts same)

pub returns-in-Show-clause-memory : goal.returns-in-Show-clause-memory
returns-in-Show-clause-memory g c = λ _.
    some_of_prefix c.parts_of-end.result.0 c.args.input.now (faultless_bytes (take c.parts_of-end.result.0 c.args.input.now) c.in-Ok.ensures.faultless)

pub tally_script-requires-clause-tallied : goal.tally_script-requires-clause-tallied
tally_script-requires-clause-tallied g c = λ _ _. subst IsAccepted c.in-Tally.is c.requires.accepted

pub returns-in-Tally-clause-answer : goal.returns-in-Tally-clause-answer
returns-in-Tally-clause-answer g c = λ words asks.
    let input = c.args.input.now in
    let same = c.parts_of-end.ensures.parts ∙ ap (λ (asked : Inspection). parts_for asked input) c.in-Tally.is in
    c.tally_script.ensures words input (asks ∙ ap Some c.in-Tally.is) c.requires.fits
    (subst (λ (text : List ℕ). Spells text c.in-Ok.script) (ap (λ (p : ℕ × ℕ). take p.0 input) same ∙ take-length input) c.in-Ok.ensures.spelled)

pub returns-in-Tally-clause-memory : goal.returns-in-Tally-clause-memory
returns-in-Tally-clause-memory g c = λ _.
    some_of_prefix c.parts_of-end.result.0 c.args.input.now (faultless_bytes (take c.parts_of-end.result.0 c.args.input.now) c.in-Ok.ensures.faultless)

pub returns-in-Err-Refused-clause-answer : goal.returns-in-Err-Refused-clause-answer
returns-in-Err-Refused-clause-answer g c = λ words asks.
    let input = c.args.input.now in
    let parts = c.parts_of-end.result in
    rw c.in-Err-Refused.field-0-is
    (script-answer words input (take parts.0 input) c.args.asked c.in-Err-Refused.line c.in-Err-Refused.why asks (script_part c.args.asked input parts c.requires.script c.parts_of-end.ensures.parts) c.requires.fits
    (rw c.in-Err-Refused.field-0-is at c.in-Err-Refused.ensures.refused))

pub returns-in-Err-NoMemory-clause-memory : goal.returns-in-Err-NoMemory-clause-memory
returns-in-Err-NoMemory-clause-memory g c = λ _.
    some_of_prefix c.parts_of-end.result.0 c.args.input.now
    (needs_bytes (take c.parts_of-end.result.0 c.args.input.now) (c.in-Err-NoMemory.ensures.memory (rw c.in-Err-NoMemory.field-0-is refl)))

pub survey_script-requires-clause-accepted : goal.survey_script-requires-clause-accepted
survey_script-requires-clause-accepted g c = λ _ _. subst IsAccepted c.in-Survey.is c.requires.accepted

pub returns-in-Survey-clause-answer : goal.returns-in-Survey-clause-answer
returns-in-Survey-clause-answer g c = λ words asks.
    let input = c.args.input.now in
    c.survey_script.ensures words input (asks ∙ ap Some c.in-Survey.is)
    (has-parts input c.in-Ok.script c.parts_of-end.result c.requires.fits (c.parts_of-end.ensures.parts ∙ ap (λ (asked : Inspection). parts_for asked input) c.in-Survey.is) c.in-Ok.ensures.spelled)

pub returns-in-Survey-clause-memory : goal.returns-in-Survey-clause-memory
returns-in-Survey-clause-memory g c = λ _.
    some_of_prefix c.parts_of-end.result.0 c.args.input.now (faultless_bytes (take c.parts_of-end.result.0 c.args.input.now) c.in-Ok.ensures.faultless)
