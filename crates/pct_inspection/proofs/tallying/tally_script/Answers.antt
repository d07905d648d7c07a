use Rattle.pct_names.proofs.Names.{ap, List, ℕ}
use Rattle.pct_model.specs.declared.limits.TheConstants.{DEFAULT_BUDGET, DEFAULT_PASSES, DEFAULT_SLOTS}
use Rattle.pct_tallies.specs.declared.range_tally.Subject.{Subject}
use Rattle.pct_inspection.proofs.Outcomes.{tally-answer}
use Rattle.pct_inspection.proofs.tallying.tally_script.Goals as goal

abbrev subject_with : List ℕ → Subject
subject_with digest = record { digest = digest; limits = record { budget = DEFAULT_BUDGET; passes = DEFAULT_PASSES; slots = DEFAULT_SLOTS } }

pub returns : goal.returns
returns g c = λ words input asks fits spelled.
    tally-answer words input c.args.seeds c.args.script.now (subject_with c.in_ok-digest_of.field-0) c.in_ok-tally.tally asks fits spelled
    (ap subject_with c.in_ok-digest_of.ensures) c.in_ok-tally.ensures.tally c.in_ok-tally.ensures.first
