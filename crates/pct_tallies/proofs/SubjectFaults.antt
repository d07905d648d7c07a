-- The first tally of another subject.
use Rattle.std.proofs.Common.{◌≡◌, List, ◌∷◌, Some, None, [], refl}
use Rattle.pct_tallies.specs.declared.fault.TallyWhy.{TallyWhy}
use Rattle.pct_tallies.specs.declared.range_tally.PlacedTally.{PlacedTally}
use Rattle.pct_tallies.specs.declared.range_tally.Subject.{Subject}
use Rattle.pct_tallies.specs.Totals.{first_subject_fault, subject_fault}

pub here : (subject : Subject) (placed : PlacedTally) (tallies : List PlacedTally) (why : TallyWhy) → subject_fault subject placed.range.subject ≡ Some why
    → first_subject_fault subject (placed ∷ tallies) ≡ Some (placed.line, why)
unfolding first_subject_fault
here subject placed tallies why is = rw is refl

pub later : (subject : Subject) (placed : PlacedTally) (tallies : List PlacedTally) → subject_fault subject placed.range.subject ≡ None
    → first_subject_fault subject (placed ∷ tallies) ≡ first_subject_fault subject tallies
unfolding first_subject_fault
later subject placed tallies is = rw is refl

pub nowhere : (subject : Subject) → first_subject_fault subject [] ≡ None
unfolding first_subject_fault
nowhere subject = refl
