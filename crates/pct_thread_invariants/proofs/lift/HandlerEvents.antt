-- The events that a fork handler is called: there is one for each phase of a fork.
use Rattle.pct_names.proofs.Names.{handler_event, Parent, Phase, Prepare, What, ℕ}
use Rattle.pct_model.specs.declared.event.What.TheVariants as what
use Rattle.pct_model.specs.declared.state.Phase.TheVariants.{Child}

-- what holds of each of the three events holds of the one of a phase
pub of_each_phase : (P : What → Type 0) (f : ℕ) → P (what.PrepareRun f) → P (what.ParentRun f) → P (what.ChildRun f) → (phase : Phase) → P (handler_event phase f)
of_each_phase P f prepare parent child Prepare = prepare
of_each_phase P f prepare parent child Parent = parent
of_each_phase P f prepare parent child Child = child
