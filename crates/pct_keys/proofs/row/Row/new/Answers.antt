use Rattle.pct_names.proofs.Names.{arith, refl}
use Rattle.pct_keys.proofs.NoValues.{unset-new}
use Rattle.pct_keys.proofs.row.Row.new.Goals as goal

pub invariant_of-result : goal.invariant_of-result
invariant_of-result c = (omega arith, unset-new, λ none. refl)
