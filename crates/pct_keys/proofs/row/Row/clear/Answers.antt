use Rattle.pct_names.proofs.Names.{ap, without_value, ◌∙◌}
use Rattle.pct_keys.proofs.NoValues.{unset-without, without_value-none}
use Rattle.pct_keys.proofs.row.Row.clear.Goals as goal

pub invariant_of-self : goal.invariant_of-self
invariant_of-self c = (
  c.self.invariant.0,
  unset-without (record { values = c.self.inside.values; in_pass = c.self.inside.in_pass }) c.self.inside.end c.args.place c.self.invariant.1,
  λ none. ap (without_value c.args.place) (c.self.invariant.2 none) ∙ without_value-none c.args.place,
)
