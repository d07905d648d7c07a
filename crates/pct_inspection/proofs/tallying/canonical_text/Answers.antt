use Rattle.pct_names.proofs.Names.{◌++◌, ap, canon, List, ℕ, ◌∙◌}
use Rattle.pct_inspection.proofs.tallying.canonical_text.Goals as goal

pub returns-in-Ok : goal.returns-in-Ok
returns-in-Ok c = c.into_bytes.ensures ∙ c.in-Ok.ensures.ok ∙ ap (λ (text : List ℕ). text ++ canon c.args.script.now) c.new-text.ensures
