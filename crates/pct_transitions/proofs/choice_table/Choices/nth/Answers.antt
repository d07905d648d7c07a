use Rattle.pct_names.proofs.Names.{ap, slice_get, sym, ◌∙◌}
use Rattle.pct_transitions.specs.Listed.{listed}
use Rattle.pct_transitions.specs.declared.choice_table.Choices.{Choices}
use Rattle.pct_transitions.proofs.choice_table.Choices.nth.Goals as goal

pub returns-in-New : goal.returns-in-New
returns-in-New c = c.nth_new.ensures c.args.keys.now ∙ ap (λ (choices : Choices). slice_get (listed c.args.threads.now c.args.keys.now choices) c.args.n) (sym c.in-New.is)

pub returns-in-NewKey : goal.returns-in-NewKey
returns-in-NewKey c = c.nth_new_key.ensures c.args.threads.now ∙ ap (λ (choices : Choices). slice_get (listed c.args.threads.now c.args.keys.now choices) c.args.n) (sym c.in-NewKey.is)

pub returns-in-Dtor : goal.returns-in-Dtor
returns-in-Dtor c = c.nth_dtor.ensures c.args.threads.now ∙ ap (λ (choices : Choices). slice_get (listed c.args.threads.now c.args.keys.now choices) c.args.n) (sym c.in-Dtor.is)
