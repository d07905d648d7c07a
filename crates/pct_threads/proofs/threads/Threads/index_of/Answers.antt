use Rattle.pct_names.proofs.Names.{ap, arith, sym, ◌∙◌, position}
use Rattle.pct_threads.specs.Slots.{has_id}
use Rattle.pct_threads.specs.Rows.{is_row}
use Rattle.pct_threads.proofs.RowLemmas.{count_seen, position_seen, id_in}
use Rattle.pct_threads.proofs.threads.Threads.index_of.Goals as goal

pub returns-clause-value : goal.returns-clause-value
returns-clause-value c =
    let id = c.args.id in
    c.row_with.ensures ∙ sym (position_seen (is_row id) (has_id id) (λ r ws. id_in r ws id) 0 c.self.inside.rows.items c.self.inside.stacks) ∙ ap (λ ss. position (has_id id) ss) c.self.view_is

pub returns-clause-few : goal.returns-clause-few
returns-clause-few c = omega (arith, count_seen c.self.inside.rows.items c.self.inside.stacks c.args.self.now c.self.view_is, c.self.invariant.1.few)
