use Rattle.pct_names.proofs.Names.{ap, arith, option_map}
use Rattle.pct_threads.proofs.RowLemmas.{row_read, holds_within, held_read}
use Rattle.pct_threads.proofs.threads.Threads.read.Goals as goal

pub index-requires : goal.index-requires
index-requires g c = omega (arith, holds_within c.self.inside.rows.items c.self.inside.stacks c.self.invariant.1 c.args.self.now c.self.view_is c.args.slot c.requires, c.self.inside.rows.ok)

pub returns-clause-value : goal.returns-clause-value
returns-clause-value g c =
    let rows = c.self.inside.rows.items in
    let stacks = c.self.inside.stacks in
    let kept = c.self.invariant.1 in
    let slot = c.args.slot in
    let holds = c.requires in
    let inside = holds_within rows stacks kept c.args.self.now c.self.view_is slot holds in
    let x = c.index.result.now in
    let is_x = row_read rows slot x inside c.index.ensures in
    ap (option_map (λ h. h.thread)) (held_read rows stacks c.args.self.now c.self.view_is slot x is_x holds)
