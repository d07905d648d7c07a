use Rattle.pct_names.proofs.Names.{arith, length, ◌∙◌, ◌<◌}
use Rattle.pct_threads.proofs.RowLemmas.{row_read, count_seen, id_read}
use Rattle.pct_threads.proofs.threads.Threads.has_id.Goals as goal

pub index-requires : goal.index-requires
index-requires c = omega (arith, count_seen c.self.inside.rows.items c.self.inside.stacks c.args.self.now c.self.view_is, c.requires, c.self.inside.rows.ok)

pub returns : goal.returns
returns c =
    let rows = c.self.inside.rows.items in
    let stacks = c.self.inside.stacks in
    let seen = c.args.self.now in
    let slot = c.args.slot in
    let inside : slot < length rows = omega (arith, count_seen c.self.inside.rows.items c.self.inside.stacks c.args.self.now c.self.view_is, c.requires) in
    let x = c.index.result.now in
    let is_x = row_read rows slot x inside c.index.ensures in
    c.has_id.ensures ∙ id_read rows stacks seen c.self.view_is slot x is_x c.args.id
