use Rattle.pct_names.proofs.Names.{ap, arith, length, sym, ◌∙◌, ◌≡◌, ◌<◌, ◌*◌}
use Rattle.pct_threads.specs.Tables.{slot_at}
use Rattle.pct_threads.proofs.RowLemmas.{row_read, count_seen, made_read}
use Rattle.pct_threads.proofs.threads.Threads.next_id.Goals as goal

pub index-requires : goal.index-requires
index-requires c = omega (arith, count_seen c.self.inside.rows.items c.self.inside.stacks c.args.self.now c.self.view_is, c.requires.within, c.self.inside.rows.ok)

pub overflow_mul-result : goal.overflow_mul-result
overflow_mul-result c =
    let rows = c.self.inside.rows.items in
    let stacks = c.self.inside.stacks in
    let seen = c.args.self.now in
    let slot = c.args.slot in
    let inside : slot < length rows = omega (arith, count_seen c.self.inside.rows.items c.self.inside.stacks c.args.self.now c.self.view_is, c.requires.within) in
    let x = c.index.result.now in
    let is_x = row_read rows slot x inside c.index.ensures in
    let made = made_read rows stacks seen c.self.view_is slot x is_x in
    let e : c.slot_count.result * x.made ≡ length seen * (slot_at seen slot).made = ap (λ n. n * x.made) c.slot_count.ensures.value ∙ ap (λ m. length seen * m) (sym made) in
    record { fits = omega (arith, e, c.requires.fits) }

pub overflow_add-result : goal.overflow_add-result
overflow_add-result c =
    let rows = c.self.inside.rows.items in
    let stacks = c.self.inside.stacks in
    let seen = c.args.self.now in
    let slot = c.args.slot in
    let inside : slot < length rows = omega (arith, count_seen c.self.inside.rows.items c.self.inside.stacks c.args.self.now c.self.view_is, c.requires.within) in
    let x = c.index.result.now in
    let is_x = row_read rows slot x inside c.index.ensures in
    let made = made_read rows stacks seen c.self.view_is slot x is_x in
    let e : c.slot_count.result * x.made ≡ length seen * (slot_at seen slot).made = ap (λ n. n * x.made) c.slot_count.ensures.value ∙ ap (λ m. length seen * m) (sym made) in
    record { fits = omega (arith, e, c.requires.fits) }

pub overflow_add-result-2 : goal.overflow_add-result-2
overflow_add-result-2 c =
    let rows = c.self.inside.rows.items in
    let stacks = c.self.inside.stacks in
    let seen = c.args.self.now in
    let slot = c.args.slot in
    let inside : slot < length rows = omega (arith, count_seen c.self.inside.rows.items c.self.inside.stacks c.args.self.now c.self.view_is, c.requires.within) in
    let x = c.index.result.now in
    let is_x = row_read rows slot x inside c.index.ensures in
    let made = made_read rows stacks seen c.self.view_is slot x is_x in
    let e : c.slot_count.result * x.made ≡ length seen * (slot_at seen slot).made = ap (λ n. n * x.made) c.slot_count.ensures.value ∙ ap (λ m. length seen * m) (sym made) in
    record { fits = omega (arith, e, c.requires.fits) }

pub returns : goal.returns
returns c =
    let rows = c.self.inside.rows.items in
    let stacks = c.self.inside.stacks in
    let seen = c.args.self.now in
    let slot = c.args.slot in
    let inside : slot < length rows = omega (arith, count_seen c.self.inside.rows.items c.self.inside.stacks c.args.self.now c.self.view_is, c.requires.within) in
    let x = c.index.result.now in
    let is_x = row_read rows slot x inside c.index.ensures in
    let made = made_read rows stacks seen c.self.view_is slot x is_x in
    let e : c.slot_count.result * x.made ≡ length seen * (slot_at seen slot).made = ap (λ n. n * x.made) c.slot_count.ensures.value ∙ ap (λ m. length seen * m) (sym made) in
    omega (arith, e)
