use Rattle.pct_names.proofs.Names.{ap, arith, refl, option_map}
use Rattle.pct_threads.specs.Slots.{with_record, with_change}
use Rattle.pct_threads.proofs.RowLemmas.{row_read, holds_within, is_held, held_read, step_kept, step_some, step_seen, step_same, record_step}
use Rattle.pct_threads.proofs.threads.Threads.write.Goals as goal

pub index_mut-requires : goal.index_mut-requires
index_mut-requires g c = omega (arith, holds_within c.self.inside.rows.items c.self.inside.stacks c.self.invariant.1 c.args.self.now c.self.view_is c.args.slot c.requires, c.self.inside.rows.ok)

pub invariant_of-self-lent : goal.invariant_of-self-lent
invariant_of-self-lent g c =
    let rows = c.self.inside.rows.items in
    let stacks = c.self.inside.stacks in
    let kept = c.self.invariant.1 in
    let slot = c.args.slot in
    let holds = c.requires in
    let inside = holds_within rows stacks kept c.args.self.now c.self.view_is slot holds in
    let x = c.index_mut.result.now in
    let is_x = row_read rows slot x inside c.index_mut.ensures.value in
    let held = is_held rows stacks kept c.args.self.now c.self.view_is slot holds x is_x in
    λ t. (step_some rows stacks kept slot inside x is_x (record x { thread = t }) stacks (with_change (with_record t)) (record_step x stacks slot t held) c.self.invariant.0, step_kept rows stacks kept slot inside x is_x (record x { thread = t }) stacks (with_change (with_record t)) (record_step x stacks slot t held), step_same rows stacks kept slot inside x is_x (record x { thread = t }) stacks (with_change (with_record t)) (record_step x stacks slot t held) c.self.inside.occupied c.self.invariant.2 refl, c.self.invariant.3)

pub returns : goal.returns
returns g c =
    let rows = c.self.inside.rows.items in
    let stacks = c.self.inside.stacks in
    let kept = c.self.invariant.1 in
    let slot = c.args.slot in
    let holds = c.requires in
    let inside = holds_within rows stacks kept c.args.self.now c.self.view_is slot holds in
    let x = c.index_mut.result.now in
    let is_x = row_read rows slot x inside c.index_mut.ensures.value in
    let held = is_held rows stacks kept c.args.self.now c.self.view_is slot holds x is_x in
    ((refl, λ t. step_seen rows stacks kept slot inside x is_x (record x { thread = t }) stacks (with_change (with_record t)) (record_step x stacks slot t held) c.args.self.now c.self.view_is), record { lends = tt; value = ap (option_map (λ h. h.thread)) (held_read rows stacks c.args.self.now c.self.view_is slot x is_x holds); count = c.tick.ensures })
