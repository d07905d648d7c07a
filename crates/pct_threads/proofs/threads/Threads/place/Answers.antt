use Rattle.pct_names.proofs.Names.{ap, arith, Some, Option, Bool, sym, option_map, ◌∙◌, ℕ}
use Rattle.pct_stack.specs.Stacks.{words_at}
use Rattle.pct_threads.specs.declared.record.Place.{Place}
use Rattle.pct_threads.specs.Slots.{place_of}
use Rattle.pct_threads.proofs.StackFrameLemmas.{length-frames}
use Rattle.pct_threads.proofs.RowLemmas.{row_read, holds_within, is_held, held_read}
use Rattle.pct_threads.proofs.threads.Threads.place.Goals as goal

pub index-requires : goal.index-requires
index-requires c = omega (arith, holds_within c.self.inside.rows.items c.self.inside.stacks c.self.invariant.1 c.args.self.now c.self.view_is c.args.slot c.requires, c.self.inside.rows.ok)

pub returns-clause-value : goal.returns-clause-value
returns-clause-value c =
    let rows = c.self.inside.rows.items in
    let stacks = c.self.inside.stacks in
    let kept = c.self.invariant.1 in
    let slot = c.args.slot in
    let holds = c.requires in
    let inside = holds_within rows stacks kept c.args.self.now c.self.view_is slot holds in
    let x = c.index.result.now in
    let is_x = row_read rows slot x inside c.index.ensures in
    ap (option_map place_of) (held_read rows stacks c.args.self.now c.self.view_is slot x is_x holds)
    ∙ ap (λ d. some_place x.id x.detached d) (length-frames (words_at stacks slot) x.depth) ∙ ap Some (sym c.place.ensures)
  where
    some_place : ℕ → Bool → ℕ → Option Place
    some_place id detached depth = Some (record { id = id; detached = detached; depth = depth })

pub returns-clause-fits : goal.returns-clause-fits
returns-clause-fits c =
    let rows = c.self.inside.rows.items in
    let stacks = c.self.inside.stacks in
    let kept = c.self.invariant.1 in
    let slot = c.args.slot in
    let holds = c.requires in
    let inside = holds_within rows stacks kept c.args.self.now c.self.view_is slot holds in
    let x = c.index.result.now in
    let is_x = row_read rows slot x inside c.index.ensures in
    omega (arith, ap (λ (p : Place). p.depth) c.place.ensures, (is_held rows stacks kept c.args.self.now c.self.view_is slot holds x is_x).deep)
