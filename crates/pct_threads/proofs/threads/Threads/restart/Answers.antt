use Rattle.pct_names.proofs.Names.{arith, ◌∙◌}
use Rattle.pct_stack.specs.Stacks.{all_free}
use Rattle.pct_threads.proofs.RowLemmas.{opening_kept, opening_seen, opening_set}
use Rattle.pct_threads.proofs.threads.Threads.restart.Goals as goal

pub invariant_of-self : goal.invariant_of-self
invariant_of-self c =
    let n = c.args.slots in
    let rows = c.free_all.new.rows.items in
    let stacks = c.reset.new.self in
    let made = c.free_all.ensures in
    let kept = c.self.invariant.1 in
    (omega (arith, made.long, c.requires.some), opening_kept n rows stacks made.long made.made made.free c.requires.few made.deep (c.reset.ensures ∙ (λ i. all_free (kept.count i) (kept.width i))), opening_set n rows stacks made.long made.made made.free c.new-self-inside.result c.new-self-inside.ensures, made.room)

pub returns : goal.returns
returns c = opening_seen c.args.slots c.free_all.new.rows.items c.reset.new.self c.free_all.ensures.long c.free_all.ensures.made c.free_all.ensures.free
