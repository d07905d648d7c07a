use Rattle.pct_names.proofs.Names.{arith}
use Rattle.pct_threads.proofs.RowLemmas.{opening_kept, opening_seen, opening_set}
use Rattle.pct_threads.proofs.threads.Threads.new.Goals as goal

pub invariant_of-result : goal.invariant_of-result
invariant_of-result c =
    let rows = c.free_all.new.rows.items in
    let n = c.args.slots in
    let made = c.free_all.ensures in
    let stacks = c.in_ok-stacks.stacks in
    (omega (arith, made.long, c.requires.some), opening_kept n rows stacks made.long made.made made.free c.requires.few made.deep c.in_ok-stacks.ensures, opening_set n rows stacks made.long made.made made.free c.new-2.result c.new-2.ensures, made.room)

pub returns : goal.returns
returns c = opening_seen c.args.slots c.free_all.new.rows.items c.in_ok-stacks.stacks c.free_all.ensures.long c.free_all.ensures.made c.free_all.ensures.free
