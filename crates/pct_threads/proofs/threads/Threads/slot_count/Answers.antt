use Rattle.pct_names.proofs.Names.{arith}
use Rattle.pct_threads.proofs.RowLemmas.{count_seen}
use Rattle.pct_threads.proofs.threads.Threads.slot_count.Goals as goal

pub returns-clause-value : goal.returns-clause-value
returns-clause-value c = omega (arith, c.len.ensures, count_seen c.self.inside.rows.items c.self.inside.stacks c.args.self.now c.self.view_is, c.self.inside.rows.ok)

pub returns-clause-few : goal.returns-clause-few
returns-clause-few c = omega (arith, c.len.ensures, c.self.invariant.1.few, c.self.inside.rows.ok)
