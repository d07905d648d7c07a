use Rattle.std.proofs.Common.{sym}
use Rattle.pct_stack.proofs.RowLemmas.{count_of}
use Rattle.pct_stack.proofs.grid.Grid.row_count.Goals as goal

pub returns-clause-value : goal.returns-clause-value
returns-clause-value c = sym (count_of c.self.inside.room c.self.inside.rows c.self.inside.width c.self.inside.words.words c.args.self.now c.self.view_is)
