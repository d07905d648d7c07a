use Rattle.pct_names.proofs.Names.{[], refl, sym, words_in}
use Rattle.pct_expect.proofs.RulesRead.{one_read, one_refused}
use Rattle.pct_expect.proofs.parsing.one_pattern.Goals as goal

pub returns-then-is_pattern : goal.returns-then-is_pattern
returns-then-is_pattern c = λ n. one_read n c.args.kind c.args.number (words_in c.args.bytes.now) (words_in []) refl (sym c.if-is_pattern.ensures)

pub returns-else-is_pattern : goal.returns-else-is_pattern
returns-else-is_pattern c = λ n. sym (one_refused n c.args.kind c.args.number (words_in c.args.bytes.now) (sym c.if-is_pattern.ensures))
