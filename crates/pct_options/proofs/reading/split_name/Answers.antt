use Rattle.pct_names.proofs.Names.{arith, split_once_first}
use Rattle.pct_options.proofs.FirstOptions.{split_as_read}
use Rattle.pct_options.proofs.reading.split_name.Goals as goal

pub returns : goal.returns
returns c = split_as_read c.args.word.now c.split_once.result (split_once_first 61 c.args.word.now c.split_once.result c.split_once.ensures.cases (omega arith))
