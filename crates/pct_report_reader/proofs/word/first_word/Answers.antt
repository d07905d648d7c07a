use Rattle.pct_names.proofs.Names.{sym}
use Rattle.pct_text.proofs.Lines.{words_of-last, words_of-split_once}
use Rattle.pct_report_reader.proofs.word.first_word.Goals as goal

pub returns-in-Some : goal.returns-in-Some
returns-in-Some c = words_of-split_once c.args.bytes.now (c.in-Some.word.now, c.in-Some.after.now) (sym c.in-Some.ensures)

pub returns-in-None : goal.returns-in-None
returns-in-None c = words_of-last c.args.bytes.now (sym c.in-None.ensures)
