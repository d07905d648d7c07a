use Rattle.pct_names.proofs.Names.{statement_words, sym}
use Rattle.pct_printer.proofs.Printed.{joined}
use Rattle.pct_printer.proofs.Writings.{Writes-as}
use Rattle.pct_printer.proofs.printer.write_statement_words.Goals as goal

pub returns : goal.returns
unfolding statement_words
returns g c = Writes-as (sym (joined _ _)) (rw c.encode.ensures at c.write_encoded.ensures)
