use Rattle.pct_names.proofs.Names.{ap, LineKind, sym, syntax_of, ◌∙◌}
use Rattle.pct_printer.proofs.Writings.{Writes-as}
use Rattle.pct_printer.proofs.printer.write_first_word.Goals as goal

pub returns-in-Point : goal.returns-in-Point
unfolding syntax_of
returns-in-Point g c = Writes-as (c.point_name.ensures ∙ sym (ap (λ (f : LineKind). (syntax_of f).keyword) c.in-Point.is)) c.write_all.ensures
