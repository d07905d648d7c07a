use Rattle.pct_names.proofs.Names.{ap, List, map, strip_cr, sym, ◌∙◌, ℕ}
use Rattle.pct_report_reader.specs.Reading.{schedule_follows}
use Rattle.pct_text.proofs.Lines.{lines_of-nil}
use Rattle.pct_names.proofs.Names.{lines_of}
use Rattle.pct_report_reader.proofs.reader.schedule_follows.Goals as goal

pub returns-in-None : goal.returns-in-None
returns-in-None c =
    sym (ap (λ (text : List ℕ). schedule_follows c.args.format (map strip_cr (lines_of text))) c.in-None.ensures
    ∙ ap (λ (lines : List (List ℕ)). schedule_follows c.args.format (map strip_cr lines)) lines_of-nil)
