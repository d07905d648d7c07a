use Rattle.pct_names.proofs.Names.{map, sym, words_of, ◌∙◌}
use Rattle.pct_report_reader.specs.Forms.{as_form}
use Rattle.pct_report_reader.specs.Texts.{has_form}
use Rattle.pct_report_reader.proofs.WordsLeft.{list_any-map, list_any-never}
use Rattle.pct_report_reader.proofs.text.is_among.Goals as goal

pub returns-in-Some : goal.returns-in-Some
returns-in-Some c =
    rw c.in-Some.is (c.are_among.ensures ∙ sym (list_any-map (has_form (words_of c.in-Some.bytes.now)) as_form c.args.forms.now))

pub returns-in-None : goal.returns-in-None
returns-in-None c = rw c.in-None.is (sym (list_any-never (map as_form c.args.forms.now)))
