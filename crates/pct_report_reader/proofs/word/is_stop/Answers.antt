use Rattle.pct_names.proofs.Names.{ap, is_some, ◌∙◌}
use Rattle.pct_report_reader.specs.Texts.{has_name, is_stop, stops}
use Rattle.pct_report_reader.proofs.FirstFound.{found_if_any}
use Rattle.pct_report_reader.proofs.word.is_stop.Goals as goal

pub returns : goal.returns
unfolding is_stop
returns c = c.is_some.ensures ∙ ap is_some c.stop_of.ensures ∙ found_if_any (has_name c.args.class c.args.word.now) stops
