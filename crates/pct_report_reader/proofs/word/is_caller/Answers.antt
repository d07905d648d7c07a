use Rattle.pct_names.proofs.Names.{ap, bytes_eq, caller_name, is_some, ◌∙◌}
use Rattle.pct_report_reader.specs.Texts.{callers, is_caller}
use Rattle.pct_report_reader.proofs.FirstFound.{found_if_any}
use Rattle.pct_report_reader.proofs.word.is_caller.Goals as goal

pub returns : goal.returns
unfolding is_caller
returns c = c.is_some.ensures ∙ ap is_some c.caller_of.ensures ∙ found_if_any (λ call. bytes_eq (caller_name call) c.args.word.now) callers
