use Rattle.pct_names.proofs.Names.{◌++◌, codes}
use Rattle.pct_view_texts.specs.Fields.{phrase_text}
use Rattle.pct_view_texts.specs.States.{exit_function_phrase}
use Rattle.pct_view_texts.proofs.PhraseTexts.{none_first, none_left}
use Rattle.pct_view_texts.proofs.registered.push_exit_functions.Goals as goal

pub returns : goal.returns
returns c = none_left (λ f. codes ", " ++ phrase_text (exit_function_phrase c.args.script.now f)) c.loop-function.left _ _ (none_first c.loop-function.left c.newest.result c.newest.ensures c.in_default.not-Some) c.loop-function.invariant
