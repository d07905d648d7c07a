use Rattle.pct_names.proofs.Names.{map, zip}
use Rattle.pct_view_texts.specs.States.{value_words}
use Rattle.pct_view_texts.proofs.PhraseTexts.{collected}
use Rattle.pct_view_texts.proofs.values.push_globals.Goals as goal

pub returns : goal.returns
returns c = c.push_phrases.ensures (map value_words (zip c.args.names.now c.args.values.now)) (collected value_words (zip c.args.names.now c.args.values.now) _ _ c.new-phrases.ensures c.in_ok-push_values.ensures)
