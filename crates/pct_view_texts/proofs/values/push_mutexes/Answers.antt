use Rattle.pct_names.proofs.Names.{map, zip}
use Rattle.pct_view_texts.specs.States.{mutex_phrase}
use Rattle.pct_view_texts.proofs.PhraseTexts.{collected}
use Rattle.pct_view_texts.proofs.values.push_mutexes.Goals as goal

pub returns : goal.returns
returns c = c.push_phrases.ensures (map (mutex_phrase c.args.pid) (zip c.args.names.now c.args.owners.now)) (collected (mutex_phrase c.args.pid) (zip c.args.names.now c.args.owners.now) _ _ c.new-phrases.ensures c.in_ok-push_owners.ensures)
