use Rattle.pct_names.proofs.Names.{map}
use Rattle.pct_view_texts.specs.States.{frame_phrase}
use Rattle.pct_view_texts.proofs.PhraseTexts.{collected}
use Rattle.pct_view_texts.proofs.frames.push_frames.Goals as goal

pub returns : goal.returns
returns c = c.push_phrases.ensures (map (frame_phrase c.args.script.now) c.args.frames.now) (collected (frame_phrase c.args.script.now) c.args.frames.now _ _ c.new-phrases.ensures c.in_ok-push_each_frame.ensures)
