use Rattle.pct_names.proofs.Names.{◌++◌, codes}
use Rattle.pct_view_texts.specs.Fields.{phrase_text}
use Rattle.pct_view_texts.specs.States.{frame_phrase}
use Rattle.pct_view_texts.proofs.PhraseTexts.{frame_appended}
use Rattle.pct_view_texts.proofs.frames.push_each_frame.Goals as goal

pub loop-index-preserved : goal.loop-index-preserved
loop-index-preserved c =
    frame_appended (λ frame. codes ", " ++ phrase_text (frame_phrase c.args.script.now frame)) c.args.frames.now c.loop-index.index _ _ _ c.in_ok-push_frame_at.ensures c.loop-index.invariant
