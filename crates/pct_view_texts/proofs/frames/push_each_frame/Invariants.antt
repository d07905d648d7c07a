use Rattle.pct_names.proofs.Names.{◌++◌, codes, drop, flat_map, ◌≡◌}
use Rattle.pct_view_texts.specs.Fields.{phrase_text}
use Rattle.pct_view_texts.specs.States.{frame_phrase}
use Rattle.pct_view_texts.specs.TextBuffers.{text_in}
use Rattle.pct_view_texts.proofs.frames.push_each_frame.Given as goal

-- the text, with the frames that are left, is the whole text
abbrev pub invariant-loop-index : goal.invariant-loop-index
invariant-loop-index l =
    text_in l.phrases ++ flat_map (λ frame. codes ", " ++ phrase_text (frame_phrase l.script frame)) (drop l.index l.frames)
    ≡ text_in l.initial.phrases ++ flat_map (λ frame. codes ", " ++ phrase_text (frame_phrase l.script frame)) l.frames
