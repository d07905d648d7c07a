use Rattle.pct_names.proofs.Names.{◌++◌, take, ◌∷◌, ◌≡◌}
use Rattle.std.specs.List.{flat_map}
use Rattle.pct_io.specs.Fields.{field_text}
use Rattle.pct_view_texts.specs.TextBuffers.{text_in}
use Rattle.pct_view_texts.proofs.text_buffer.TextBuffer.push_spaced.Given as goal

abbrev pub invariant-loop-word : goal.invariant-loop-word
invariant-loop-word l = text_in l.self ≡ text_in l.initial.self ++ flat_map (λ word. 32 ∷ field_text word) (take l.word-index l.words)
