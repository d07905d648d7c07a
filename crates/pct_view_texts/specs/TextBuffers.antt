-- Texts in memory.
use Rattle.std.specs.Prelude.{◌≡◌, ℕ, List, ◌++◌, Result, OnOk}
use Rattle.pct_view_texts.specs.declared.text_buffer.TextBuffer.{TextBuffer}

-- the text in a buffer
abbrev pub text_in : TextBuffer → List ℕ
text_in buffer = buffer.bytes.items

-- unless memory ran out, a text was appended
abbrev pub Appends : {E : Type 0} → TextBuffer → TextBuffer → List ℕ → Result (Unit {0}) E → Type 0
Appends old new text result = OnOk result (text_in new ≡ text_in old ++ text)
