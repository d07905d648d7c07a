-- The lines of a text that are neither blank nor comments. No public clause cites this file.
use Rattle.std.specs.Prelude.{ℕ, List, filter}
use Rattle.std.specs.List.{enumerate_from}
use Rattle.pct_model.specs.Lines.{lines_of}
use Rattle.pct_model.specs.LineParsing.{Numbered, words_in, spell_something}

-- the lines that spell something, where the first line of the text has number n
unfoldable pub spelled_from : ℕ → List ℕ → List (Numbered (List ℕ))
spelled_from n text = filter (λ l. spell_something (words_in l.1)) (enumerate_from n (lines_of text))
