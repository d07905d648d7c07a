-- The words of the event lines of a report.
use Rattle.std.specs.Prelude.{ℕ, List, map}
use Rattle.pct_model.specs.Lines.{words_of}
use Rattle.pct_report_reader.specs.Reading.{event_lines}

-- the words of each event line of a report
abbrev pub event_words_in : List ℕ → List (List (List ℕ))
event_words_in text = map (λ line. words_of line.1) (event_lines text)
