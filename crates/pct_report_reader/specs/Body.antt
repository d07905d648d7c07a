-- The lines of a report down to its verdict, as the code has them. No public clause cites this file.
use Rattle.std.specs.Prelude.{map}
use Rattle.pct_model.specs.Lines.{lines_of, strip_cr}
use Rattle.pct_report_reader.specs.declared.reader.Body.{Body}
use Rattle.pct_report_reader.specs.Reading.{ReadBody}

-- what is read of the lines
abbrev pub as_body : Body → ReadBody
as_body body = record { format = body.format; number = body.number; after = map strip_cr (lines_of body.after.now) }
