use Rattle.pct_names.proofs.Names.{◌+◌, length, lines_of, map, strip_cr, ◌≡◌, ◌≤◌}
use Rattle.pct_report_reader.specs.Reading.{body_from}
use Rattle.pct_report_reader.proofs.reader.body_from.Given as goal

abbrev pub invariant-loop-raw : goal.invariant-loop-raw
invariant-loop-raw l = record {
  read : body_from l.format 2 (map strip_cr (lines_of l.text)) ≡ body_from l.format l.number (map strip_cr (lines_of l.rest));
  bound : l.number + length l.rest ≤ 16777217;
}

abbrev pub decreases-loop-raw : goal.decreases-loop-raw
decreases-loop-raw l = length l.rest
