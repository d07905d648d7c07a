-- The rows of the code's table of points. No public contract cites this module.
use Rattle.std.specs.Prelude.{ℕ, List}
use Rattle.std.specs.Borrow.{Bor}
use Rattle.pct_model.specs.declared.point.PointKind.{PointKind}
use Rattle.pct_model.specs.declared.point.PointWait.{PointWait}
use Rattle.pct_model.specs.Points.{Row}

-- the row of the definitions that a row of the code represents
abbrev pub as_row : Bor (List ℕ) × PointKind × PointWait → Row
as_row row = record { name = row.0.now; kind = row.1; wait = row.2 }
