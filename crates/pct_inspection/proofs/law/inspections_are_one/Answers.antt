use Rattle.pct_inspection.proofs.OneInspection.{inspection_is_one}
use Rattle.pct_inspection.proofs.law.inspections_are_one.Goals as goal

pub returns : goal.returns
returns c = inspection_is_one
