use Rattle.pct_names.proofs.Names.{ap, has_timeouts, is_some, length, nat_lt, ◌∙◌}
use Rattle.pct_engine_laws.specs.Seen.{threads_on}
use Rattle.pct_engine_laws.specs.SeenSteps.{is_ready_in, ready_in}
use Rattle.pct_process.specs.FamilyViews.{other_processes}
use Rattle.pct_place.proofs.ReadySlots.{as_many, any_ready_if}
use Rattle.pct_place.proofs.place.Place.has_ready.Goals as goal

pub returns : goal.returns
returns c =
    let script = c.args.around.program.now.script in
    let timeouts = has_timeouts c.args.around.program.now.config.format in
    let family = other_processes c.args.around.family in
    let p = c.args.self.now in
    ap (nat_lt 0) (c.len.ensures.value ∙ as_many p.slots c.ready.result (ready_in script timeouts (length p.slots) family p) c.ready.ensures)
    ∙ any_ready_if (is_ready_in script timeouts (length p.slots) family p) (threads_on p.slots) (is_some p.ended)
