use Rattle.pct_names.proofs.Names.{ap, Family, find, IfSome, Some, subst, sym, true, ◌∙◌, ◌≡◌}
use Rattle.pct_engine_laws.specs.Seen.{SeenProcess, is_live_seen}
use Rattle.pct_process.specs.FamilyViews.{other_processes}
use Rattle.pct_step_context.specs.Programs.{ProgramValue}
use Rattle.pct_place.specs.ProcessSteps.{takes_in}
use Rattle.pct_machine.specs.Candidates.{IsSeat}
use Rattle.pct_machine.specs.Places.{ProcessList, families}
use Rattle.pct_machine.proofs.LegalEntries.{taken_of_one}
use Rattle.pct_machine.proofs.PlacesAfter.{seat_found}
use Rattle.pct_machine.proofs.processes.Processes.entry_on.Goals as goal

pub returns-clause-taken : goal.returns-clause-taken
returns-clause-taken c =
    let s = c.self.inside in
    let program = c.args.program.now in
    let list : ProcessList = c.args.self.now in
    let around = c.around.result in
    let p : SeenProcess = c.index-place.result.now in
    let seat = subst (λ (list : ProcessList). IsSeat list.processes c.args.seat) (sym c.self.view_is) c.requires.seat in
    let found = seat_found s.live s.made s.relatives s.places.items c.self.invariant c.args.seat seat p c.index-place.ensures in
    let family : other_processes around.family ≡ families list p.pid = c.around.ensures.family ∙ ap (families list) c.pid.ensures in
    taken_of_one program.script program.config list p (subst (λ (list : ProcessList). find (is_live_seen p.pid) list.processes ≡ Some p) c.self.view_is found.first) c.entry_on.result
    (subst (λ (seen : Family). IfSome c.entry_on.result (λ e. takes_in program.script program.config seen e p ≡ true)) family
    (subst (λ (program : ProgramValue). IfSome c.entry_on.result (λ e. takes_in program.script program.config (other_processes around.family) e p ≡ true)) c.around.ensures.program c.entry_on.ensures.taken))
