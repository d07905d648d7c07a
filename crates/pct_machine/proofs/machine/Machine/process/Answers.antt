use Rattle.pct_names.proofs.Names.{ap, Family, slice_get, Some, subst, sym, ℕ, ◌∙◌, ◌≡◌}
use Rattle.pct_engine_laws.specs.Seen.{Seen, SeenProcess, family_in}
use Rattle.pct_process.specs.FamilyViews.{other_processes}
use Rattle.pct_step_context.specs.Programs.{ProgramValue}
use Rattle.pct_place.specs.declared.process_view.ProcessView.{ProcessView}
use Rattle.pct_place.specs.ProcessSteps.{CanStep}
use Rattle.pct_place.specs.ShownProcesses.{ShowsProcess, ShowsIfSome}
use Rattle.pct_machine.proofs.ReadPlaces.{process_read}
use Rattle.pct_machine.proofs.machine.Machine.process.Goals as goal

-- the process is shown, where it is at the index
shows : (program seen_program : ProgramValue) (family : Family) (v : Seen) (i : ℕ) (p : SeenProcess) (view : ProcessView) → slice_get v.processes i ≡ Some p → seen_program ≡ program → family ≡ family_in v p.pid → ShowsProcess seen_program family p view → ShowsIfSome program v (slice_get v.processes i) (Some view)
shows program seen_program family v i p view at same_program same_family shown =
    subst (λ o. ShowsIfSome program v o (Some view)) (sym at)
    (subst (λ (f : Family). ShowsProcess program f p view) same_family (subst (λ (q : ProgramValue). ShowsProcess q family p view) same_program shown))

pub view-requires : goal.view-requires
view-requires c =
    let place = c.in_ok-place.ensures.lookup in
    let p : SeenProcess = c.in_ok-place.place.now in
    let at = process_read c.args.self.now c.as_slice.result.now c.self.inside.processes.processes c.args.index p c.as_slice.ensures.value (ap (λ (v : Seen). v.processes) c.self.view_is) place.3.0 place.1 in
    subst (λ (program : ProgramValue). CanStep program.config.slots p) (sym c.around.ensures.program) (c.requires.each c.args.index p at)

pub returns-clause-shown : goal.returns-clause-shown
returns-clause-shown c =
    let place = c.in_ok-place.ensures.lookup in
    let p : SeenProcess = c.in_ok-place.place.now in
    let at = process_read c.args.self.now c.as_slice.result.now c.self.inside.processes.processes c.args.index p c.as_slice.ensures.value (ap (λ (v : Seen). v.processes) c.self.view_is) place.3.0 place.1 in
    let family_is = c.around.ensures.family ∙ (λ i. family_in (c.self.view_is i) (c.pid.ensures i)) in
    shows c.args.program.now c.around.result.program.now (other_processes c.around.result.family) c.args.self.now c.args.index p c.view.result at c.around.ensures.program family_is c.view.ensures
