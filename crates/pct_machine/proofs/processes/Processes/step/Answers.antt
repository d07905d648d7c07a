use Rattle.pct_names.proofs.Names.{◌+◌, ap, cond, Entry, Family, family_among, find, List, Relative, Some, subst, sym, ℕ, ◌∙◌, ◌≡◌, ◌≤◌}
use Rattle.pct_engine_laws.specs.Seen.{SeenProcess, process_seen, is_live_seen}
use Rattle.pct_process.specs.FamilyViews.{other_processes}
use Rattle.pct_step_context.specs.Programs.{ProgramValue}
use Rattle.pct_place.specs.ProcessSteps.{CanStep, taken_in}
use Rattle.pct_machine.specs.Places.{ProcessList, families}
use Rattle.pct_machine.specs.ProcessSteps.{EachCanStep}
use Rattle.pct_machine.specs.ListChanges.{list_moved}
use Rattle.pct_machine.proofs.LegalEntries.{found_in, none_taken, taken_by}
use Rattle.pct_machine.proofs.WokenThreads.{woken_found}
use Rattle.pct_machine.proofs.PlacesAfter.{sound_after_step, list_after_step}
use Rattle.pct_machine.proofs.processes.Processes.step.Goals as goal

pub returns-in_default-clause-taken : goal.returns-in_default-clause-taken
returns-in_default-clause-taken g c = none_taken c.args.program.now.script c.args.program.now.config c.args.self.now c.args.entry.now (sym c.in_default.ensures)

pub step-requires : goal.step-requires
step-requires g c =
    let s = c.self.inside in
    let e : Entry = c.args.entry.now in
    let p : SeenProcess = c.index_mut.result.now in
    let found = found_in e.pid c.in-Some.index s.live s.made s.places.items c.args.self.now c.self.view_is c.in-Some.ensures p c.index_mut.ensures.value in
    subst (λ (program : ProgramValue). CanStep program.config.slots p) (sym c.surroundings-around.ensures.program)
    (subst (λ (list : ProcessList). EachCanStep c.args.program.now.config.slots list.processes) (sym c.self.view_is) c.requires.each c.in-Some.index p found.at)

pub invariant_of-self : goal.invariant_of-self
invariant_of-self g c =
    let s = c.self.inside in
    let e : Entry = c.args.entry.now in
    let o = c.step.new.transition in
    let p : SeenProcess = c.index_mut.result.now in
    let found = found_in e.pid c.in-Some.index s.live s.made s.places.items c.args.self.now c.self.view_is c.in-Some.ensures p c.index_mut.ensures.value in
    let after = c.step.ensures.made ∙ ap (λ (program : ProgramValue). cond c.step.result (process_seen program.config.slots e.tid o p) p) c.surroundings-around.ensures.program in
    sound_after_step c.args.program.now.config.slots e.pid e.tid o c.in-Some.index s.live s.made s.relatives s.places.items p found c.self.invariant c.step.result c.step.new.self after

pub returns-clause-taken : goal.returns-clause-taken
returns-clause-taken g c =
    let s = c.self.inside in
    let e : Entry = c.args.entry.now in
    let p : SeenProcess = c.index_mut.result.now in
    let found = found_in e.pid c.in-Some.index s.live s.made s.places.items c.args.self.now c.self.view_is c.in-Some.ensures p c.index_mut.ensures.value in
    let family : families c.args.self.now e.pid ≡ other_processes c.surroundings-around.result.family =
    ap (λ (list : ProcessList). families list e.pid) (sym c.self.view_is)
    ∙ ap (λ (relatives : List Relative). family_among s.made relatives e.pid) (sym c.self.invariant.known)
    ∙ sym c.surroundings-around.ensures.family in
    taken_by c.args.program.now.script c.args.program.now.config c.args.self.now e p (subst (λ (list : ProcessList). find (is_live_seen e.pid) list.processes ≡ Some p) c.self.view_is found.first) found.has_id
    ∙ ap (λ (seen : Family). taken_in c.args.program.now.script c.args.program.now.config seen p e) family
    ∙ ap (λ (program : ProgramValue). taken_in program.script program.config (other_processes c.surroundings-around.result.family) p e) (sym c.surroundings-around.ensures.program)
    ∙ c.step.ensures.taken

pub returns-clause-moved : goal.returns-clause-moved
returns-clause-moved g c =
    let s = c.self.inside in
    let e : Entry = c.args.entry.now in
    let o = c.step.new.transition in
    let p : SeenProcess = c.index_mut.result.now in
    let found = found_in e.pid c.in-Some.index s.live s.made s.places.items c.args.self.now c.self.view_is c.in-Some.ensures p c.index_mut.ensures.value in
    let after = c.step.ensures.made ∙ ap (λ (program : ProgramValue). cond c.step.result (process_seen program.config.slots e.tid o p) p) c.surroundings-around.ensures.program in
    list_after_step c.args.program.now.config.slots e.pid e.tid o c.in-Some.index s.live s.made s.relatives s.places.items p found c.self.invariant c.step.result c.step.new.self after
    ∙ ap (λ (list : ProcessList). cond c.step.result (list_moved c.args.program.now.config.slots e.pid e.tid o list) list) c.self.view_is

pub returns-clause-count : goal.returns-clause-count
returns-clause-count g c =
    let s = c.self.inside in
    let e : Entry = c.args.entry.now in
    let p : SeenProcess = c.index_mut.result.now in
    let found = found_in e.pid c.in-Some.index s.live s.made s.places.items c.args.self.now c.self.view_is c.in-Some.ensures p c.index_mut.ensures.value in
    let at : find (is_live_seen e.pid) c.args.self.now.processes ≡ Some p = subst (λ (list : ProcessList). find (is_live_seen e.pid) list.processes ≡ Some p) c.self.view_is found.first in
    subst (λ (n : ℕ). c.step.new.steps ≤ c.args.steps.now + 3 + n) (woken_found e.pid c.step.new.transition c.step.result c.args.self.now.processes p at) c.step.ensures.count
