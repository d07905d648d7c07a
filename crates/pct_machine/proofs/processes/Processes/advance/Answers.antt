use Rattle.pct_names.proofs.Names.{ap, entry_for, Family, family_among, has_timeouts, IfSome, is_some, length, List, option_and_then, Relative}
use Rattle.pct_names.proofs.Names.{Some, subst, sym, take, ◌∙◌, ◌≡◌}
use Rattle.pct_engine_laws.specs.Seen.{SeenProcess}
use Rattle.pct_engine_laws.specs.SeenSteps.{candidate_in}
use Rattle.pct_process.specs.FamilyViews.{other_processes}
use Rattle.pct_process.specs.ProcessViews.{thread_on_slot}
use Rattle.pct_step_context.specs.Programs.{ProgramValue}
use Rattle.pct_place.specs.ProcessSteps.{CanStep, taken_in, process_after_entry}
use Rattle.pct_place.proofs.StepsOfProcess.{thread_of}
use Rattle.pct_machine.specs.Candidates.{candidate_on, IsSeat}
use Rattle.pct_machine.specs.Places.{ProcessList, families}
use Rattle.pct_machine.specs.ProcessSteps.{EachCanStep}
use Rattle.pct_machine.specs.ListChanges.{list_after_entry, taken_among}
use Rattle.pct_machine.proofs.LegalEntries.{chosen_takes}
use Rattle.pct_machine.proofs.PlacesAfter.{on_seat, seat_found, sound_after_entry, places_after_entry}
use Rattle.pct_machine.proofs.ReadyProcesses.{candidate_is}
use Rattle.pct_machine.proofs.processes.Processes.advance.Goals as goal

pub advance-requires-clause-can : goal.advance-requires-clause-can
advance-requires-clause-can g c =
    let s = c.self.inside in
    let p : SeenProcess = c.index_mut.result.now in
    let seat = subst (λ (list : ProcessList). IsSeat list.processes c.args.seat) (sym c.self.view_is) c.requires.seat in
    let found = seat_found s.live s.made s.relatives s.places.items c.self.invariant c.args.seat seat p c.index_mut.ensures.value in
    subst (λ (program : ProgramValue). CanStep program.config.slots p) (sym c.surroundings-around.ensures.program)
    (subst (λ (list : ProcessList). EachCanStep c.args.program.now.config.slots list.processes) (sym c.self.view_is) c.requires.can.each c.args.seat.place p found.at)

pub invariant_of-self : goal.invariant_of-self
invariant_of-self g c =
    let s = c.self.inside in
    let i = c.args.seat.place in
    let o = c.advance.new.transition in
    let p : SeenProcess = c.index_mut.result.now in
    let seat = subst (λ (list : ProcessList). IsSeat list.processes c.args.seat) (sym c.self.view_is) c.requires.seat in
    let found = seat_found s.live s.made s.relatives s.places.items c.self.invariant c.args.seat seat p c.index_mut.ensures.value in
    let after = c.advance.ensures.made ∙ ap (λ (program : ProgramValue). process_after_entry program.config.slots o c.advance.result p) c.surroundings-around.ensures.program in
    sound_after_entry c.args.program.now.config.slots o i s.live s.made s.relatives s.places.items p found c.self.invariant c.advance.result c.advance.new.self after

pub returns-clause-moved : goal.returns-clause-moved
returns-clause-moved g c =
    let s = c.self.inside in
    let i = c.args.seat.place in
    let o = c.advance.new.transition in
    let p : SeenProcess = c.index_mut.result.now in
    let seat = subst (λ (list : ProcessList). IsSeat list.processes c.args.seat) (sym c.self.view_is) c.requires.seat in
    let found = seat_found s.live s.made s.relatives s.places.items c.self.invariant c.args.seat seat p c.index_mut.ensures.value in
    let after = c.advance.ensures.made ∙ ap (λ (program : ProgramValue). process_after_entry program.config.slots o c.advance.result p) c.surroundings-around.ensures.program in
    places_after_entry c.args.program.now.config.slots o i s.live s.made s.relatives s.places.items p found c.self.invariant c.advance.result c.advance.new.self c.advance.ensures.pid after
    ∙ ap (list_after_entry c.args.program.now.config.slots o c.advance.result) c.self.view_is

pub returns-clause-chosen : goal.returns-clause-chosen
returns-clause-chosen g c =
    let s = c.self.inside in
    let seat_at = c.args.seat in
    let draw = c.args.draw in
    let around = c.surroundings-around.result in
    let p : SeenProcess = c.index_mut.result.now in
    let list : ProcessList = record { processes = take s.live s.places.items; made = s.made } in
    let seat = subst (λ (list : ProcessList). IsSeat list.processes seat_at) (sym c.self.view_is) c.requires.seat in
    let found = seat_found s.live s.made s.relatives s.places.items c.self.invariant seat_at seat p c.index_mut.ensures.value in
    let same : p ≡ c.index.result.now = sym (on_seat s.live s.made s.relatives s.places.items c.self.invariant seat_at seat p c.index_mut.ensures.value) ∙ on_seat s.live s.made s.relatives s.places.items c.self.invariant seat_at seat c.index.result.now c.index.ensures in
    let family : other_processes around.family ≡ families list p.pid =
    c.surroundings-around.ensures.family
    ∙ ap (λ (relatives : List Relative). family_among s.made relatives c.pid-pid.result) c.self.invariant.known
    ∙ ap (families list) (c.pid-pid.ensures ∙ ap (λ (q : SeenProcess). q.pid) (sym same)) in
    let t = thread_of (thread_on_slot p.slots seat_at.slot) (ap (λ (q : SeenProcess). is_some (thread_on_slot q.slots seat_at.slot)) (sym (on_seat s.live s.made s.relatives s.places.items c.self.invariant seat_at seat p c.index_mut.ensures.value)) ∙ seat.held) in
    subst (λ (list : ProcessList). c.advance.result ≡ option_and_then (entry_for draw.worker draw.choice) (candidate_on c.args.program.now.script (has_timeouts c.args.program.now.config.format) (families list) list.processes seat_at)) c.self.view_is
    (c.advance.ensures.chosen t.0 t.1
    ∙ ap (λ (program : ProgramValue). entry_for draw.worker draw.choice (candidate_in program.script (has_timeouts program.config.format) (length p.slots) (other_processes around.family) p t.0)) c.surroundings-around.ensures.program
    ∙ ap (λ (seen : Family). entry_for draw.worker draw.choice (candidate_in c.args.program.now.script (has_timeouts c.args.program.now.config.format) (length p.slots) seen p t.0)) family
    ∙ sym (ap (option_and_then (entry_for draw.worker draw.choice)) (candidate_is c.args.program.now.script (has_timeouts c.args.program.now.config.format) (families list) list.processes seat_at p t.0 found.at t.1)))

pub returns-clause-taken : goal.returns-clause-taken
returns-clause-taken g c =
    let s = c.self.inside in
    let seat_at = c.args.seat in
    let o = c.advance.new.transition in
    let around = c.surroundings-around.result in
    let program = c.args.program.now in
    let p : SeenProcess = c.index_mut.result.now in
    let list : ProcessList = record { processes = take s.live s.places.items; made = s.made } in
    let seat = subst (λ (list : ProcessList). IsSeat list.processes seat_at) (sym c.self.view_is) c.requires.seat in
    let found = seat_found s.live s.made s.relatives s.places.items c.self.invariant seat_at seat p c.index_mut.ensures.value in
    let same : p ≡ c.index.result.now = sym (on_seat s.live s.made s.relatives s.places.items c.self.invariant seat_at seat p c.index_mut.ensures.value) ∙ on_seat s.live s.made s.relatives s.places.items c.self.invariant seat_at seat c.index.result.now c.index.ensures in
    let family : other_processes around.family ≡ families list p.pid =
    c.surroundings-around.ensures.family
    ∙ ap (λ (relatives : List Relative). family_among s.made relatives c.pid-pid.result) c.self.invariant.known
    ∙ ap (families list) (c.pid-pid.ensures ∙ ap (λ (q : SeenProcess). q.pid) (sym same)) in
    subst (λ (list : ProcessList). IfSome c.advance.result (λ e. taken_among program.script program.config list e ≡ Some o)) c.self.view_is
    (chosen_takes program.script program.config list p o found.first found.has_id c.advance.result c.advance.ensures.pid
    (subst (λ (seen : Family). IfSome c.advance.result (λ e. taken_in program.script program.config seen p e ≡ Some o)) family
    (subst (λ (program : ProgramValue). IfSome c.advance.result (λ e. taken_in program.script program.config (other_processes around.family) p e ≡ Some o)) c.surroundings-around.ensures.program c.advance.ensures.taken)))
