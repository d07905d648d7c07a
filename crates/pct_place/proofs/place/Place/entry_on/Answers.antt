use Rattle.pct_names.proofs.Names.{ap, has_timeouts, item_at, length, option_map, same_Some, sym, Thread, ◌∙◌}
use Rattle.pct_engine_laws.specs.Seen.{SeenProcess}
use Rattle.pct_engine_laws.specs.SeenSteps.{choices_in}
use Rattle.pct_process.specs.FamilyViews.{other_processes}
use Rattle.pct_process.specs.ProcessViews.{thread_on_slot}
use Rattle.pct_place.specs.ProcessSteps.{takes_in}
use Rattle.pct_place.proofs.LegalChoices.{chosen_is_taken}
use Rattle.pct_place.proofs.StepsOfProcess.{thread_of}
use Rattle.pct_place.proofs.place.Place.entry_on.Goals as goal

pub returns-clause-taken : goal.returns-clause-taken
returns-clause-taken c =
    let program = c.args.around.program.now in
    let family = other_processes c.args.around.family in
    let p : SeenProcess = c.args.self.now in
    let t = thread_of (thread_on_slot p.slots c.args.slot) c.requires.held in
    let at = ap (λ (q : SeenProcess). thread_on_slot q.slots c.args.slot) c.self.view_is ∙ t.1 in
    let same = same_Some t.0.id c.id_on.result (sym (ap (option_map (λ (u : Thread). u.id)) at) ∙ c.id_on.ensures) in
    (λ i. takes_in program.script program.config family (record { worker = c.args.draw.worker; pid = (c.self.view_is i).pid; tid = sym same i; alt = c.in_ok-alt.alt }) p)
    ∙ chosen_is_taken program.script program.config family p c.args.slot c.args.draw.worker c.args.draw.choice t.0 c.requires.can t.1 c.requires.live c.in_ok-alt.alt
    (sym c.in_ok-alt.was ∙ c.choice_by.ensures t.0 at ∙ ap (λ (q : SeenProcess). item_at (choices_in program.script (has_timeouts program.config.format) (length q.slots) family q t.0) c.args.draw.choice) c.self.view_is)
