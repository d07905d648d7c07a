use Rattle.pct_names.proofs.Names.{◌+◌, ap, arith, has_timeouts, length, List, nil_from_length, None, refl, slice_get_within, Some}
use Rattle.pct_names.proofs.Names.{subst, suc, sym, ◌∙◌}
use Rattle.std.proofs.lemmas.Bool.{eqb-true}
use Rattle.pct_ready_sets.specs.ReadyConditions.{FollowAll}
use Rattle.pct_engine_laws.specs.Seen.{SeenProcess}
use Rattle.pct_machine.specs.Places.{families}
use Rattle.pct_machine.specs.Candidates.{Here, pick_after, candidates_of, candidates_among, candidate_on, IsSeat}
use Rattle.pct_machine.proofs.Picks.{later, still_before, one_of_these}
use Rattle.pct_machine.proofs.ReadyProcesses.{picked_before, seated_before, count_is, candidate_at, slot_held, has_not_ended, later_seat, is_later_seat}
use Rattle.pct_machine.proofs.candidates.+pick.Goals as goal

pub pick-returns-in_default-clause-value : goal.pick-returns-in_default-clause-value
pick-returns-in_default-clause-value t c =
    let script = c.args.program.now.script in
    let timeouts = has_timeouts c.args.program.now.config.format in
    let seen_by = families c.args.processes.now in
    picked_before c.args.before c.args.number c.pick_before.result c.pick_before.ensures script timeouts seen_by c.args.places.now
    ∙ ap (λ (ps : List SeenProcess). pick_after c.args.before c.args.number (candidates_among script timeouts seen_by ps)) (sym (nil_from_length c.args.places.now c.in_default.ensures.cases))

pub pick-returns-in_default-clause-seat : goal.pick-returns-in_default-clause-seat
pick-returns-in_default-clause-seat t c = seated_before c.args.before c.args.number c.pick_before.result c.pick_before.ensures (IsSeat c.args.places.now)

pub pick-ready-ready-requires-clause-follows : goal.pick-ready-ready-requires-clause-follows
pick-ready-ready-requires-clause-follows t c =
    subst (λ (ps : List SeenProcess). FollowAll c.args.program.now.script (has_timeouts c.args.program.now.config.format) ps c.args.sets.now) c.in-Some.ensures.cases.0 c.requires.follow 0 c.in-Some.place.now refl

pub pick-pick_later-requires : goal.pick-pick_later-requires
pick-pick_later-requires t c =
    let follow = subst (λ (ps : List SeenProcess). FollowAll c.args.program.now.script (has_timeouts c.args.program.now.config.format) ps c.args.sets.now) c.in-Some.ensures.cases.0 c.requires.follow in (
      omega (arith, c.decreases, c.in-Some.ensures.cases.1),
      (
        (λ i p at v has. follow (suc i) p at v (sym (c.after_first.ensures i) ∙ has)),
        (c.requires.made, omega (arith, c.requires.few, c.len.ensures.fits, c.in-Some.ensures.cases.1)),
      ),
    )

pub pick-returns-then-index-before-clause-value : goal.pick-returns-then-index-before-clause-value
pick-returns-then-index-before-clause-value t c =
    let script = c.args.program.now.script in
    let timeouts = has_timeouts c.args.program.now.config.format in
    let seen_by = families c.args.processes.now in
    let p : SeenProcess = c.in-Some.place.now in
    still_before c.args.before c.len.result c.args.number (candidates_of script timeouts (seen_by p.pid) p) (candidates_among script timeouts seen_by c.in-Some.rest.now) (c.len.ensures.value ∙ count_is script timeouts (seen_by p.pid) p c.ready-ready.result c.ready-ready.ensures) c.in-Before.index c.in-Before.ensures.value c.if-index-before.true
    ∙ ap (λ (ps : List SeenProcess). pick_after c.args.before c.args.number (candidates_among script timeouts seen_by ps)) (sym c.in-Some.ensures.cases.0)

pub pick-returns-in-Nobody-clause-value : goal.pick-returns-in-Nobody-clause-value
pick-returns-in-Nobody-clause-value t c =
    let script = c.args.program.now.script in
    let timeouts = has_timeouts c.args.program.now.config.format in
    let seen_by = families c.args.processes.now in
    let p : SeenProcess = c.in-Some.place.now in
    later c.args.before c.len.result c.args.number (candidates_of script timeouts (seen_by p.pid) p) (candidates_among script timeouts seen_by c.in-Some.rest.now) (c.len.ensures.value ∙ count_is script timeouts (seen_by p.pid) p c.ready-ready.result c.ready-ready.ensures) None c.in-Nobody.ensures.value
    ∙ ap (λ (ps : List SeenProcess). pick_after c.args.before c.args.number (candidates_among script timeouts seen_by ps)) (sym c.in-Some.ensures.cases.0)

pub pick-overflow_add-result : goal.pick-overflow_add-result
pick-overflow_add-result t c =
    let seat : IsSeat c.in-Some.rest.now c.in-Here.seat = c.in-Here.ensures.seat in
    omega (arith, slice_get_within c.in-Some.rest.now c.in-Here.seat.place seat.process seat.here, c.requires.few, c.in-Some.ensures.cases.1)

pub pick-returns-in-Here-clause-value : goal.pick-returns-in-Here-clause-value
pick-returns-in-Here-clause-value t c =
    let script = c.args.program.now.script in
    let timeouts = has_timeouts c.args.program.now.config.format in
    let seen_by = families c.args.processes.now in
    let p : SeenProcess = c.in-Some.place.now in
    let rest = c.in-Some.rest.now in
    let seat = c.in-Here.seat in
    ap (λ (ps : List SeenProcess). Here (candidate_on script timeouts seen_by ps (record { place = seat.place + 1; slot = seat.slot }))) c.in-Some.ensures.cases.0
    ∙ ap Here (sym (later_seat script timeouts seen_by p rest seat.place seat.slot))
    ∙ later c.args.before c.len.result c.args.number (candidates_of script timeouts (seen_by p.pid) p) (candidates_among script timeouts seen_by rest) (c.len.ensures.value ∙ count_is script timeouts (seen_by p.pid) p c.ready-ready.result c.ready-ready.ensures) (candidate_on script timeouts seen_by rest seat) c.in-Here.ensures.value
    ∙ ap (λ (ps : List SeenProcess). pick_after c.args.before c.args.number (candidates_among script timeouts seen_by ps)) (sym c.in-Some.ensures.cases.0)

pub pick-returns-in-Here-clause-seat : goal.pick-returns-in-Here-clause-seat
pick-returns-in-Here-clause-seat t c =
    let seat = c.in-Here.seat in
    subst (λ (ps : List SeenProcess). IsSeat ps (record { place = seat.place + 1; slot = seat.slot })) (sym c.in-Some.ensures.cases.0) (is_later_seat c.in-Some.place.now c.in-Some.rest.now seat.place seat.slot c.in-Here.ensures.seat)

pub pick-returns-in-Some-nth-clause-value : goal.pick-returns-in-Some-nth-clause-value
pick-returns-in-Some-nth-clause-value t c =
    let script = c.args.program.now.script in
    let timeouts = has_timeouts c.args.program.now.config.format in
    let seen_by = families c.args.processes.now in
    let p : SeenProcess = c.in-Some.place.now in
    let here = one_of_these c.args.before c.len.result c.args.number (candidates_of script timeouts (seen_by p.pid) p) (candidates_among script timeouts seen_by c.in-Some.rest.now) (c.len.ensures.value ∙ count_is script timeouts (seen_by p.pid) p c.ready-ready.result c.ready-ready.ensures) c.in-Before.index c.in-Before.ensures.value c.if-index-before.false in
    ap (λ (ps : List SeenProcess). Here (candidate_on script timeouts seen_by ps (record { place = 0; slot = c.in-Some-nth.slot }))) c.in-Some.ensures.cases.0
    ∙ ap Here (sym (candidate_at script timeouts (seen_by p.pid) p c.ready-ready.result c.ready-ready.ensures _ (Some c.in-Some-nth.slot) c.in-Some-nth.ensures.value))
    ∙ sym here.1
    ∙ ap (λ (ps : List SeenProcess). pick_after c.args.before c.args.number (candidates_among script timeouts seen_by ps)) (sym c.in-Some.ensures.cases.0)

pub pick-returns-in-Some-nth-clause-seat : goal.pick-returns-in-Some-nth-clause-seat
pick-returns-in-Some-nth-clause-seat t c =
    let script = c.args.program.now.script in
    let timeouts = has_timeouts c.args.program.now.config.format in
    let seen_by = families c.args.processes.now in
    let p : SeenProcess = c.in-Some.place.now in
    subst (λ (ps : List SeenProcess). IsSeat ps (record { place = 0; slot = c.in-Some-nth.slot })) (sym c.in-Some.ensures.cases.0) (record {
      process = p;
      here = refl;
      live = has_not_ended script timeouts (seen_by p.pid) p c.ready-ready.result c.ready-ready.ensures _ c.in-Some-nth.slot c.in-Some-nth.ensures.value;
      held = slot_held script timeouts (seen_by p.pid) p c.ready-ready.result c.ready-ready.ensures _ c.in-Some-nth.slot c.in-Some-nth.ensures.value;
    })

pub pick-returns-in-None-clause-value : goal.pick-returns-in-None-clause-value
pick-returns-in-None-clause-value t c =
    let script = c.args.program.now.script in
    let timeouts = has_timeouts c.args.program.now.config.format in
    let seen_by = families c.args.processes.now in
    let p : SeenProcess = c.in-Some.place.now in
    let here = one_of_these c.args.before c.len.result c.args.number (candidates_of script timeouts (seen_by p.pid) p) (candidates_among script timeouts seen_by c.in-Some.rest.now) (c.len.ensures.value ∙ count_is script timeouts (seen_by p.pid) p c.ready-ready.result c.ready-ready.ensures) c.in-Before.index c.in-Before.ensures.value c.if-index-before.false in
    ap Here (sym (candidate_at script timeouts (seen_by p.pid) p c.ready-ready.result c.ready-ready.ensures _ None c.in-None.ensures.value))
    ∙ sym here.1
    ∙ ap (λ (ps : List SeenProcess). pick_after c.args.before c.args.number (candidates_among script timeouts seen_by ps)) (sym c.in-Some.ensures.cases.0)

pub pick_later-returns-then-is_empty-clause-value : goal.pick_later-returns-then-is_empty-clause-value
pick_later-returns-then-is_empty-clause-value t c =
    let script = c.args.program.now.script in
    let timeouts = has_timeouts c.args.program.now.config.format in
    let seen_by = families c.args.processes.now in
    let none = eqb-true (length c.args.places.now) 0 (sym c.is_empty.ensures ∙ c.if-is_empty.true) in
    picked_before c.args.before c.args.number c.pick_before.result c.pick_before.ensures script timeouts seen_by c.args.places.now
    ∙ ap (λ (ps : List SeenProcess). pick_after c.args.before c.args.number (candidates_among script timeouts seen_by ps)) (sym (nil_from_length c.args.places.now none))

pub pick_later-returns-then-is_empty-clause-seat : goal.pick_later-returns-then-is_empty-clause-seat
pick_later-returns-then-is_empty-clause-seat t c = seated_before c.args.before c.args.number c.pick_before.result c.pick_before.ensures (IsSeat c.args.places.now)

pub pick_later-pick_more-requires : goal.pick_later-pick_more-requires
pick_later-pick_more-requires t c = (omega (arith, c.decreases), (c.requires.follow, (c.requires.made, c.requires.few)))

pub pick_more-pick-requires : goal.pick_more-pick-requires
pick_more-pick-requires t c = (omega (arith, c.decreases), (c.requires.follow, (c.requires.made, c.requires.few)))
