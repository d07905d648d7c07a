use Rattle.pct_names.proofs.Names.{◌+◌, ◌<◌, has_timeouts, List, None, subst, sym, ◌≡◌}
use Rattle.pct_ready_sets.specs.ReadyConditions.{FollowAll}
use Rattle.pct_ready_sets.specs.ReadyGroups.{ReadyValue}
use Rattle.pct_engine_laws.specs.Seen.{Seen, SeenProcess, family_in}
use Rattle.pct_machine.specs.Candidates.{Here, Before, pick_after, candidates_among, candidate_on, IsSeat}
use Rattle.pct_machine.specs.Places.{families}
use Rattle.pct_machine.proofs.ReadyProcesses.{chosen_is, never_before}
use Rattle.pct_machine.proofs.machine.Machine.seat.Goals as goal

pub returns-in-Here-clause-value : goal.returns-in-Here-clause-value
returns-in-Here-clause-value c = λ worker choice.
    let program = c.args.program.now in
    let timeouts = has_timeouts program.config.format in
    let v : Seen = c.args.self.now in
    let number = c.args.number in
    let seat = c.in-Here.seat in
    chosen_is program.script program.config v number c.requires.can c.requires.running (candidate_on program.script timeouts (family_in v) v.processes seat) worker choice
    (subst (λ (v : Seen). Here (candidate_on program.script timeouts (family_in v) v.processes seat) ≡ pick_after 0 number (candidates_among program.script timeouts (family_in v) v.processes)) c.self.view_is
    (subst (λ (ps : List SeenProcess). Here (candidate_on program.script timeouts (families c.self.inside.processes) ps seat) ≡ pick_after 0 number (candidates_among program.script timeouts (families c.self.inside.processes) ps)) c.as_slice-places.ensures.value c.in-Here.ensures.value))

pub returns-in-Here-clause-seat : goal.returns-in-Here-clause-seat
returns-in-Here-clause-seat c =
    subst (λ (v : Seen). IsSeat v.processes c.in-Here.seat) c.self.view_is (subst (λ (ps : List SeenProcess). IsSeat ps c.in-Here.seat) c.as_slice-places.ensures.value c.in-Here.ensures.seat)

pub returns-in-Nobody-clause-value : goal.returns-in-Nobody-clause-value
returns-in-Nobody-clause-value c = λ worker choice.
    let program = c.args.program.now in
    let timeouts = has_timeouts program.config.format in
    chosen_is program.script program.config c.args.self.now c.args.number c.requires.can c.requires.running None worker choice
    (subst (λ (v : Seen). Here None ≡ pick_after 0 c.args.number (candidates_among program.script timeouts (family_in v) v.processes)) c.self.view_is
    (subst (λ (ps : List SeenProcess). Here None ≡ pick_after 0 c.args.number (candidates_among program.script timeouts (families c.self.inside.processes) ps)) c.as_slice-places.ensures.value c.in-Nobody.ensures.value))

pub returns-in-Before-clause-value : goal.returns-in-Before-clause-value
returns-in-Before-clause-value c =
    let program = c.args.program.now in
    let timeouts = has_timeouts program.config.format in
    absurd (never_before program.script program.config c.args.self.now c.args.number c.requires.can c.requires.running c.in-Before.field-0
    (subst (λ (v : Seen). Before c.in-Before.field-0 ≡ pick_after 0 c.args.number (candidates_among program.script timeouts (family_in v) v.processes)) c.self.view_is
    (subst (λ (ps : List SeenProcess). Before c.in-Before.field-0 ≡ pick_after 0 c.args.number (candidates_among program.script timeouts (families c.self.inside.processes) ps)) c.as_slice-places.ensures.value c.in-Before.ensures.value)))

pub pick-requires-clause-made : goal.pick-requires-clause-made
pick-requires-clause-made c = subst (λ (v : Seen). v.made + 1 < 4294967296) (sym c.self.view_is) c.requires.can.few_made

pub pick-requires-clause-follow : goal.pick-requires-clause-follow
pick-requires-clause-follow c =
    let script = c.args.program.now.script in
    let timeouts = has_timeouts c.args.program.now.config.format in
    let follow : FollowAll script timeouts c.self.inside.processes.processes c.args.sets.now = subst (λ (v : Seen). FollowAll script timeouts v.processes c.args.sets.now) (sym c.self.view_is) c.requires.follow in
    subst (λ (ps : List SeenProcess). FollowAll script timeouts ps c.as_slice.result.now) (sym c.as_slice-places.ensures.value)
    (subst (λ (vs : List ReadyValue). FollowAll script timeouts c.self.inside.processes.processes vs) (sym c.as_slice.ensures) follow)
