use Rattle.pct_names.proofs.Names.{◌+◌, ap, arith, Config, Entry, false, has_timeouts, IfSome, is_some, Script}
use Rattle.pct_names.proofs.Names.{Some, subst, sym, Transition, ◌∙◌, ◌≡◌, ◌≤◌}
use Rattle.pct_engine_laws.specs.Seen.{Seen, seen_after}
use Rattle.pct_engine_laws.specs.SeenSteps.{seen_transition}
use Rattle.pct_ready_sets.specs.ReadyConditions.{FollowAll}
use Rattle.pct_machine.specs.Places.{ProcessList}
use Rattle.pct_machine.specs.ProcessSteps.{AllCanStep}
use Rattle.pct_machine.specs.MachineSteps.{woken_in}
use Rattle.pct_machine.specs.ListChanges.{ChangeFits}
use Rattle.pct_machine.proofs.ChangedLists.{finished}
use Rattle.pct_machine.proofs.ForkedChildren.{made_fits}
use Rattle.pct_machine.proofs.LegalEntries.{admitted}
use Rattle.pct_machine.proofs.machine.Machine.step.Goals as goal

pub step-requires : goal.step-requires
step-requires g c = subst (λ (v : Seen). AllCanStep c.args.program.now.config.slots v.processes v.made) (sym c.self.view_is) c.requires

pub finish-requires : goal.finish-requires
finish-requires g c =
    let script : Script = c.args.program.now.script in
    let config : Config = c.args.program.now.config in
    let e : Entry = c.args.entry.now in
    let o : Transition = c.step.new.transition in
    let list : ProcessList = c.self.inside.processes in
    let can : AllCanStep config.slots list.processes list.made = subst (λ (v : Seen). AllCanStep config.slots v.processes v.made) (sym c.self.view_is) c.requires in
    subst (λ (now : ProcessList). IfSome o.process (λ change. ChangeFits e.pid e.tid change now)) (sym c.if-not-step.ensures.moved)
    (made_fits script config list e o can c.if-not-step.ensures.taken)

pub returns-then-not-step-clause-legal : goal.returns-then-not-step-clause-legal
returns-then-not-step-clause-legal g c =
    let v : Seen = c.args.self.now in
    let running : is_some v.stop ≡ false = subst (λ (v : Seen). is_some v.stop ≡ false) c.self.view_is (sym c.if-is_some.ensures) in
    admitted c.args.program.now.script c.args.program.now.config v c.args.entry.now running c.if-entry-gt-MAX_WORKER.false
    ∙ ap (λ (v : Seen). seen_transition c.args.program.now.script c.args.program.now.config v c.args.entry.now) (sym c.self.view_is)
    ∙ c.if-not-step.ensures.taken

pub returns-clause-legal : goal.returns-clause-legal
returns-clause-legal g c =
    let v : Seen = c.args.self.now in
    let running : is_some v.stop ≡ false = subst (λ (v : Seen). is_some v.stop ≡ false) c.self.view_is (sym c.if-is_some.ensures) in
    admitted c.args.program.now.script c.args.program.now.config v c.args.entry.now running c.if-entry-gt-MAX_WORKER.false
    ∙ ap (λ (v : Seen). seen_transition c.args.program.now.script c.args.program.now.config v c.args.entry.now) (sym c.self.view_is)
    ∙ c.if-not-step.ensures.taken

pub returns-clause-made : goal.returns-clause-made
returns-clause-made g c =
    let config : Config = c.args.program.now.config in
    let e : Entry = c.args.entry.now in
    let o : Transition = c.step.new.transition in
    c.finish.ensures.made
    ∙ finished config.slots e.pid e.tid o c.self.inside.processes c.step.new.self c.self.inside.stop (sym c.if-is_some.ensures) c.if-not-step.ensures.moved
    ∙ ap (seen_after config.slots e.pid e.tid o) c.self.view_is

pub returns-clause-follow : goal.returns-clause-follow
returns-clause-follow g c = λ follow.
    let script : Script = c.args.program.now.script in
    let config : Config = c.args.program.now.config in
    let timeouts = has_timeouts config.format in
    let list : ProcessList = c.self.inside.processes in
    let can : AllCanStep config.slots list.processes list.made = subst (λ (v : Seen). AllCanStep config.slots v.processes v.made) (sym c.self.view_is) c.requires in
    let follows : FollowAll script timeouts list.processes c.args.sets.now = subst (λ (v : Seen). FollowAll script timeouts v.processes c.args.sets.now) (sym c.self.view_is) follow in
    c.finish.ensures.follow list can.each c.if-not-step.ensures.moved follows

pub returns-clause-count : goal.returns-clause-count
returns-clause-count g c =
    let e : Entry = c.args.entry.now in
    let o : Transition = c.step.new.transition in
    let stepped = subst (λ (v : Seen). c.step.new.steps ≤ c.args.steps.now + 3 + woken_in e.pid (Some o) v.processes) c.self.view_is c.if-not-step.ensures.count in
    omega (arith, stepped, c.finish.ensures.count)
