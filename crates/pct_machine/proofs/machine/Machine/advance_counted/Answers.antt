use Rattle.pct_names.proofs.Names.{ap, Config, Entry, has_timeouts, IfSome, Script, subst, sym, Transition, ◌∙◌}
use Rattle.pct_engine_laws.specs.Seen.{Seen, seen_after}
use Rattle.pct_ready_sets.specs.ReadyConditions.{FollowAll}
use Rattle.pct_machine.specs.ListChanges.{ChangeFits}
use Rattle.pct_machine.specs.Places.{ProcessList}
use Rattle.pct_machine.specs.ProcessSteps.{AllCanStep}
use Rattle.pct_machine.proofs.ChangedLists.{finished}
use Rattle.pct_machine.proofs.ForkedChildren.{made_fits}
use Rattle.pct_machine.proofs.machine.Machine.advance_counted.Goals as goal

pub finish-requires : goal.finish-requires
finish-requires g c =
    let config : Config = c.args.program.now.config in
    let e : Entry = c.in_ok-entry.entry in
    let o : Transition = c.advance.new.transition in
    let list : ProcessList = c.self.inside.processes in
    let can : AllCanStep config.slots list.processes list.made = subst (λ (v : Seen). AllCanStep config.slots v.processes v.made) (sym c.self.view_is) c.requires.can in
    subst (λ (now : ProcessList). IfSome o.process (λ change. ChangeFits e.pid e.tid change now)) (sym c.in_ok-entry.ensures.moved)
    (made_fits c.args.program.now.script config list e o can c.in_ok-entry.ensures.taken)

pub returns-clause-made : goal.returns-clause-made
returns-clause-made g c =
    let config : Config = c.args.program.now.config in
    let e : Entry = c.in_ok-entry.entry in
    let o : Transition = c.advance.new.transition in
    c.finish.ensures.made
    ∙ finished config.slots e.pid e.tid o c.self.inside.processes c.advance.new.self c.self.inside.stop (sym c.if-is_some.ensures) c.in_ok-entry.ensures.moved
    ∙ ap (seen_after config.slots e.pid e.tid o) c.self.view_is

pub returns-clause-follow : goal.returns-clause-follow
returns-clause-follow g c =
    let script : Script = c.args.program.now.script in
    let config : Config = c.args.program.now.config in
    let timeouts = has_timeouts config.format in
    let list : ProcessList = c.self.inside.processes in
    let can : AllCanStep config.slots list.processes list.made = subst (λ (v : Seen). AllCanStep config.slots v.processes v.made) (sym c.self.view_is) c.requires.can in
    let follows : FollowAll script timeouts list.processes c.find_seat.new.sets = subst (λ (v : Seen). FollowAll script timeouts v.processes c.find_seat.new.sets) (sym c.self.view_is) c.find_seat.ensures.follow in
    c.finish.ensures.follow list can.each c.in_ok-entry.ensures.moved follows
