use Rattle.pct_names.proofs.Names.{◌+◌, ap, map, none-some, sym, take, ◌∙◌}
use Rattle.pct_engine_laws.specs.Seen.{relative_in}
use Rattle.pct_machine.proofs.LegalEntries.{none_found}
use Rattle.pct_machine.proofs.ForkedPlaces.{thread_lent, sound_with, list_with}
use Rattle.pct_machine.proofs.processes.Processes.fork.Goals as goal

pub returns-in_default-clause-child : goal.returns-in_default-clause-child
returns-in_default-clause-child g c = absurd (none-some c.requires.parent (sym (none_found c.args.pid c.args.self.now.processes (sym c.in_default.ensures)) ∙ c.requires.live))

pub fork_place-requires-clause-thread : goal.fork_place-requires-clause-thread
fork_place-requires-clause-thread g c =
    let s = c.self.inside in
    thread_lent c.args.pid c.args.tid c.args.child c.in-Some.index s.live s.made s.relatives s.places.items c.as_mut_slice.result.now c.args.self.now c.self.view_is c.self.invariant c.in-Some.ensures c.requires c.as_mut_slice.ensures.value

pub invariant_of-self : goal.invariant_of-self
invariant_of-self g c =
    let s = c.self.inside in
    sound_with c.args.pid c.args.tid c.args.child c.in-Some.index s.live s.made s.relatives s.places.items c.as_mut_slice.result.now c.args.self.now c.self.view_is c.self.invariant c.in-Some.ensures c.requires c.as_mut_slice.ensures.value
    c.fork_place.new.places s.places.len c.as_mut_slice.ensures.len c.fork_place.auto.places c.fork_place.ensures.child
    c.renew.new.relatives (c.renew.ensures ∙ ap (map relative_in) (c.split_at.ensures.front ∙ ap (take (s.live + 1)) c.as_slice.ensures.value))

pub returns-clause-child : goal.returns-clause-child
returns-clause-child g c =
    let s = c.self.inside in
    list_with c.args.pid c.args.tid c.args.child c.in-Some.index s.live s.made s.relatives s.places.items c.as_mut_slice.result.now c.args.self.now c.self.view_is c.self.invariant c.in-Some.ensures c.requires c.as_mut_slice.ensures.value
    c.fork_place.new.places s.places.len c.as_mut_slice.ensures.len c.fork_place.auto.places c.fork_place.ensures.child
