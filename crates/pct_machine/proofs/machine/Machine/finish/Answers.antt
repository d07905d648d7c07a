use Rattle.pct_names.proofs.Names.{◌<◌, ap, arith, Entry, has_timeouts, IfSome, length, length-map, List, option_map, ProcessAction}
use Rattle.pct_names.proofs.Names.{Option, Script, slice_get, subst, sym, Transition, ℕ, ◌∙◌, ◌≡◌}
use Rattle.pct_set.specs.Slots.{slots_where}
use Rattle.pct_step_context.specs.Programs.{ProgramValue}
use Rattle.pct_ready_sets.specs.ReadyConditions.{FollowAll, touches}
use Rattle.pct_ready_sets.specs.ReadyGroups.{ReadyValue, with_stale}
use Rattle.pct_machine.specs.Places.{ProcessList}
use Rattle.pct_machine.proofs.FollowingLists.{follow_moved, follow_stale}
use Rattle.pct_engine_laws.specs.Seen.{Seen}
use Rattle.pct_machine.specs.ListChanges.{ChangeFits, list_changed, list_in, list_moved, process_moved, seen_finished}
use Rattle.pct_machine.proofs.ConfigLimits.{slots_within}
use Rattle.pct_machine.proofs.machine.Machine.finish.Goals as goal
use Rattle.pct_machine.proofs.machine.Machine.finish.Goals.{in-None, in-Some}

pub mark-requires-clause-some : goal.mark-requires-clause-some
mark-requires-clause-some g c = (slots_within c.program.inside.config c.program.invariant.limits).0

pub mark-requires-clause-few : goal.mark-requires-clause-few
mark-requires-clause-few g c = (slots_within c.program.inside.config c.program.invariant.limits).1

pub change-requires : goal.change-requires
change-requires g c =
    let e : Entry = c.args.entry.now in
    let o : Transition = c.args.transition.now in
    subst (λ (v : Seen). IfSome o.process (λ change. ChangeFits e.pid e.tid change (list_in v))) (sym c.self.view_is) c.requires

pub returns-clause-made : goal.returns-clause-made
returns-clause-made g c =
    let e : Entry = c.args.entry.now in
    let o : Transition = c.args.transition.now in
    (λ i. record { processes = (c.change.ensures.changed i).processes; made = (c.change.ensures.changed i).made; stop = o.stop }) ∙ ap (seen_finished e.pid e.tid o) c.self.view_is

pub returns-clause-follow : goal.returns-clause-follow
returns-clause-follow g c = λ before can moved follow.
    let script : Script = c.args.program.now.script in
    let config = c.args.program.now.config in
    let timeouts = has_timeouts config.format in
    let e : Entry = c.args.entry.now in
    let o : Transition = c.args.transition.now in
    let sets : List ReadyValue = c.args.sets.now in
    let slots_are : c.program.inside.config.slots ≡ config.slots = ap (λ (p : ProgramValue). p.config.slots) c.program.view_is in
    let inside : c.self.inside.processes ≡ list_moved config.slots e.pid e.tid o before = ap list_in c.self.view_is ∙ moved in
    elim c.match-transition.branch [
      | in-None w ↦
          let after : c.change.new.self ≡ list_moved config.slots e.pid e.tid o before = c.change.ensures.changed ∙ ap (λ (change : Option ProcessAction). list_changed e.pid e.tid change c.self.inside.processes) w.in-None.is ∙ inside in
          let marks : (i : ℕ) → i < length before.processes → slice_get w.mark.new.self i ≡ option_map (with_stale (slots_where (touches config.slots e.tid o))) (slice_get sets i) = λ i less.
          subst (λ (n : ℕ). slice_get w.mark.new.self i ≡ option_map (with_stale (slots_where (touches n e.tid o))) (slice_get sets i)) slots_are
          (w.mark.ensures i (omega (arith, less, ap length w.as_slice.ensures.value, ap (λ (l : ProcessList). length l.processes) inside, length-map before.processes (process_moved config.slots e.pid e.tid o)))) in
          subst (FollowAll script timeouts c.change.new.self.processes) (sym w.sets-is)
          (subst (λ (l : ProcessList). FollowAll script timeouts l.processes w.mark.new.self) (sym after)
          (follow_moved script timeouts config.slots e.pid e.tid o before.processes sets w.mark.new.self can follow marks))
      | in-Some w ↦
          subst (FollowAll script timeouts c.change.new.self.processes) (sym (w.sets-is ∙ w.mark_all.ensures)) (follow_stale script timeouts c.change.new.self.processes sets)
    ]
