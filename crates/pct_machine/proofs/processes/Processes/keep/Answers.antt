use Rattle.pct_names.proofs.Names.{ap, map, take, ◌∙◌}
use Rattle.pct_engine_laws.specs.Seen.{relative_in}
use Rattle.pct_machine.proofs.ChangedPlaces.{sound_changed}
use Rattle.pct_machine.proofs.processes.Processes.keep.Goals as goal

pub invariant_of-self : goal.invariant_of-self
invariant_of-self c =
    let s = c.self.inside in
    let kept = c.keep_places-self-inside in
    sound_changed c.args.pid c.args.change s.live s.made kept.result s.relatives c.renew.new.relatives s.places.items kept.new.places.items c.self.invariant kept.ensures.few kept.ensures.all kept.ensures.kept
    (c.renew.ensures ∙ ap (map relative_in) (c.split_at.ensures.front ∙ ap (take kept.result) c.as_slice.ensures.value))
