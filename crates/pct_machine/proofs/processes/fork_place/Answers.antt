use Rattle.pct_names.proofs.Names.{◌++◌, [], ap, get_or, same_Some, sym, take, ◌∙◌, ◌∷◌}
use Rattle.pct_engine_laws.specs.Seen.{SeenProcess, child_seen}
use Rattle.pct_machine.proofs.ForkedPlaces.{first_free, place_before}
use Rattle.pct_machine.proofs.processes.fork_place.Goals as goal

pub inherit-requires : goal.inherit-requires
inherit-requires g c =
    let split = c.split_at_mut-processes in
    c.requires.thread _ (place_before c.args.live c.args.places.now split.result.0.now c.requires.room split.ensures.front c.args.index c.requires.within c.index-processes-index.result)

pub returns-clause-child : goal.returns-clause-child
returns-clause-child g c = λ p at.
    let split = c.split_at_mut-processes in
    let parent : SeenProcess = get_or split.result.0.now c.args.index c.index-processes-index.result in
    let before = place_before c.args.live c.args.places.now split.result.0.now c.requires.room split.ensures.front c.args.index c.requires.within c.index-processes-index.result in
    first_free c.args.live c.args.places.now split.result.0.now c.requires.room split.ensures.front split.result.1.now split.ensures.front_len split.ensures.back_len c.inherit.new.self
    ∙ ap (λ (child : SeenProcess). take c.args.live c.args.places.now ++ child ∷ []) (c.inherit.ensures.child ∙ ap (child_seen c.args.tid c.args.pid) (same_Some parent p (sym before ∙ at)))
