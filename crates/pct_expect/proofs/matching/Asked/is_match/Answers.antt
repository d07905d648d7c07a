use Rattle.pct_names.proofs.Names.{ap, false, get_or, List, option_map_or, slice_get, sym, ℕ, ◌∙◌}
use Rattle.pct_expect.specs.Events.{matches}
use Rattle.pct_expect.specs.Keys.{asked_key}
use Rattle.pct_expect.proofs.EventLines.{compared, keys_of, refused_at}
use Rattle.pct_expect.proofs.matching.Asked.is_match.Goals as goal

pub returns-in-Some : goal.returns-in-Some
returns-in-Some c =
    let events = c.args.events.now in
    let asks = ap asked_key (sym c.self.view_is) ∙ sym c.self.invariant ∙ c.in-Some.is in
    let keys = keys_of c.events.inside.text.now c.events.inside.lines.now events c.events.view_is c.events.inside.keys.items c.events.invariant.1 in
    let key = c.index.ensures ∙ ap (λ (ks : List ℕ). get_or ks c.args.index c.index.result.now) keys in
    sym (refused_at c.args.self.now events c.args.index c.in-Some.key c.index.result.now asks (λ same. c.if-key-index.true (same ∙ sym key)))

pub returns-in_default : goal.returns-in_default
returns-in_default c =
    let events = c.args.events.now in
    c.matches.ensures
    ∙ compared c.events.inside.text.now c.events.inside.lines.now events c.events.view_is c.self.inside.words.now c.part_at.result.now c.args.index _ c.requires c.part_at.ensures
    ∙ ap (λ (pattern : List (List ℕ)). option_map_or (matches pattern) (slice_get events c.args.index) false) c.self.view_is
