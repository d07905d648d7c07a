use Rattle.pct_names.proofs.Names.{◌∙◌, ap, arith, is_some, List, Option, refl, slice_get, ℕ}
use Rattle.pct_process.specs.declared.standings.Standing.TheVariants.{Other}
use Rattle.pct_process.specs.Standings.{joins}
use Rattle.pct_process.proofs.ListedSlots.{some_slot}
use Rattle.pct_process.proofs.standings.Standings.is_joined.Goals as goal

pub returns : goal.returns
returns c =
    c.is_some.ensures
    ∙ ap (λ (o : Option ℕ). is_some o) c.nth.ensures.value
    ∙ ap (λ (set : List ℕ). is_some (slice_get set 0)) c.joiners.ensures.value
    ∙ some_slot (joins c.args.id) Other refl c.args.self.now.of (omega (arith, c.joiners.ensures.all))
