use Rattle.pct_names.proofs.Names.{◌++◌, [], ap, List, Some, subst, sym, ◌∙◌, ◌∷◌, ◌≡◌}
use Rattle.atomic_table.specs.Table.{opening}
use Rattle.pct_shared.specs.TurnRule.{KeepsTurn, Slot}
use Rattle.pct_shared.specs.Views.{first_view}
use Rattle.pct_shared.proofs.TurnAllowed.{opening_allowed}
use Rattle.pct_shared.proofs.shared.new_desk.Goals as goal

pub new-requires-2 : goal.new-requires-2
new-requires-2 c =
    let o = c.args.opening.now in
    let engine = c.in_ok-new.field-0 in
    let slots : c.push.new.self.items ≡ Some engine ∷ [] = c.in_ok-push.ensures.items ∙ ap (λ (l : List Slot). l ++ Some engine ∷ []) c.in_ok-slots.ensures.items in
    subst (λ (l : List Slot). KeepsTurn o (opening (0 ∷ []) l (Some (first_view o)))) (sym slots) (opening_allowed o engine (c.in_ok-new.ensures.ok ∙ c.requires.0) c.requires.1)
