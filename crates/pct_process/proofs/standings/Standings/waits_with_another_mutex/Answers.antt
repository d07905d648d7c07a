use Rattle.pct_names.proofs.Names.{◌∙◌, ap, arith, is_some, List, Option, refl, slice_get, ℕ}
use Rattle.pct_set.specs.Slots.{difference_of}
use Rattle.pct_process.specs.declared.standings.Standing.TheVariants.{Other}
use Rattle.pct_process.specs.Standings.{standing_at, waits_on, waits_with, waits_with_another}
use Rattle.pct_process.proofs.ListedSlots.{some_slot, difference-where}
use Rattle.pct_process.proofs.standings.Standings.waits_with_another_mutex.Goals as goal

pub returns : goal.returns
returns c =
    let v = c.args.self.now in
    c.is_some.ensures
    ∙ ap (λ (o : Option ℕ). is_some o) c.nth.ensures.value
    ∙ ap (λ (set : List ℕ). is_some (slice_get set 0)) (c.minus.ensures ∙ (λ i. difference_of (c.waiters.ensures i) (c.waiters_with.ensures.value i)) ∙ difference-where (λ k. waits_on c.args.cond (standing_at v k)) (λ k. waits_with c.args.mutex (standing_at v k)))
    ∙ some_slot (waits_with_another c.args.cond c.args.mutex) Other refl v.of (omega (arith, c.waiters_with.ensures.all))
