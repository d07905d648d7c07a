use Rattle.pct_names.proofs.Names.{arith, refl, subst}
use Rattle.pct_machine.specs.Candidates.{IsOnlySeat}
use Rattle.pct_machine.specs.Places.{ProcessList}
use Rattle.pct_machine.proofs.OnlyThreads.{one_place}
use Rattle.pct_machine.proofs.processes.Processes.only_seat.Goals as goal

pub returns : goal.returns
returns c =
    let s = c.self.inside in
    let p = c.index.result.now in
    let slot = c.in_ok-slot.slot in
    subst (λ (list : ProcessList). IsOnlySeat list.processes (record { place = 0; slot = slot })) c.self.view_is (record {
      process = p;
      alone = one_place s.live s.places.items p c.if-self-ne1.false (omega (arith, c.self.invariant.all)) c.index.ensures;
      first = refl;
      only = c.in_ok-slot.ensures;
    })
