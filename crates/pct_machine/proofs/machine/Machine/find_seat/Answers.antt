use Rattle.pct_names.proofs.Names.{subst}
use Rattle.pct_engine_laws.specs.Seen.{Seen}
use Rattle.pct_machine.specs.Candidates.{IsOnlySeat}
use Rattle.pct_machine.proofs.OnlyThreads.{only_chosen, only_is_seat}
use Rattle.pct_machine.proofs.machine.Machine.find_seat.Goals as goal

pub returns-in-Some-clause-value : goal.returns-in-Some-clause-value
returns-in-Some-clause-value c = λ worker choice.
    let program = c.args.program.now in
    let seat = c.in-Some.seat in
    let is = subst (λ (v : Seen). IsOnlySeat v.processes seat) c.self.view_is c.in-Some.ensures in
    only_chosen c.args.self.now seat is program.script program.config c.requires.can c.requires.running worker c.args.number choice

pub returns-in-Some-clause-seat : goal.returns-in-Some-clause-seat
returns-in-Some-clause-seat c =
    let seat = c.in-Some.seat in
    only_is_seat c.args.self.now seat (subst (λ (v : Seen). IsOnlySeat v.processes seat) c.self.view_is c.in-Some.ensures)
