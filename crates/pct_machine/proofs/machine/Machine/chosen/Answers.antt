use Rattle.pct_names.proofs.Names.{false, IfSome, is_some, subst, sym, true, ◌≡◌}
use Rattle.pct_engine_laws.specs.Seen.{Seen}
use Rattle.pct_engine_laws.specs.SeenSteps.{seen_transition}
use Rattle.pct_machine.proofs.ReadyProcesses.{chosen_is_legal}
use Rattle.pct_machine.proofs.machine.Machine.chosen.Goals as goal

pub returns-clause-legal : goal.returns-clause-legal
returns-clause-legal c = λ small.
    let program = c.args.program.now in
    let running : is_some c.args.self.now.stop ≡ false = subst (λ (v : Seen). is_some v.stop ≡ false) c.self.view_is (sym c.if-is_some.ensures) in
    chosen_is_legal program.script program.config c.args.self.now c.args.draw.worker c.args.draw.choice running small _ c.entry_on.result c.entry_on.ensures.value
    (subst (λ (v : Seen). IfSome c.entry_on.result (λ e. is_some (seen_transition program.script program.config v e) ≡ true)) c.self.view_is c.entry_on.ensures.taken)
