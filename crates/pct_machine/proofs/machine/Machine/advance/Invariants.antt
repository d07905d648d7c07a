use Rattle.pct_machine.proofs.machine.Machine.advance.Given as goal

abbrev pub ghosts-advance_counted : goal.ghosts-advance_counted
ghosts-advance_counted a = record { name = a.blank.name; parts = a.blank.parts }
