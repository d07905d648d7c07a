use Rattle.pct_transitions.proofs.process_steps.has_choice.Given as goal

abbrev pub ghosts-has_choice_counted : goal.ghosts-has_choice_counted
ghosts-has_choice_counted a = record { name = a.blank.name; parts = a.blank.parts }
