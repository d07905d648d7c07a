use Rattle.pct_history.proofs.replaying.follow.Given as goal

abbrev pub ghosts-make_steps : goal.ghosts-make_steps
ghosts-make_steps a = record { name = a.blank.name; parts = a.blank.parts }
