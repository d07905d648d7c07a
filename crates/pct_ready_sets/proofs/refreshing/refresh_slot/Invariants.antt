use Rattle.pct_ready_sets.proofs.refreshing.refresh_slot.Given as goal

abbrev pub ghosts-condition_of : goal.ghosts-condition_of
ghosts-condition_of a = record { name = a.blank.name; parts = a.blank.parts }
