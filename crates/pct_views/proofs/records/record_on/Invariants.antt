use Rattle.pct_views.proofs.records.record_on.Given as goal

abbrev pub ghosts-record_counted : goal.ghosts-record_counted
ghosts-record_counted a = record { name = a.blank.name; parts = a.blank.parts }
