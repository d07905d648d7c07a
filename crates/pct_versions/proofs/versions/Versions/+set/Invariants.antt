use Rattle.pct_versions.proofs.versions.Versions.+set.Given as goal

abbrev pub decreases-set : goal.decreases-set
decreases-set l = l.height
