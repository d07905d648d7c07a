use Rattle.pct_versions.proofs.versions.Versions.+get.Given as goal

abbrev pub decreases-get : goal.decreases-get
decreases-get l = l.height
