use Rattle.pct_names.proofs.Names.{◌+◌, ◌*◌, length}
use Rattle.pct_machine.proofs.candidates.+pick.Given as goal

abbrev pub decreases-pick : goal.decreases-pick
decreases-pick l = 3 * length l.places.now

abbrev pub decreases-pick_more : goal.decreases-pick_more
decreases-pick_more l = 3 * length l.places.now + 1

abbrev pub decreases-pick_later : goal.decreases-pick_later
decreases-pick_later l = 3 * length l.places.now + 2
