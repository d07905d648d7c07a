-- Lists of events of which a law refuses the newest.
use Rattle.pct_names.proofs.Names.{◌&&◌, [], Bool, Event, false, List, not, ◌∷◌}
use Rattle.pct_laws.specs.Each.{each}

-- the newest event may not come after those before it, which keep the law
abbrev pub refuses : (Event → List Event → Bool) → List Event → Bool
refuses allows [] = false
refuses allows (e ∷ earlier) = not (allows e earlier) && each allows earlier
