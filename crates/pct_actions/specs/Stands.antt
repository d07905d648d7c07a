-- How a slot stands, as far as other threads of its process ask for it.
use Rattle.std.specs.Prelude.{◌≡◌, ℕ, not, List, Option, Some, None}
use Rattle.pct_threads.specs.declared.record.Thread.{Thread as Record}
use Rattle.pct_threads.specs.Slots.{Held, Slot}
use Rattle.pct_threads.specs.Tables.{held_at}
use Rattle.pct_process.specs.declared.standings.Standing.TheVariants as standing
use Rattle.pct_process.specs.Standings.{standing_of, standing_on, is_unfinished, with_standing, StandingsValue}
use Rattle.pct_actions.specs.declared.stand.Stand.{Stand}

-- how a slot stands on which there is this thread, or none
abbrev pub stand_of : Option Held → Stand
stand_of here = record { standing = standing_on here; unfinished = is_unfinished here }

-- how one stands whose thread has this record
abbrev pub stand_by : Record → Stand
stand_by kept = record { standing = standing_of kept.status; unfinished = not kept.ended }

-- how a slot of a table stands
abbrev pub stand_at : List Slot → ℕ → Stand
stand_at threads slot = stand_of (held_at threads slot)

-- what is told of a slot after a change, from how it stood to how it stands: how it stands, or that it stands as before, in none of the ways
-- that others ask for
abbrev pub TellsStand : Option Stand → Stand → Stand → Type 0
TellsStand None before after = (after ≡ before) × (after.standing ≡ standing.Other)
TellsStand (Some stand) before after = stand ≡ after

-- the standings with what is told of a slot
abbrev pub with_stand : ℕ → Option Stand → StandingsValue → StandingsValue
with_stand slot None v = v
with_stand slot (Some stand) v = with_standing slot stand.standing stand.unfinished v
