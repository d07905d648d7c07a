-- The standings that are looked for.
use Rattle.std.specs.Prelude.{Bool}
use Rattle.pct_process.specs.declared.standings.Standing.{Standing}
use Rattle.pct_process.specs.declared.standings.Wanted.{Wanted}
use Rattle.pct_process.specs.declared.standings.Wanted.TheVariants as wanted
use Rattle.pct_process.specs.Standings.{waits_on, waits_with, joins}

-- a standing is as is wanted
abbrev pub is_wanted : Wanted → Standing → Bool
is_wanted (wanted.Waiting cond) s = waits_on cond s
is_wanted (wanted.Released mutex) s = waits_with mutex s
is_wanted (wanted.Joining id) s = joins id s
