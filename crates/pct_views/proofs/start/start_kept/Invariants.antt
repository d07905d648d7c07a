use Rattle.pct_engine.specs.EngineStates.{IsRunOf}
use Rattle.pct_engine_laws.specs.Seen.{seen}
use Rattle.pct_names.proofs.Names.{Run}
use Rattle.pct_views.proofs.FoundProcesses.{AreLeft}
use Rattle.pct_views.proofs.start.start_kept.Given as goal

abbrev pub invariant-loop-index : goal.invariant-loop-index
invariant-loop-index l = (after : Run) → IsRunOf l.engine after → AreLeft l.entry.pid l.index (seen l.engine.config.slots after.world).processes
