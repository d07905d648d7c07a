-- Every run of an engine keeps the laws of how threads end.
use Rattle.pct_names.proofs.Names.{Run}
use Rattle.pct_ending_laws.proofs.KeptStates.{every_run_keeps_laws, every_state_is_kept}
use Rattle.pct_stack_laws.proofs.StackLawKept.{every_run_keeps_stacks}
use Rattle.pct_engine.specs.EngineStates.{EngineValue, IsRunOf, KeepsLaws}

pub keeps_laws : (engine : EngineValue) (after : Run) → IsRunOf engine after → KeepsLaws engine after
keeps_laws engine after is_run = record {
  laws = every_run_keeps_laws engine.script engine.config engine.history after is_run;
  kept = every_state_is_kept engine.script engine.config engine.history after is_run;
  stacks = every_run_keeps_stacks engine.script engine.config engine.history;
}
