-- A script that is run.
use Rattle.std.specs.Prelude.{◌≡◌, IsTrue, List}
use Rattle.pct_model.specs.declared.script.Script.{Script}
use Rattle.pct_model.specs.declared.schedule.Config.{Config}
use Rattle.pct_model.specs.Run.{is_config}
use Rattle.pct_jumps.specs.declared.jump_table.Blocks.{Blocks}
use Rattle.pct_jumps.specs.JumpTable.{jumps_of}

-- the script and the configuration of its run
pub record ProgramValue : Type 0 where
  pub script : Script
  pub config : Config

-- the configuration is within the limits, and the jump table is that of the script
pub record KeepsJumps (script : Script) (config : Config) (jumps : List Blocks) : Type 0 where
  pub limits : IsTrue (is_config config)
  pub made : jumps ≡ jumps_of script.funcs
