-- The processes of a machine, as they are shown.
use Rattle.std.specs.Prelude.{◌≡◌, Option, Some, None, is_some, IsSomeAnd}
use Rattle.pct_model.specs.OtherProcesses.{Family}
use Rattle.pct_engine_laws.specs.Seen.{SeenProcess, Seen, family_in}
use Rattle.pct_process.specs.FamilyViews.{other_processes}
use Rattle.pct_step_context.specs.Programs.{ProgramValue}
use Rattle.pct_place.specs.declared.process_view.ProcessView.{ProcessView}
use Rattle.pct_place.specs.ProcessSteps.{CanStep, data_in}

-- a process of the run of a program, which sees these other processes and can step, is shown so
pub record ShowsProcess (program : ProgramValue) (family : Family) (p : SeenProcess) (view : ProcessView) : Type 0 where
  pub pid_is : view.pid ≡ p.pid
  pub ended_is : view.has_ended ≡ is_some p.ended
  pub state_is : view.state.now ≡ data_in p
  pub program_is : view.around.program.now ≡ program
  pub family_is : other_processes view.around.family ≡ family
  pub can_step : CanStep program.config.slots p

-- there is a view exactly if there is a process, and it shows the process
abbrev pub ShowsIfSome : ProgramValue → Seen → Option SeenProcess → Option ProcessView → Type 0
ShowsIfSome program v None view = view ≡ None
ShowsIfSome program v (Some p) view = IsSomeAnd view (ShowsProcess program (family_in v p.pid) p)
