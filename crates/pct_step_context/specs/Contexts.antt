-- What the next step of a thread depends on.
use Rattle.std.specs.Prelude.{◌≡◌, true, List, length}
use Rattle.pct_model.specs.Environment.{Environment}
use Rattle.pct_model.specs.Formats.{has_timeouts}
use Rattle.pct_model.specs.World.{Thread, SharedState}
use Rattle.pct_engine_laws.specs.Seen.{SeenSlot}
use Rattle.pct_engine_laws.specs.SeenSteps.{environment_in}
use Rattle.pct_process.specs.FamilyViews.{other_processes}
use Rattle.pct_process.specs.ProcessViews.{slots_of}
use Rattle.pct_process.specs.Standings.{AreStandings}
use Rattle.pct_threads.specs.Tables.{frames_at, is_occupied_at}
use Rattle.pct_step_context.specs.declared.context.Context.{Context}
use Rattle.pct_step_context.specs.Positions.{HasRow, IsDecoded, IsPosition}

-- the slots of the process
abbrev pub slots_in : Context → List SeenSlot
slots_in context = slots_of context.position.keys.now.rows context.threads.now

-- this is what the thread sees of the others, in a run of the configuration
abbrev pub IsEnvironment : Context → Environment → Type 0
IsEnvironment context environment = environment ≡ environment_in (has_timeouts context.program.now.config.format) (length (slots_in context)) (other_processes context.family) (slots_in context) context.position.id

-- this is the context of the thread, which shares this state with the threads of its process, and sees this of them
pub record IsContext (shared : SharedState) (t : Thread) (environment : Environment) (context : Context) : Type 0 where
  pub shared_is : context.process.now.shared ≡ shared
  pub keys_are : context.position.keys.now.places ≡ shared.keys
  pub position_is : IsPosition context.program.now.script context.position t
  pub frames_are : frames_at context.threads.now context.position.slot ≡ t.frames
  pub environment_is : IsEnvironment context environment

-- the parts of a context fit together: a thread holds the slot, its statement is decoded, each slot has a row, and the standings are those
-- of the threads
pub record IsWhole (context : Context) : Type 0 where
  pub decoded : IsDecoded context.program.now.script context.position.next
  pub row : HasRow context.position
  pub held : is_occupied_at context.threads.now context.position.slot ≡ true
  pub rows : length context.position.keys.now.rows ≡ length context.threads.now
  pub standings_are : AreStandings context.standings.now context.threads.now
