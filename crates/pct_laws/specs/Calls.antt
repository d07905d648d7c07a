-- The law of calls, of what a call finds and leaves: a destructor is that of the pthread_key_create of its key, which was not deleted since; it
-- is called with the thread's value of the key, which is not NULL, and is NULL then (XSH pthread_key_create, pthread_key_delete). The key on
-- each place changes by the events of these calls alone. Of the functions that were registered with atexit, an exit calls the newest that is
-- left, and none is left as it ends the process (XSH atexit, exit).
--
-- It leaves open that the functions are called (FrameLaw.antt); at which statements, so that a pop calls its handler exactly if its argument is
-- not 0, and with which numbers (StatementLaw.antt); and which exit functions are left (SharedLaw.antt).
use Rattle.std.specs.Prelude.{◌≡◌, ℕ, if◌then◌else◌, true, List, [], ◌∷◌, Option, Some, None, option_map, All, length, nat_eq, take}
use Rattle.pct_model.specs.declared.event.Event.{Event}
use Rattle.pct_model.specs.declared.event.What.{What}
use Rattle.pct_model.specs.declared.event.What.TheVariants as what
use Rattle.pct_model.specs.declared.schedule.Config.{Config}
use Rattle.pct_model.specs.declared.schedule.Entry.{Entry}
use Rattle.pct_model.specs.declared.script.Script.{Script}
use Rattle.pct_model.specs.declared.state.Status.TheVariants.{Exiting}
use Rattle.pct_model.specs.declared.statement.Stmt.TheVariants as statement
use Rattle.pct_laws.specs.AfterAll.{after_all}
use Rattle.pct_laws.specs.Each.{each}
use Rattle.pct_laws.specs.KeysLaw as KeysLaw
use Rattle.pct_model.specs.Keys.{Key, key_place, key_at, value_at}
use Rattle.pct_model.specs.NextStatement.{NextStatement, StatementIn, next_of}
use Rattle.pct_laws.specs.ThreadSteps.{ThreadStep, EachStep}

-- ---- destructors and exit functions

-- the destructor f of a key is called with a value in a step
pub record CallsDestructor (number f v : ℕ) (s : ThreadStep) : Type 0 where
  -- the key is on its place, and f is its destructor
  pub key : key_at s.process.shared.keys (key_place number) ≡ Some (record { number = number; destructor = Some f })
  -- the value is that of the thread, which is NULL then
  pub value : value_at (key_place number) s.before.specific ≡ v
  pub null : value_at (key_place number) s.after.specific ≡ 0

-- what a step with an event finds, and leaves
abbrev pub IsCalled : What → ThreadStep → Type 0
IsCalled (what.DtorRun pass key f v) s = CallsDestructor key f v s
-- a key is made on a place without a key, and one that is deleted is on its place
IsCalled (what.KeyMade number) s = key_at s.process.shared.keys (key_place number) ≡ None
IsCalled (what.KeyGone number) s = option_map (λ key. key.number) (key_at s.process.shared.keys (key_place number)) ≡ Some number
-- the newest of the functions that were registered with atexit and are left is called, and its thread is in no other function
IsCalled (what.ExitRun f) s = (take 1 s.process.shared.exit_functions ≡ f ∷ []) × (length s.after.frames ≡ 1)
-- none is left as a thread that exits its process ends it
IsCalled (what.ProcessEnded n) s = s.before.status ≡ Exiting → s.process.shared.exit_functions ≡ []
-- the law asks nothing at the other events
IsCalled _ s = Unit {0}

-- so it is of each event of a step
abbrev pub EachIsCalled : ThreadStep → Type 0
EachIsCalled s = All (λ w. IsCalled w s) s.events

-- ---- keys

-- the key that pthread_key_create makes with a number, where it is the next statement
abbrev pub new_key : NextStatement → ℕ → Option Key
new_key (StatementIn frame (statement.KeyCreate result key destructor)) number = Some (record { number = number; destructor = destructor })
new_key _ number = None

-- the key on a place after an event of a thread with this next statement
abbrev pub key_left : NextStatement → (place : ℕ) → What → Option Key → Option Key
key_left next place (what.KeyMade number) key = if nat_eq (key_place number) place then new_key next number else key
key_left next place (what.KeyGone number) key = if nat_eq (key_place number) place then None else key
key_left next place _ key = key

-- the key on each place after a step is what its events leave
abbrev pub ChangesKeys : Script → ThreadStep → Type 0
ChangesKeys script s = (place : ℕ) → key_at s.process_after.shared.keys place ≡ after_all (key_left (next_of script s.before.frames) place) s.events (key_at s.process.shared.keys place)

-- ---- the law

-- the law of calls, of the run of a schedule and its events
pub record Calls (script : Script) (config : Config) (entries : List Entry) (events : List Event) : Type 0 where
  pub called : EachStep script config entries EachIsCalled
  pub changed_keys : EachStep script config entries (ChangesKeys script)
  pub keys : each KeysLaw.allows events ≡ true
