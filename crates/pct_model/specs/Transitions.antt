-- Transitions: what a thread does in one step, as data. ScriptStatements.antt, CleanupHandlers.antt, ThreadCalls.antt,
-- CancelCalls.antt, KeyCalls.antt, MutexCalls.antt, CondCalls.antt, SemCalls.antt, OnceCalls.antt, ForkCalls.antt, ThreadEnds.antt and
-- ProcessExit.antt give the transitions; Actions.antt gives what a transition changes.
use Rattle.std.specs.Prelude.{ℕ, List, [], ◌∷◌, Some, None}
use Rattle.pct_model.specs.declared.event.What.{What}
use Rattle.pct_model.specs.declared.event.What.TheVariants.{Stopped}
use Rattle.pct_model.specs.declared.stop.Why.{Why}
use Rattle.pct_model.specs.declared.transition.NewThread.{NewThread}
use Rattle.pct_model.specs.declared.transition.Transition.{Transition}

-- a transition with these events, and nothing else
abbrev pub acts : List What → Transition
acts events = record { next = None; writes = []; own = None; created = None; shared = None; named = None; process = None; stop = None; events = events }

-- the thread goes on at a pc, with these events
abbrev pub goes_on : ℕ → List What → Transition
goes_on next events = record (acts events) { next = Some next }

-- the thread goes on at a pc and creates a thread, with these events
abbrev pub creates_thread : ℕ → NewThread → List What → Transition
creates_thread next new events = record (goes_on next events) { created = Some new }

-- a transition that changes nothing, for states that no run reaches
abbrev pub no_change : Transition
no_change = acts []

-- a stop: nothing else changes
abbrev pub stops : Why → Transition
stops why = record (acts (Stopped why ∷ [])) { stop = Some why }
