-- The names that are read of the words of events, and their numbers. In a report, names are numbered in the order of their first
-- occurrences, while the events of a run have the indexes of names in the script.
use Rattle.std.specs.Prelude.{ℕ, ◌+◌, List, [], ◌∷◌, length, slice_get, unwrap_or, option_and_then}
use Rattle.pct_model.specs.declared.event.Event.{Event}
use Rattle.pct_model.specs.declared.event.What.{What}
use Rattle.pct_model.specs.declared.event.What.TheVariants as what
use Rattle.pct_model.specs.EventTexts.{EventNames}
use Rattle.pct_model.specs.Names.{index_among, name_at}
use Rattle.pct_name_numbers.specs.Numbering.{names_with}
use Rattle.pct_event_laws.specs.Renamed.{Naming}

-- ---- numbers of names

-- the number that the name with index k has among the names that were read; where that name was not read, k gets a number of its own
abbrev pub number_of_index : List (List ℕ) → List (List ℕ) → ℕ → ℕ
number_of_index names read k = unwrap_or (option_and_then (λ name. index_among read name) (slice_get names k)) (k + length read)

-- the numbers of a script's names among the names that were read
abbrev pub naming : EventNames → EventNames → Naming
naming script read = record {
  function = number_of_index script.functions read.functions;
  mutex = number_of_index script.mutexes read.mutexes;
  cond = number_of_index script.conds read.conds;
  sem = number_of_index script.sems read.sems;
  once = number_of_index script.onces read.onces;
}

-- ---- the names that were read after an event

module _ (script read : EventNames) where
  -- the names that were read, and then the name of a function, mutex, condition variable, semaphore or once control
  abbrev pub with_function : ℕ → EventNames
  with_function f = record read { functions = names_with (name_at script.functions f) read.functions }

  abbrev pub with_mutex : ℕ → EventNames
  with_mutex m = record read { mutexes = names_with (name_at script.mutexes m) read.mutexes }

  abbrev pub with_cond : ℕ → EventNames
  with_cond c = record read { conds = names_with (name_at script.conds c) read.conds }

  abbrev pub with_sem : ℕ → EventNames
  with_sem s = record read { sems = names_with (name_at script.sems s) read.sems }

  abbrev pub with_once : ℕ → EventNames
  with_once o = record read { onces = names_with (name_at script.onces o) read.onces }

  -- the names that were read, and then those of the event
  abbrev pub after : What → EventNames
  after (what.Pushed f a) = with_function f
  after (what.Popped f a run) = with_function f
  after (what.HandlerRun f a) = with_function f
  after (what.DtorRun pass key f v) = with_function f
  after (what.PrepareRun f) = with_function f
  after (what.ParentRun f) = with_function f
  after (what.ChildRun f) = with_function f
  after (what.ExitRun f) = with_function f
  after (what.EndingInWait c m) = record (with_cond c) { mutexes = names_with (name_at script.mutexes m) read.mutexes }
  after (what.Acquired m) = with_mutex m
  after (what.Released m) = with_mutex m
  after (what.Signalled c id) = with_cond c
  after (what.BroadcastTo c count) = with_cond c
  after (what.WaitCanceled c) = with_cond c
  after (what.WaitExpired c) = with_cond c
  after (what.HandedOn c id) = with_cond c
  after (what.Taken s) = with_sem s
  after (what.Posted s) = with_sem s
  after (what.OnceCalled o) = with_once o
  after (what.OnceDone o) = with_once o
  after _ = read

-- the names that were read, and then those of some events, the oldest first
abbrev pub after_all : EventNames → EventNames → List Event → EventNames
after_all script read [] = read
after_all script read (e ∷ events) = after_all script (after script read e.what) events
