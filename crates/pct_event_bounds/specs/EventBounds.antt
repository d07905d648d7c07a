-- What events name: items of a script, rows of the table of cancellation points, and processes and threads, by numbers that each have a name
-- or an id in the text of an event.
use Rattle.std.specs.Prelude.{◌≡◌, ℕ, ◌<◌, true, List, length, Some, All}
use Rattle.std.specs.List.{list_all}
use Rattle.pct_model.specs.declared.event.Event.{Event}
use Rattle.pct_model.specs.declared.event.What.{What}
use Rattle.pct_model.specs.declared.event.What.TheVariants as what
use Rattle.pct_model.specs.declared.schedule.Config.{Config}
use Rattle.pct_model.specs.declared.schedule.Entry.{Entry}
use Rattle.pct_model.specs.declared.script.Script.{Script}
use Rattle.pct_model.specs.EventTexts.{EventNames, event_names}
use Rattle.pct_model.specs.Names.{is_name, all_different}
use Rattle.pct_model.specs.Points.{points}
use Rattle.pct_model.specs.Run.{Run, run}

-- ---- events

-- the index is that of one of some names
abbrev pub IsIndexOf : List (List ℕ) → ℕ → Type 0
IsIndexOf names k = k < length names

-- the index is that of a cancellation point in the table
abbrev pub IsPoint : ℕ → Type 0
IsPoint index = index < length points

module _ (names : EventNames) where
  -- each index in the event is that of a name of its kind, or of a cancellation point, and the id of what it makes is not 0
  abbrev pub NamesItems : What → Type 0
  NamesItems (what.Created id detached) = 0 < id
  NamesItems (what.Pushed f a) = IsIndexOf names.functions f
  NamesItems (what.Popped f a run) = IsIndexOf names.functions f
  NamesItems (what.Called point) = IsPoint point
  NamesItems (what.Done point) = IsPoint point
  NamesItems (what.EndingInWait c m) = IsIndexOf names.conds c × IsIndexOf names.mutexes m
  NamesItems (what.HandlerRun f a) = IsIndexOf names.functions f
  NamesItems (what.DtorRun pass key f v) = IsIndexOf names.functions f
  NamesItems (what.Acquired m) = IsIndexOf names.mutexes m
  NamesItems (what.Released m) = IsIndexOf names.mutexes m
  NamesItems (what.Signalled c id) = IsIndexOf names.conds c
  NamesItems (what.BroadcastTo c count) = IsIndexOf names.conds c
  NamesItems (what.WaitCanceled c) = IsIndexOf names.conds c
  NamesItems (what.WaitExpired c) = IsIndexOf names.conds c
  NamesItems (what.HandedOn c id) = IsIndexOf names.conds c
  NamesItems (what.Taken s) = IsIndexOf names.sems s
  NamesItems (what.Posted s) = IsIndexOf names.sems s
  NamesItems (what.OnceCalled o) = IsIndexOf names.onces o
  NamesItems (what.OnceDone o) = IsIndexOf names.onces o
  NamesItems (what.Forked pid) = 0 < pid
  NamesItems (what.PrepareRun f) = IsIndexOf names.functions f
  NamesItems (what.ParentRun f) = IsIndexOf names.functions f
  NamesItems (what.ChildRun f) = IsIndexOf names.functions f
  NamesItems (what.ExitRun f) = IsIndexOf names.functions f
  -- the other events name no item, and make nothing
  NamesItems _ = Unit {0}

  -- such an event of a thread, whose id and whose process id are not 0
  pub record EventNamesItems (e : Event) : Type 0 where
    pub pid : 0 < e.pid
    pub tid : 0 < e.tid
    pub what : NamesItems e.what

-- the events of every run are such, by the names of the script
abbrev pub RunsNameItems : Type 0
RunsNameItems = (script : Script) (config : Config) (entries : List Entry) (r : Run) → run script config entries ≡ Some r → All (EventNamesItems (event_names script)) r.events

-- ---- names

-- these are valid names, and no two are the same
pub record AreNames (names : List (List ℕ)) : Type 0 where
  pub valid : list_all is_name names ≡ true
  pub different : all_different names ≡ true

-- so are those of each kind
pub record HasNames (names : EventNames) : Type 0 where
  pub functions : AreNames names.functions
  pub mutexes : AreNames names.mutexes
  pub conds : AreNames names.conds
  pub sems : AreNames names.sems
  pub onces : AreNames names.onces

-- the names of every script are such
abbrev pub ScriptsHaveNames : Type 0
ScriptsHaveNames = (script : Script) → HasNames (event_names script)
