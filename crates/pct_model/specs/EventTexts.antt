-- The words of each event, without its process and thread: a word, and the fields of the event. They are given by names alone, without
-- a script.
use Rattle.std.specs.Prelude.{ℕ, Bool, true, false, List, [], ◌∷◌, map, decimal}
use Rattle.pct_model.specs.declared.script.Script.{Script}
use Rattle.pct_model.specs.declared.event.Caller.{Caller}
use Rattle.pct_model.specs.declared.event.Caller.TheVariants as caller
use Rattle.pct_model.specs.declared.event.What.{What}
use Rattle.pct_model.specs.declared.event.What.TheVariants as what
use Rattle.pct_model.specs.declared.line_kind.LineKind.{LineKind}
use Rattle.pct_model.specs.declared.line_kind.LineKind.TheVariants as line_kind
use Rattle.pct_model.specs.declared.keyword.Keyword.{Keyword}
use Rattle.pct_model.specs.declared.keyword.Keyword.TheVariants as keyword
use Rattle.pct_model.specs.Keywords.{keyword_text}
use Rattle.pct_model.specs.Names.{names_of, name_at}
use Rattle.pct_model.specs.Points.{point_name}
use Rattle.pct_model.specs.LineKinds.{syntax_of}
use Rattle.pct_model.specs.StopTexts.{stop_words}

-- ---- fields

-- a fixed word
abbrev pub word : Keyword → List ℕ
word k = keyword_text k

-- the one word if the flag is set, else the other
abbrev pub either : Keyword → Keyword → Bool → List ℕ
either one other true = keyword_text one
either one other false = keyword_text other

-- the kind of the line that makes a call
abbrev pub line_kind_of_caller : Caller → LineKind
line_kind_of_caller caller.Create = line_kind.Create
line_kind_of_caller caller.KeyCreate = line_kind.KeyCreate
line_kind_of_caller caller.AtFork = line_kind.AtFork
line_kind_of_caller caller.Fork = line_kind.Fork
line_kind_of_caller caller.WaitPid = line_kind.WaitPid
line_kind_of_caller caller.AtExit = line_kind.AtExit
line_kind_of_caller caller.CondTimedWait = line_kind.CondTimedWait
line_kind_of_caller caller.SemTimedWait = line_kind.SemTimedWait

-- the name of a call
abbrev pub caller_name : Caller → List ℕ
caller_name call = (syntax_of (line_kind_of_caller call)).keyword

-- ---- names

-- the names that events refer to by their indexes
pub record EventNames : Type 0 where
  pub functions : List (List ℕ)
  pub mutexes : List (List ℕ)
  pub conds : List (List ℕ)
  pub sems : List (List ℕ)
  pub onces : List (List ℕ)

-- the names of a script
abbrev pub event_names : Script → EventNames
event_names script = record {
  functions = names_of script.funcs;
  mutexes = script.mutexes;
  conds = script.conds;
  sems = map (λ d. d.name) script.sems;
  onces = script.onces;
}

-- the name of a function of a script
abbrev pub func_name : Script → ℕ → List ℕ
func_name script f = name_at (names_of script.funcs) f

-- the name of a mutex of a script
abbrev pub mutex_name : Script → ℕ → List ℕ
mutex_name script m = name_at script.mutexes m

-- the name of a condition variable of a script
abbrev pub cond_name : Script → ℕ → List ℕ
cond_name script c = name_at script.conds c

-- the name of a semaphore of a script
abbrev pub sem_name : Script → ℕ → List ℕ
sem_name script s = name_at (map (λ d. d.name) script.sems) s

-- the name of a once control of a script
abbrev pub once_name : Script → ℕ → List ℕ
once_name script o = name_at script.onces o

-- ---- the table

-- the words of each event
unfoldable pub event_words : EventNames → What → List (List ℕ)
event_words names (what.Emit v) = word keyword.Emit ∷ decimal v ∷ []
event_words names (what.Created id detached) = word keyword.Create ∷ decimal id ∷ either keyword.Detached keyword.Joinable detached ∷ []
event_words names (what.Answer call n) = word keyword.Answer ∷ caller_name call ∷ decimal n ∷ []
event_words names (what.Pushed f a) = word keyword.Push ∷ name_at names.functions f ∷ decimal a ∷ []
event_words names (what.Popped f a run) = word keyword.Pop ∷ name_at names.functions f ∷ decimal a ∷ either keyword.Run keyword.Drop run ∷ []
event_words names (what.Request id) = word keyword.Request ∷ decimal id ∷ []
event_words names (what.Detached id) = word keyword.Detach ∷ decimal id ∷ []
event_words names (what.StateSet enable) = word keyword.State ∷ either keyword.Enable keyword.Disable enable ∷ []
event_words names (what.ModeSet asynchronous) = word keyword.Type ∷ either keyword.Asynchronous keyword.Deferred asynchronous ∷ []
event_words names (what.Called point) = word keyword.Call ∷ point_name point ∷ []
event_words names (what.Done point) = word keyword.Done ∷ point_name point ∷ []
event_words names (what.Joined id v) = word keyword.Joined ∷ decimal id ∷ decimal v ∷ []
event_words names (what.EndingExit v) = word keyword.Ending ∷ word keyword.Exit ∷ decimal v ∷ []
event_words names what.EndingCanceled = word keyword.Ending ∷ word keyword.Canceled ∷ []
event_words names (what.EndingInWait c m) = word keyword.Ending ∷ word keyword.Canceled ∷ name_at names.conds c ∷ name_at names.mutexes m ∷ []
event_words names (what.HandlerRun f a) = word keyword.Handler ∷ name_at names.functions f ∷ decimal a ∷ []
event_words names (what.PassBegun n) = word keyword.Pass ∷ decimal n ∷ []
event_words names (what.DtorRun pass key f v) = word keyword.Dtor ∷ decimal pass ∷ decimal key ∷ name_at names.functions f ∷ decimal v ∷ []
event_words names (what.Leftover n) = word keyword.Leftover ∷ decimal n ∷ []
event_words names (what.EndedWith v) = word keyword.Ended ∷ decimal v ∷ []
event_words names (what.KeyMade k) = word keyword.Key ∷ decimal k ∷ []
event_words names (what.KeyGone k) = word keyword.KeyDelete ∷ decimal k ∷ []
event_words names (what.Acquired m) = word keyword.Acquire ∷ name_at names.mutexes m ∷ []
event_words names (what.Released m) = word keyword.Release ∷ name_at names.mutexes m ∷ []
event_words names (what.Signalled c id) = word keyword.Signal ∷ name_at names.conds c ∷ decimal id ∷ []
event_words names (what.BroadcastTo c n) = word keyword.Broadcast ∷ name_at names.conds c ∷ decimal n ∷ []
event_words names (what.WaitCanceled c) = word keyword.CancelWait ∷ name_at names.conds c ∷ []
event_words names (what.WaitExpired c) = word keyword.Expire ∷ name_at names.conds c ∷ []
event_words names (what.HandedOn c id) = word keyword.HandOn ∷ name_at names.conds c ∷ decimal id ∷ []
event_words names (what.Taken s) = word keyword.Take ∷ name_at names.sems s ∷ []
event_words names (what.Posted s) = word keyword.Post ∷ name_at names.sems s ∷ []
event_words names (what.OnceCalled o) = word keyword.Once ∷ name_at names.onces o ∷ word keyword.Call ∷ []
event_words names (what.OnceDone o) = word keyword.Once ∷ name_at names.onces o ∷ word keyword.Done ∷ []
event_words names (what.Forked pid) = word keyword.Fork ∷ decimal pid ∷ []
event_words names (what.PrepareRun f) = word keyword.Prepare ∷ name_at names.functions f ∷ []
event_words names (what.ParentRun f) = word keyword.Parent ∷ name_at names.functions f ∷ []
event_words names (what.ChildRun f) = word keyword.Child ∷ name_at names.functions f ∷ []
event_words names (what.ExitBegun v) = word keyword.Exit ∷ decimal v ∷ []
event_words names (what.ExitRun f) = word keyword.AtExit ∷ name_at names.functions f ∷ []
event_words names (what.ProcessEnded n) = word keyword.ProcessEnd ∷ decimal n ∷ []
event_words names (what.Reaped pid n) = word keyword.Reap ∷ decimal pid ∷ decimal n ∷ []
event_words names (what.Stopped why) = stop_words why
