-- The numbers in events, other than the indexes of items: each has 32 bits.
use Rattle.std.specs.Prelude.{◌≡◌, ℕ, ◌≤◌, List, Some, All}
use Rattle.pct_model.specs.declared.event.Event.{Event}
use Rattle.pct_model.specs.declared.event.What.{What}
use Rattle.pct_model.specs.declared.event.What.TheVariants as what
use Rattle.pct_model.specs.declared.schedule.Config.{Config}
use Rattle.pct_model.specs.declared.schedule.Entry.{Entry}
use Rattle.pct_model.specs.declared.script.Script.{Script}
use Rattle.pct_model.specs.Run.{Run, run}

-- a number of 32 bits
abbrev pub Fits : ℕ → Type 0
Fits n = n ≤ 4294967295

-- each number in the event is one, but for the indexes of what it names
abbrev pub NumbersFit : What → Type 0
NumbersFit (what.Emit v) = Fits v
NumbersFit (what.Created id detached) = Fits id
NumbersFit (what.Answer call n) = Fits n
NumbersFit (what.Pushed f a) = Fits a
NumbersFit (what.Popped f a run) = Fits a
NumbersFit (what.Request id) = Fits id
NumbersFit (what.Detached id) = Fits id
NumbersFit (what.Joined id v) = Fits id × Fits v
NumbersFit (what.EndingExit v) = Fits v
NumbersFit (what.HandlerRun f a) = Fits a
NumbersFit (what.PassBegun n) = Fits n
NumbersFit (what.DtorRun pass key f v) = Fits pass × Fits key × Fits v
NumbersFit (what.Leftover n) = Fits n
NumbersFit (what.EndedWith v) = Fits v
NumbersFit (what.KeyMade k) = Fits k
NumbersFit (what.KeyGone k) = Fits k
NumbersFit (what.Signalled c id) = Fits id
NumbersFit (what.BroadcastTo c count) = Fits count
NumbersFit (what.HandedOn c id) = Fits id
NumbersFit (what.Forked pid) = Fits pid
NumbersFit (what.ExitBegun v) = Fits v
NumbersFit (what.ProcessEnded n) = Fits n
NumbersFit (what.Reaped pid n) = Fits pid × Fits n
-- the other events have no other number
NumbersFit _ = Unit {0}

-- such an event of a thread, whose id and whose process id are such numbers
pub record EventNumbersFit (e : Event) : Type 0 where
  pub pid : Fits e.pid
  pub tid : Fits e.tid
  pub what : NumbersFit e.what

-- the events of every run are such: the budget of a run limits its ids
abbrev pub NumbersOfRunsFit : Type 0
NumbersOfRunsFit = (script : Script) (config : Config) (entries : List Entry) (r : Run) → run script config entries ≡ Some r → All EventNumbersFit r.events
