-- Events whose functions, mutexes, condition variables, semaphores and once controls have other numbers, and what the laws say of them.
use Rattle.std.specs.Prelude.{◌≡◌, ℕ, Bool, List, map, nat_eq}
use Rattle.pct_model.specs.declared.event.Event.{Event}
use Rattle.pct_model.specs.declared.event.What.{What}
use Rattle.pct_model.specs.declared.event.What.TheVariants as what
use Rattle.pct_event_laws.specs.EventLaws.{EventLaws}
use Rattle.pct_laws.specs.AfterEnd as AfterEnd
use Rattle.pct_laws.specs.CondLaw as CondLaw
use Rattle.pct_laws.specs.Each.{each}
use Rattle.pct_laws.specs.Ends.{is_leftover}
use Rattle.pct_laws.specs.FollowedEvents.{are_followed}
use Rattle.pct_laws.specs.JoinLaw as JoinLaw
use Rattle.pct_laws.specs.KeysLaw as KeysLaw
use Rattle.pct_laws.specs.KnownThreads.{reports_end}
use Rattle.pct_laws.specs.Once as Once
use Rattle.pct_laws.specs.OnceLaw as OnceLaw
use Rattle.pct_laws.specs.ProcessLaw as ProcessLaw
use Rattle.pct_laws.specs.RanAll as RanAll
use Rattle.pct_laws.specs.RequestsLaw as RequestsLaw
use Rattle.pct_laws.specs.SlotLaw as SlotLaw

-- ---- renamed events

-- a number for each function, mutex, condition variable, semaphore and once control
pub record Naming : Type 0 where
  pub function : ℕ → ℕ
  pub mutex : ℕ → ℕ
  pub cond : ℕ → ℕ
  pub sem : ℕ → ℕ
  pub once : ℕ → ℕ

module _ (n : Naming) where
  -- what happened, with these numbers
  abbrev pub renamed : What → What
  renamed (what.Pushed f a) = what.Pushed (n.function f) a
  renamed (what.Popped f a run) = what.Popped (n.function f) a run
  renamed (what.HandlerRun f a) = what.HandlerRun (n.function f) a
  renamed (what.DtorRun pass key f v) = what.DtorRun pass key (n.function f) v
  renamed (what.EndingInWait c m) = what.EndingInWait (n.cond c) (n.mutex m)
  renamed (what.Acquired m) = what.Acquired (n.mutex m)
  renamed (what.Released m) = what.Released (n.mutex m)
  renamed (what.Signalled c id) = what.Signalled (n.cond c) id
  renamed (what.BroadcastTo c count) = what.BroadcastTo (n.cond c) count
  renamed (what.WaitCanceled c) = what.WaitCanceled (n.cond c)
  renamed (what.WaitExpired c) = what.WaitExpired (n.cond c)
  renamed (what.HandedOn c id) = what.HandedOn (n.cond c) id
  renamed (what.Taken s) = what.Taken (n.sem s)
  renamed (what.Posted s) = what.Posted (n.sem s)
  renamed (what.OnceCalled o) = what.OnceCalled (n.once o)
  renamed (what.OnceDone o) = what.OnceDone (n.once o)
  renamed (what.PrepareRun f) = what.PrepareRun (n.function f)
  renamed (what.ParentRun f) = what.ParentRun (n.function f)
  renamed (what.ChildRun f) = what.ChildRun (n.function f)
  renamed (what.ExitRun f) = what.ExitRun (n.function f)
  -- the other events name none of these
  renamed w = w

  -- an event, and some events, with these numbers
  abbrev pub renamed_event : Event → Event
  renamed_event e = record { pid = e.pid; tid = e.tid; what = renamed e.what }

  abbrev pub renamed_events : List Event → List Event
  renamed_events events = map renamed_event events

-- ---- numbers that tell apart

-- different numbers stay different
abbrev pub IsInjective : (ℕ → ℕ) → Type 0
IsInjective f = (a b : ℕ) → nat_eq (f a) (f b) ≡ nat_eq a b

-- different items of a kind get different numbers
pub record TellsApart (n : Naming) : Type 0 where
  pub functions : IsInjective n.function
  pub mutexes : IsInjective n.mutex
  pub conds : IsInjective n.cond
  pub sems : IsInjective n.sem
  pub onces : IsInjective n.once

-- ---- laws of renamed events

-- a law holds of renamed events exactly if it holds of the events as they were
abbrev pub IsKeptBy : Naming → (Event → List Event → Bool) → Type 0
IsKeptBy n allows = (events : List Event) → each allows (renamed_events n events) ≡ each allows events

-- so it is with each law of events
pub record ChangesNoLaw (passes slots : ℕ) (n : Naming) : Type 0 where
  pub once : IsKeptBy n (Once.allows passes)
  pub ran_all : IsKeptBy n RanAll.allows
  pub after_end : IsKeptBy n AfterEnd.allows
  pub leftovers : (events : List Event) → are_followed is_leftover reports_end (renamed_events n events) ≡ are_followed is_leftover reports_end events
  pub keys : IsKeptBy n KeysLaw.allows
  pub requests : IsKeptBy n RequestsLaw.allows
  pub joins : IsKeptBy n JoinLaw.allows
  pub conds : IsKeptBy n CondLaw.allows
  pub controls : IsKeptBy n OnceLaw.allows
  pub creations : IsKeptBy n (SlotLaw.allows slots)
  pub processes : IsKeptBy n ProcessLaw.allows

-- numbers that tell apart change no law of events
abbrev pub RenamingChangesNoLaw : Type 0
RenamingChangesNoLaw = (passes slots : ℕ) (n : Naming) → TellsApart n → ChangesNoLaw passes slots n

-- so events that keep the laws keep them with such numbers
abbrev pub RenamingKeepsLaws : Type 0
RenamingKeepsLaws = (passes slots : ℕ) (n : Naming) (events : List Event) → TellsApart n → EventLaws passes slots events → EventLaws passes slots (renamed_events n events)
