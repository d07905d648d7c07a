-- What it is that the numbers in a state, and in a transition, have 32 bits; and a test of transitions that have literal numbers alone.
use Rattle.pct_names.proofs.Names.{[], All, AllByRecursion, and_parts, arith, Bool, Dest, false, false≢true}
use Rattle.pct_names.proofs.Names.{ForkAt, Frame, List, list_all, nat_le, None, Option, Reason}
use Rattle.pct_names.proofs.Names.{Some, Status, Thread, Transition, true, What, ℕ, ◌∷◌, ◌≡◌}
use Rattle.std.proofs.lemmas.Bool.{leb-true}
use Rattle.pct_model.specs.declared.event.What.TheVariants as what
use Rattle.pct_model.specs.declared.state.Reason.TheVariants as reason
use Rattle.pct_model.specs.declared.state.Status.TheVariants as status
use Rattle.pct_model.specs.declared.transition.NewThread.{NewThread}
use Rattle.pct_model.specs.declared.transition.OwnAction.{OwnAction}
use Rattle.pct_model.specs.declared.transition.OwnAction.TheVariants as own_action
use Rattle.pct_model.specs.declared.transition.ProcessAction.{ProcessAction}
use Rattle.pct_model.specs.declared.transition.ProcessAction.TheVariants as process_action
use Rattle.pct_model.specs.declared.transition.SharedAction.{SharedAction}
use Rattle.pct_model.specs.declared.transition.SharedAction.TheVariants as shared_action
use Rattle.pct_event_bounds.specs.EventNumbers.{Fits, NumbersFit}

-- ---- the numbers of a state

abbrev pub StatusFits : Status → Type 0
StatusFits (status.Ended v) = Fits v
StatusFits (status.Joining id) = Fits id
StatusFits (status.InWaitPid pid) = Fits pid
StatusFits (status.Forking at) = Fits at.answer
StatusFits _ = Unit {0}

abbrev pub ReasonFits : Reason → Type 0
ReasonFits (reason.Exit v) = Fits v
ReasonFits _ = Unit {0}

abbrev pub ForkFits : Option ForkAt → Type 0
ForkFits (Some at) = Fits at.answer
ForkFits None = Unit {0}

abbrev pub FramesFit : List Frame → Type 0
FramesFit frames = AllByRecursion (λ (frame : Frame). All Fits frame.locals) frames

abbrev pub HandlersFit : List (ℕ × ℕ) → Type 0
HandlersFit handlers = AllByRecursion (λ (handler : ℕ × ℕ). Fits handler.1) handlers

pub record ThreadFits (t : Thread) : Type 0 where
  pub status : StatusFits t.status
  pub frames : FramesFit t.frames
  pub handlers : HandlersFit t.handlers
  pub reason : ReasonFits t.reason
  pub values : All Fits t.specific.values
  pub kept : ForkFits t.kept

-- ---- the numbers of a transition

abbrev pub OwnFits : Option OwnAction → Type 0
OwnFits (Some (own_action.Call f a kind)) = Fits a
OwnFits (Some (own_action.CallHandler f a)) = Fits a
OwnFits (Some (own_action.RunHandler f a)) = Fits a
OwnFits (Some (own_action.RunDestructor k f v)) = Fits v
OwnFits (Some (own_action.CallForkHandler at f)) = Fits at.answer
OwnFits (Some (own_action.Leave s)) = StatusFits s
OwnFits (Some (own_action.SetStatus s)) = StatusFits s
OwnFits (Some (own_action.PushHandler f a)) = Fits a
OwnFits (Some (own_action.SetSpecific k v)) = Fits v
OwnFits (Some (own_action.BeginEnd why)) = ReasonFits why
OwnFits (Some (own_action.EndThread v)) = Fits v
OwnFits _ = Unit {0}

abbrev pub SharedFits : Option SharedAction → Type 0
SharedFits (Some (shared_action.BeginExit v)) = Fits v
SharedFits _ = Unit {0}

abbrev pub CreatedFits : Option NewThread → Type 0
CreatedFits (Some new) = Fits new.arg
CreatedFits None = Unit {0}

abbrev pub EndFits : Option ProcessAction → Type 0
EndFits (Some (process_action.End n)) = Fits n
EndFits _ = Unit {0}

abbrev pub WritesFit : List (Dest × ℕ) → Type 0
WritesFit writes = AllByRecursion (λ (write : Dest × ℕ). Fits write.1) writes

pub record TransitionFits (o : Transition) : Type 0 where
  pub events : AllByRecursion NumbersFit o.events
  pub writes : WritesFit o.writes
  pub own : OwnFits o.own
  pub shared : SharedFits o.shared
  pub created : CreatedFits o.created
  pub ended : EndFits o.process

-- ---- tests of literal numbers

pub zero_fits : Fits 0
zero_fits = omega arith

fits_is : (n : ℕ) → nat_le n 4294967295 ≡ true → Fits n
fits_is n is = leb-true n 4294967295 is

abbrev what_test : What → Bool
what_test (what.Answer call n) = nat_le n 4294967295
what_test (what.EndedWith n) = nat_le n 4294967295
what_test (what.ExitBegun n) = nat_le n 4294967295
what_test (what.Signalled c n) = nat_le n 4294967295
what_test (what.StateSet enable) = true
what_test (what.ModeSet asynchronous) = true
what_test (what.Called index) = true
what_test (what.Done index) = true
what_test what.EndingCanceled = true
what_test (what.EndingInWait c m) = true
what_test (what.Acquired m) = true
what_test (what.Released m) = true
what_test (what.WaitCanceled c) = true
what_test (what.WaitExpired c) = true
what_test (what.Taken s) = true
what_test (what.Posted s) = true
what_test (what.OnceCalled o) = true
what_test (what.OnceDone o) = true
what_test (what.PrepareRun f) = true
what_test (what.ParentRun f) = true
what_test (what.ChildRun f) = true
what_test (what.ExitRun f) = true
what_test (what.Stopped why) = true
what_test _ = false

what_by : (w : What) → what_test w ≡ true → NumbersFit w
what_by (what.Answer call n) is = fits_is n is
what_by (what.EndedWith n) is = fits_is n is
what_by (what.ExitBegun n) is = fits_is n is
what_by (what.Signalled c n) is = fits_is n is
what_by (what.StateSet enable) is = tt
what_by (what.ModeSet asynchronous) is = tt
what_by (what.Called index) is = tt
what_by (what.Done index) is = tt
what_by what.EndingCanceled is = tt
what_by (what.EndingInWait c m) is = tt
what_by (what.Acquired m) is = tt
what_by (what.Released m) is = tt
what_by (what.WaitCanceled c) is = tt
what_by (what.WaitExpired c) is = tt
what_by (what.Taken s) is = tt
what_by (what.Posted s) is = tt
what_by (what.OnceCalled o) is = tt
what_by (what.OnceDone o) is = tt
what_by (what.PrepareRun f) is = tt
what_by (what.ParentRun f) is = tt
what_by (what.ChildRun f) is = tt
what_by (what.ExitRun f) is = tt
what_by (what.Stopped why) is = tt
what_by _ is = absurd (false≢true is)

all_by : {A : Type 0} (P : A → Type 0) (test : A → Bool) → ((x : A) → test x ≡ true → P x) → (xs : List A) → list_all test xs ≡ true → AllByRecursion P xs
all_by P test holds [] all = tt
all_by P test holds (x ∷ xs) all = let parts = and_parts (test x) (list_all test xs) all in (holds x parts.0, all_by P test holds xs parts.1)

abbrev status_test : Status → Bool
status_test (status.Ended v) = nat_le v 4294967295
status_test (status.Joining id) = nat_le id 4294967295
status_test (status.InWaitPid pid) = nat_le pid 4294967295
status_test (status.Forking at) = nat_le at.answer 4294967295
status_test _ = true

status_by : (s : Status) → status_test s ≡ true → StatusFits s
status_by (status.Ended v) is = fits_is v is
status_by (status.Joining id) is = fits_is id is
status_by (status.InWaitPid pid) is = fits_is pid is
status_by (status.Forking at) is = fits_is at.answer is
status_by _ is = tt

abbrev reason_test : Reason → Bool
reason_test (reason.Exit v) = nat_le v 4294967295
reason_test _ = true

reason_by : (why : Reason) → reason_test why ≡ true → ReasonFits why
reason_by (reason.Exit v) is = fits_is v is
reason_by _ is = tt

abbrev own_test : Option OwnAction → Bool
own_test (Some (own_action.Call f a kind)) = nat_le a 4294967295
own_test (Some (own_action.CallHandler f a)) = false
own_test (Some (own_action.RunHandler f a)) = false
own_test (Some (own_action.RunDestructor k f v)) = false
own_test (Some (own_action.CallForkHandler at f)) = false
own_test (Some (own_action.Leave s)) = status_test s
own_test (Some (own_action.SetStatus s)) = status_test s
own_test (Some (own_action.PushHandler f a)) = false
own_test (Some (own_action.SetSpecific k v)) = false
own_test (Some (own_action.BeginEnd why)) = reason_test why
own_test (Some (own_action.EndThread v)) = nat_le v 4294967295
own_test _ = true

own_by : (a : Option OwnAction) → own_test a ≡ true → OwnFits a
own_by (Some (own_action.Call f a kind)) is = fits_is a is
own_by (Some (own_action.CallHandler f a)) is = absurd (false≢true is)
own_by (Some (own_action.RunHandler f a)) is = absurd (false≢true is)
own_by (Some (own_action.RunDestructor k f v)) is = absurd (false≢true is)
own_by (Some (own_action.CallForkHandler at f)) is = absurd (false≢true is)
own_by (Some (own_action.Leave s)) is = status_by s is
own_by (Some (own_action.SetStatus s)) is = status_by s is
own_by (Some (own_action.PushHandler f a)) is = absurd (false≢true is)
own_by (Some (own_action.SetSpecific k v)) is = absurd (false≢true is)
own_by (Some (own_action.BeginEnd why)) is = reason_by why is
own_by (Some (own_action.EndThread v)) is = fits_is v is
own_by _ is = tt

abbrev shared_test : Option SharedAction → Bool
shared_test (Some (shared_action.BeginExit v)) = nat_le v 4294967295
shared_test _ = true

shared_by : (a : Option SharedAction) → shared_test a ≡ true → SharedFits a
shared_by (Some (shared_action.BeginExit v)) is = fits_is v is
shared_by _ is = tt

abbrev created_test : Option NewThread → Bool
created_test (Some new) = false
created_test None = true

created_by : (a : Option NewThread) → created_test a ≡ true → CreatedFits a
created_by (Some new) is = absurd (false≢true is)
created_by None is = tt

abbrev end_test : Option ProcessAction → Bool
end_test (Some (process_action.End n)) = false
end_test _ = true

end_by : (a : Option ProcessAction) → end_test a ≡ true → EndFits a
end_by (Some (process_action.End n)) is = absurd (false≢true is)
end_by _ is = tt

abbrev write_test : Dest × ℕ → Bool
write_test write = nat_le write.1 4294967295

-- a transition all of whose numbers are literal ones
pub literal : (o : Transition) → list_all what_test o.events ≡ true → list_all write_test o.writes ≡ true → own_test o.own ≡ true → shared_test o.shared ≡ true → created_test o.created ≡ true → end_test o.process ≡ true
    → TransitionFits o
literal o events writes own shared created ended = record {
  events = all_by NumbersFit what_test what_by o.events events;
  writes = all_by (λ (write : Dest × ℕ). Fits write.1) write_test (λ write is. fits_is write.1 is) o.writes writes;
  own = own_by o.own own;
  shared = shared_by o.shared shared;
  created = created_by o.created created;
  ended = end_by o.process ended;
}
