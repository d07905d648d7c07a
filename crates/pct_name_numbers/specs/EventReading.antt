-- Reading the lines of events without a script. A name gets the number of different names of its kind that occur before its first
-- occurrence as a name of that kind.
use Rattle.std.specs.Prelude.{ℕ, Bool, true, false, ◌&&◌, if◌then◌else◌, List, [], ◌∷◌, Option, Some, None, bytes_eq, nat_eq, find, position, option_map}
use Rattle.pct_model.specs.declared.event.Caller.{Caller}
use Rattle.pct_model.specs.declared.event.Caller.TheVariants as caller
use Rattle.pct_model.specs.declared.event.Event.{Event}
use Rattle.pct_model.specs.declared.event.What.{What}
use Rattle.pct_model.specs.declared.event.What.TheVariants as what
use Rattle.pct_model.specs.declared.keyword.Keyword.{Keyword}
use Rattle.pct_model.specs.declared.keyword.Keyword.TheVariants as keyword
use Rattle.pct_model.specs.declared.stop.Why.{Why}
use Rattle.pct_model.specs.declared.stop.Why.TheVariants as why
use Rattle.pct_model.specs.EventTexts.{EventNames, caller_name}
use Rattle.pct_model.specs.Keywords.{keyword_text}
use Rattle.pct_model.specs.Lines.{◌>>=◌, number_of, split_once}
use Rattle.pct_model.specs.Names.{index_among, is_name}
use Rattle.pct_model.specs.Points.{points}
use Rattle.pct_model.specs.StopTexts.{class_of_stop, name_of_stop}
use Rattle.pct_name_numbers.specs.Numbering.{names_with}

-- ---- names

-- the names after one more name was read, and its number
abbrev pub numbered : List (List ℕ) → List ℕ → Option (List (List ℕ) × ℕ)
numbered names w =
    if is_name w then option_map (λ k. (names_with w names, k)) (index_among (names_with w names) w) else None

-- ---- fields: what a word says, by the names before it; and the names after it

abbrev pub Reading : Type 0 → Type 0
Reading A = Option (EventNames × A)

abbrev pub Field : Type 0 → Type 0
Field A = EventNames → List ℕ → Reading A

-- a field without names
abbrev pub plain : {A : Type 0} → (List ℕ → Option A) → Field A
plain read n w = option_map (λ x. (n, x)) (read w)

abbrev pub number : Field ℕ
number n w = plain number_of n w

-- a number that is not 0
abbrev pub not_zero : List ℕ → Option ℕ
not_zero w = number_of w >>= λ k. if nat_eq k 0 then None else Some k

abbrev pub function : Field ℕ
function n w = option_map (λ r. (record n { functions = r.0 }, r.1)) (numbered n.functions w)

abbrev pub mutex : Field ℕ
mutex n w = option_map (λ r. (record n { mutexes = r.0 }, r.1)) (numbered n.mutexes w)

abbrev pub cond_variable : Field ℕ
cond_variable n w = option_map (λ r. (record n { conds = r.0 }, r.1)) (numbered n.conds w)

abbrev pub semaphore : Field ℕ
semaphore n w = option_map (λ r. (record n { sems = r.0 }, r.1)) (numbered n.sems w)

abbrev pub once_control : Field ℕ
once_control n w = option_map (λ r. (record n { onces = r.0 }, r.1)) (numbered n.onces w)

-- one of two words
abbrev pub flag : Keyword → Keyword → List ℕ → Option Bool
flag first second w = if bytes_eq w (keyword_text first) then Some true else if bytes_eq w (keyword_text second) then Some false else None

-- the index of a cancellation point
unfoldable pub point_index : List ℕ → Option ℕ
point_index w = position (λ r. bytes_eq r.name w) points

abbrev pub callers : List Caller
callers = caller.Create ∷ caller.KeyCreate ∷ caller.AtFork ∷ caller.Fork ∷ caller.WaitPid ∷ caller.AtExit
    ∷ caller.CondTimedWait ∷ caller.SemTimedWait ∷ []

unfoldable pub caller_of : List ℕ → Option Caller
caller_of w = find (λ c. bytes_eq (caller_name c) w) callers

abbrev pub stops : List Why
stops = why.ForkChildCall ∷ why.AsyncCall ∷ why.EnableInHandler ∷ why.ExitInEnding ∷ why.ThreadId ∷ why.JoinSelf ∷ why.NotJoinable ∷ why.JoinTwice ∷ why.DetachJoined ∷ why.KeyId ∷ why.NotOwner ∷ why.CondTwoMutexes ∷ why.ExitTwice ∷ why.ForkInEnding ∷ why.StackFull ∷ why.CleanupFull ∷ []

-- the stop of a class with a name
unfoldable pub stop_of : List ℕ → List ℕ → Option Why
stop_of class name = find (λ w. bytes_eq (keyword_text (class_of_stop w)) class && bytes_eq (keyword_text (name_of_stop w)) name) stops

-- ---- as many fields as words

module _ {A : Type 0} where
  abbrev pub one : (A → What) → Field A → EventNames → List (List ℕ) → Reading What
  one make a n (w ∷ []) = option_map (λ r. (r.0, make r.1)) (a n w)
  one make a n _ = None

module _ {A B : Type 0} where
  abbrev pub two : (A → B → What) → Field A → Field B → EventNames → List (List ℕ) → Reading What
  two make a b n (v ∷ w ∷ []) = a n v >>= λ r. option_map (λ s. (s.0, make r.1 s.1)) (b r.0 w)
  two make a b n _ = None

module _ {A B C : Type 0} where
  abbrev pub three : (A → B → C → What) → Field A → Field B → Field C → EventNames → List (List ℕ) → Reading What
  three make a b c n (u ∷ v ∷ w ∷ []) = a n u >>= λ r. b r.0 v >>= λ s. option_map (λ t. (t.0, make r.1 s.1 t.1)) (c s.0 w)
  three make a b c n _ = None

module _ {A B C D : Type 0} where
  abbrev pub four : (A → B → C → D → What) → Field A → Field B → Field C → Field D → EventNames → List (List ℕ) → Reading What
  four make a b c d n (u ∷ v ∷ w ∷ x ∷ []) = a n u >>= λ r. b r.0 v >>= λ s. c s.0 w >>= λ t. option_map (λ y. (y.0, make r.1 s.1 t.1 y.1)) (d t.0 x)
  four make a b c d n _ = None

-- the forms of `ending`
abbrev pub ending : EventNames → List (List ℕ) → Reading What
ending n (kind ∷ []) = if bytes_eq kind (keyword_text keyword.Canceled) then Some (n, what.EndingCanceled) else None
ending n (kind ∷ v ∷ []) = if bytes_eq kind (keyword_text keyword.Exit) then one (λ v. what.EndingExit v) number n (v ∷ []) else None
ending n (kind ∷ c ∷ m ∷ []) = if bytes_eq kind (keyword_text keyword.Canceled) then two (λ c m. what.EndingInWait c m) cond_variable mutex n (c ∷ m ∷ []) else None
ending n _ = None

-- a stop of a class
abbrev pub stop_in : Keyword → EventNames → List (List ℕ) → Reading What
stop_in class n words = one (λ w. what.Stopped w) (plain (stop_of (keyword_text class))) n words

-- the routine of a once control returned, or was called
abbrev pub once_what : Bool → ℕ → What
once_what true o = what.OnceDone o
once_what false o = what.OnceCalled o

-- the forms of `once`
abbrev pub once_event : EventNames → List (List ℕ) → Reading What
once_event n (o ∷ kind ∷ []) =
    once_control n o >>= λ r. option_map (λ returned. (r.0, once_what returned r.1)) (flag keyword.Done keyword.Call kind)
once_event n _ = None

-- ---- the table

-- the first words of events
abbrev pub event_keywords : List Keyword
event_keywords =
    keyword.Emit ∷ keyword.Create ∷ keyword.Answer ∷ keyword.Push ∷ keyword.Pop ∷ keyword.Request ∷ keyword.Detach ∷ keyword.State ∷ keyword.Type ∷ keyword.Call ∷ keyword.Done
    ∷ keyword.Joined ∷ keyword.Ending ∷ keyword.Handler ∷ keyword.Pass ∷ keyword.Dtor ∷ keyword.Leftover ∷ keyword.Ended ∷ keyword.Key ∷ keyword.KeyDelete ∷ keyword.Acquire
    ∷ keyword.Release ∷ keyword.Signal ∷ keyword.Broadcast ∷ keyword.CancelWait ∷ keyword.Expire ∷ keyword.HandOn ∷ keyword.Take ∷ keyword.Post ∷ keyword.Once ∷ keyword.Fork ∷ keyword.Prepare ∷ keyword.Parent
    ∷ keyword.Child ∷ keyword.Exit ∷ keyword.AtExit ∷ keyword.ProcessEnd ∷ keyword.Reap ∷ keyword.Undefined ∷ keyword.Profile ∷ []

unfoldable pub event_keyword : List ℕ → Option Keyword
event_keyword w = find (λ k. bytes_eq (keyword_text k) w) event_keywords

-- the event with a first word, and the words after it
unfoldable pub fields_of : Keyword → EventNames → List (List ℕ) → Reading What
fields_of keyword.Emit n words = one (λ v. what.Emit v) number n words
fields_of keyword.Create n words = two (λ id detached. what.Created id detached) (plain not_zero) (plain (flag keyword.Detached keyword.Joinable)) n words
fields_of keyword.Answer n words = two (λ call v. what.Answer call v) (plain caller_of) number n words
fields_of keyword.Push n words = two (λ f a. what.Pushed f a) function number n words
fields_of keyword.Pop n words = three (λ f a run. what.Popped f a run) function number (plain (flag keyword.Run keyword.Drop)) n words
fields_of keyword.Request n words = one (λ id. what.Request id) number n words
fields_of keyword.Detach n words = one (λ id. what.Detached id) number n words
fields_of keyword.State n words = one (λ enable. what.StateSet enable) (plain (flag keyword.Enable keyword.Disable)) n words
fields_of keyword.Type n words = one (λ asynchronous. what.ModeSet asynchronous) (plain (flag keyword.Asynchronous keyword.Deferred)) n words
fields_of keyword.Call n words = one (λ point. what.Called point) (plain point_index) n words
fields_of keyword.Done n words = one (λ point. what.Done point) (plain point_index) n words
fields_of keyword.Joined n words = two (λ id v. what.Joined id v) number number n words
fields_of keyword.Ending n words = ending n words
fields_of keyword.Handler n words = two (λ f a. what.HandlerRun f a) function number n words
fields_of keyword.Pass n words = one (λ k. what.PassBegun k) number n words
fields_of keyword.Dtor n words = four (λ pass key f v. what.DtorRun pass key f v) number number function number n words
fields_of keyword.Leftover n words = one (λ k. what.Leftover k) number n words
fields_of keyword.Ended n words = one (λ v. what.EndedWith v) number n words
fields_of keyword.Key n words = one (λ k. what.KeyMade k) number n words
fields_of keyword.KeyDelete n words = one (λ k. what.KeyGone k) number n words
fields_of keyword.Acquire n words = one (λ m. what.Acquired m) mutex n words
fields_of keyword.Release n words = one (λ m. what.Released m) mutex n words
fields_of keyword.Signal n words = two (λ c id. what.Signalled c id) cond_variable number n words
fields_of keyword.Broadcast n words = two (λ c k. what.BroadcastTo c k) cond_variable number n words
fields_of keyword.CancelWait n words = one (λ c. what.WaitCanceled c) cond_variable n words
fields_of keyword.Expire n words = one (λ c. what.WaitExpired c) cond_variable n words
fields_of keyword.HandOn n words = two (λ c id. what.HandedOn c id) cond_variable number n words
fields_of keyword.Take n words = one (λ s. what.Taken s) semaphore n words
fields_of keyword.Post n words = one (λ s. what.Posted s) semaphore n words
fields_of keyword.Once n words = once_event n words
fields_of keyword.Fork n words = one (λ pid. what.Forked pid) (plain not_zero) n words
fields_of keyword.Prepare n words = one (λ f. what.PrepareRun f) function n words
fields_of keyword.Parent n words = one (λ f. what.ParentRun f) function n words
fields_of keyword.Child n words = one (λ f. what.ChildRun f) function n words
fields_of keyword.Exit n words = one (λ v. what.ExitBegun v) number n words
fields_of keyword.AtExit n words = one (λ f. what.ExitRun f) function n words
fields_of keyword.ProcessEnd n words = one (λ v. what.ProcessEnded v) number n words
fields_of keyword.Reap n words = two (λ pid v. what.Reaped pid v) number number n words
fields_of keyword.Undefined n words = stop_in keyword.Undefined n words
fields_of keyword.Profile n words = stop_in keyword.Profile n words
fields_of _ n words = None

-- the event with these words
unfoldable pub what_of : EventNames → List (List ℕ) → Reading What
what_of n [] = None
what_of n (w ∷ words) = event_keyword w >>= λ k. fields_of k n words

-- ---- lines

-- the process and the thread of a word
unfoldable pub thread_of : List ℕ → Option (ℕ × ℕ)
thread_of w = split_once 46 w >>= λ parts. not_zero parts.0 >>= λ pid. option_map (λ tid. (pid, tid)) (not_zero parts.1)

-- the event with these words
abbrev pub event_of : EventNames → List (List ℕ) → Reading Event
event_of n [] = None
event_of n (w ∷ words) = thread_of w >>= λ thread. option_map (λ r. (r.0, record { pid = thread.0; tid = thread.1; what = r.1 })) (what_of n words)

-- the events of lines, the oldest first
abbrev pub events_of : EventNames → List (List (List ℕ)) → Reading (List Event)
events_of n [] = Some (n, [])
events_of n (line ∷ lines) = event_of n line >>= λ r. option_map (λ more. (more.0, r.1 ∷ more.1)) (events_of r.0 lines)

-- no names
abbrev pub no_names : EventNames
no_names = record { functions = []; mutexes = []; conds = []; sems = []; onces = [] }
