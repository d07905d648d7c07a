-- The words of an event as values, by the kinds of its form, as the code has them. No public clause cites this file.
use Rattle.std.specs.Prelude.{ℕ, ◌==◌, Bool, true, false, not, List, [], ◌∷◌, Some, None, bytes_eq, if◌then◌else◌, length, option_map, slice_get}
use Rattle.std.specs.Option.{unwrap_or}
use Rattle.pct_model.specs.declared.event.Caller.{Caller}
use Rattle.pct_model.specs.declared.event.Caller.TheVariants as caller
use Rattle.pct_model.specs.declared.event.What.{What}
use Rattle.pct_model.specs.declared.event.What.TheVariants as what
use Rattle.pct_model.specs.declared.keyword.Keyword.{Keyword}
use Rattle.pct_model.specs.declared.keyword.Keyword.TheVariants as keyword
use Rattle.pct_model.specs.declared.line_kind.SymbolKind.{SymbolKind}
use Rattle.pct_model.specs.declared.line_kind.SymbolKind.TheVariants.{Cond, Function, Global, Mutex, Once, Sem}
use Rattle.pct_model.specs.declared.stop.Why.{Why}
use Rattle.pct_model.specs.declared.stop.Why.TheVariants as why
use Rattle.pct_model.specs.EventTexts.{EventNames}
use Rattle.pct_model.specs.Keywords.{keyword_text}
use Rattle.pct_model.specs.Lines.{◌>>=◌}
use Rattle.pct_name_numbers.specs.EventReading.{Field, Reading, caller_of, cond_variable, flag, function, mutex, not_zero, number, once_control, plain, point_index, semaphore, stop_of}
use Rattle.pct_report_reader.specs.declared.text.WordKind.{WordKind}
use Rattle.pct_report_reader.specs.declared.text.WordKind.TheVariants as kind
use Rattle.pct_event_reader.specs.declared.value.Value.{Value}
use Rattle.pct_event_reader.specs.declared.value.Value.TheVariants as value

-- ---- words

-- what is made of what is read
abbrev pub read_map : {A B : Type 0} → (A → B) → Reading A → Reading B
read_map make read = option_map (λ r. (r.0, make r.1)) read

-- a name of a kind; a variable has no number
abbrev pub field_of : SymbolKind → Field ℕ
field_of Function n w = function n w
field_of Mutex n w = mutex n w
field_of Cond n w = cond_variable n w
field_of Sem n w = semaphore n w
field_of Once n w = once_control n w
field_of Global n w = Some (n, 0)

-- the value of a word of a kind
unfoldable pub value_of : WordKind → Field Value
value_of kind.Number n w = read_map (λ v. value.Number v) (number n w)
value_of kind.Positive n w = read_map (λ v. value.Number v) (plain not_zero n w)
value_of (kind.Name k) n w = read_map (λ v. value.Number v) (field_of k n w)
value_of kind.Point n w = read_map (λ v. value.Number v) (plain point_index n w)
value_of kind.Call n w = read_map (λ v. value.Call v) (plain caller_of n w)
value_of (kind.Word one) n w = if bytes_eq (keyword_text one) w then Some (n, value.Word) else None
value_of (kind.Either one other) n w = read_map (λ v. value.Flag v) (plain (flag one other) n w)
value_of (kind.Stop class) n w = read_map (λ v. value.Stop v) (plain (stop_of (keyword_text class)) n w)

-- the values of words of these kinds, one word for each kind
unfoldable pub values_of : List WordKind → EventNames → List (List ℕ) → Reading (List Value)
values_of [] n [] = Some (n, [])
values_of [] n (w ∷ words) = None
values_of (k ∷ kinds) n [] = None
values_of (k ∷ kinds) n (w ∷ words) = value_of k n w >>= λ r. read_map (λ values. r.1 ∷ values) (values_of kinds r.0 words)

-- ---- values

-- the value with an index
abbrev pub value_at : List Value → ℕ → Value
value_at values index = unwrap_or (slice_get values index) value.Word

-- the number of a value
unfoldable pub number_in : Value → ℕ
number_in (value.Number v) = v
number_in _ = 0

-- the flag of a value
unfoldable pub flag_in : Value → Bool
flag_in (value.Flag t) = t
flag_in _ = false

-- the call of a value
unfoldable pub caller_in : Value → Caller
caller_in (value.Call call) = call
caller_in _ = caller.Create

-- the stop of a value
unfoldable pub stop_in : Value → Why
stop_in (value.Stop stop) = stop
stop_in _ = why.ThreadId

-- ---- events

-- the numbers of values
abbrev pub number_at : List Value → ℕ → ℕ
number_at values index = number_in (value_at values index)

-- the flags of values
abbrev pub flag_at : List Value → ℕ → Bool
flag_at values index = flag_in (value_at values index)

-- the beginning of a thread's end: one word, two words, or three
unfoldable pub ending_with : List Value → What
ending_with values =
    if length values == 1 then what.EndingCanceled
    else if length values == 2 then what.EndingExit (number_at values 1)
    else what.EndingInWait (number_at values 1) (number_at values 2)

-- the routine of a once control is called, or returned
abbrev pub once_with : ℕ → Bool → What
once_with control true = what.OnceCalled control
once_with control false = what.OnceDone control

-- the event with a first word and the values of the words after it
unfoldable pub what_with : Keyword → List Value → What
what_with keyword.Emit values = what.Emit (number_at values 0)
what_with keyword.Create values = what.Created (number_at values 0) (not (flag_at values 1))
what_with keyword.Answer values = what.Answer (caller_in (value_at values 0)) (number_at values 1)
what_with keyword.Push values = what.Pushed (number_at values 0) (number_at values 1)
what_with keyword.Pop values = what.Popped (number_at values 0) (number_at values 1) (flag_at values 2)
what_with keyword.Request values = what.Request (number_at values 0)
what_with keyword.Detach values = what.Detached (number_at values 0)
what_with keyword.State values = what.StateSet (flag_at values 0)
what_with keyword.Type values = what.ModeSet (flag_at values 0)
what_with keyword.Call values = what.Called (number_at values 0)
what_with keyword.Done values = what.Done (number_at values 0)
what_with keyword.Joined values = what.Joined (number_at values 0) (number_at values 1)
what_with keyword.Ending values = ending_with values
what_with keyword.Handler values = what.HandlerRun (number_at values 0) (number_at values 1)
what_with keyword.Pass values = what.PassBegun (number_at values 0)
what_with keyword.Dtor values = what.DtorRun (number_at values 0) (number_at values 1) (number_at values 2) (number_at values 3)
what_with keyword.Leftover values = what.Leftover (number_at values 0)
what_with keyword.Ended values = what.EndedWith (number_at values 0)
what_with keyword.Key values = what.KeyMade (number_at values 0)
what_with keyword.KeyDelete values = what.KeyGone (number_at values 0)
what_with keyword.Acquire values = what.Acquired (number_at values 0)
what_with keyword.Release values = what.Released (number_at values 0)
what_with keyword.Signal values = what.Signalled (number_at values 0) (number_at values 1)
what_with keyword.Broadcast values = what.BroadcastTo (number_at values 0) (number_at values 1)
what_with keyword.CancelWait values = what.WaitCanceled (number_at values 0)
what_with keyword.Expire values = what.WaitExpired (number_at values 0)
what_with keyword.HandOn values = what.HandedOn (number_at values 0) (number_at values 1)
what_with keyword.Take values = what.Taken (number_at values 0)
what_with keyword.Post values = what.Posted (number_at values 0)
what_with keyword.Once values = once_with (number_at values 0) (flag_at values 1)
what_with keyword.Fork values = what.Forked (number_at values 0)
what_with keyword.Prepare values = what.PrepareRun (number_at values 0)
what_with keyword.Parent values = what.ParentRun (number_at values 0)
what_with keyword.Child values = what.ChildRun (number_at values 0)
what_with keyword.Exit values = what.ExitBegun (number_at values 0)
what_with keyword.AtExit values = what.ExitRun (number_at values 0)
what_with keyword.ProcessEnd values = what.ProcessEnded (number_at values 0)
what_with keyword.Reap values = what.Reaped (number_at values 0) (number_at values 1)
what_with _ values = what.Stopped (stop_in (value_at values 0))
