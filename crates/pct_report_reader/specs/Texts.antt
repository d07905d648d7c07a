-- The texts of events and of verdicts: a first word, and what each word after it may be. They are the texts that a report has of
-- the events and verdicts of any script; a name need not be one of a script.
use Rattle.std.specs.Prelude.{ℕ, Bool, true, false, ◌&&◌, ◌||◌, List, [], ◌∷◌, Option, Some, None, bytes_eq, is_some, nat_lt}
use Rattle.std.specs.List.{list_any}
use Rattle.pct_model.specs.declared.event.Caller.{Caller}
use Rattle.pct_model.specs.declared.event.Caller.TheVariants as caller
use Rattle.pct_model.specs.declared.keyword.Keyword.{Keyword}
use Rattle.pct_model.specs.declared.keyword.Keyword.TheVariants as keyword
use Rattle.pct_model.specs.declared.line_kind.SymbolKind.TheVariants.{Cond, Function, Mutex, Once, Sem}
use Rattle.pct_model.specs.declared.stop.Why.{Why}
use Rattle.pct_model.specs.declared.stop.Why.TheVariants as why
use Rattle.pct_model.specs.EventTexts.{caller_name}
use Rattle.pct_model.specs.Keywords.{keyword_text}
use Rattle.pct_model.specs.Lines.{number_of}
use Rattle.pct_model.specs.Names.{is_name}
use Rattle.pct_model.specs.Points.{point_of}
use Rattle.pct_model.specs.StopTexts.{class_of_stop, name_of_stop}
use Rattle.pct_report_reader.specs.declared.text.WordKind.{WordKind}
use Rattle.pct_report_reader.specs.declared.text.WordKind.TheVariants.{Number, Positive, Name, Point, Call, Word, Either, Stop}

-- ---- words

-- a number that is present and not 0
abbrev pub is_positive : Option ℕ → Bool
is_positive None = false
is_positive (Some n) = nat_lt 0 n

-- the calls whose failure is an event
abbrev pub callers : List Caller
callers =
    caller.Create ∷ caller.KeyCreate ∷ caller.AtFork ∷ caller.Fork ∷ caller.WaitPid ∷ caller.AtExit ∷ caller.CondTimedWait
    ∷ caller.SemTimedWait ∷ []

-- the name of one of these calls
unfoldable pub is_caller : List ℕ → Bool
is_caller word = list_any (λ call. bytes_eq (caller_name call) word) callers

-- the stops of a run
abbrev pub stops : List Why
stops =
    why.ForkChildCall ∷ why.AsyncCall ∷ why.EnableInHandler ∷ why.ExitInEnding ∷ why.ThreadId ∷ why.JoinSelf ∷ why.NotJoinable ∷ why.JoinTwice
    ∷ why.DetachJoined ∷ why.KeyId ∷ why.NotOwner ∷ why.CondTwoMutexes ∷ why.ExitTwice ∷ why.ForkInEnding ∷ why.StackFull ∷ why.CleanupFull ∷ []

-- the stop has this class and this name
abbrev pub has_name : Keyword → List ℕ → Why → Bool
has_name class name stop = bytes_eq (keyword_text (class_of_stop stop)) (keyword_text class) && bytes_eq (keyword_text (name_of_stop stop)) name

-- the name of a stop of this class
unfoldable pub is_stop : Keyword → List ℕ → Bool
is_stop class word = list_any (has_name class word) stops

-- a word of this kind
unfoldable pub is_word : WordKind → List ℕ → Bool
is_word Number word = is_some (number_of word)
is_word Positive word = is_positive (number_of word)
is_word (Name kind) word = is_name word
is_word Point word = is_some (point_of word)
is_word Call word = is_caller word
is_word (Word one) word = bytes_eq (keyword_text one) word
is_word (Either one other) word = bytes_eq (keyword_text one) word || bytes_eq (keyword_text other) word
is_word (Stop class) word = is_stop class word

-- words of these kinds, one word for each kind
unfoldable pub are_words : List WordKind → List (List ℕ) → Bool
are_words [] [] = true
are_words [] (word ∷ words) = false
are_words (kind ∷ kinds) [] = false
are_words (kind ∷ kinds) (word ∷ words) = is_word kind word && are_words kinds words

-- ---- texts

-- the first word of a text, and the kinds of the words after it
pub record Form : Type 0 where
  pub first : Keyword
  pub kinds : List WordKind

-- words of this form
abbrev pub has_form : List (List ℕ) → Form → Bool
has_form [] form = false
has_form (word ∷ words) form = bytes_eq (keyword_text form.first) word && are_words form.kinds words

-- the form with a first word
abbrev pub form : Keyword → List WordKind → Form
form first kinds = record { first = first; kinds = kinds }

-- the forms of events
unfoldable pub event_forms : List Form
event_forms =
    form keyword.Emit (Number ∷ [])
    ∷ form keyword.Create (Positive ∷ Either keyword.Joinable keyword.Detached ∷ [])
    ∷ form keyword.Answer (Call ∷ Number ∷ [])
    ∷ form keyword.Push (Name Function ∷ Number ∷ [])
    ∷ form keyword.Pop (Name Function ∷ Number ∷ Either keyword.Run keyword.Drop ∷ [])
    ∷ form keyword.Request (Number ∷ [])
    ∷ form keyword.Detach (Number ∷ [])
    ∷ form keyword.State (Either keyword.Enable keyword.Disable ∷ [])
    ∷ form keyword.Type (Either keyword.Asynchronous keyword.Deferred ∷ [])
    ∷ form keyword.Call (Point ∷ [])
    ∷ form keyword.Done (Point ∷ [])
    ∷ form keyword.Joined (Number ∷ Number ∷ [])
    ∷ form keyword.Ending (Word keyword.Exit ∷ Number ∷ [])
    ∷ form keyword.Ending (Word keyword.Canceled ∷ [])
    ∷ form keyword.Ending (Word keyword.Canceled ∷ Name Cond ∷ Name Mutex ∷ [])
    ∷ form keyword.Handler (Name Function ∷ Number ∷ [])
    ∷ form keyword.Pass (Number ∷ [])
    ∷ form keyword.Dtor (Number ∷ Number ∷ Name Function ∷ Number ∷ [])
    ∷ form keyword.Leftover (Number ∷ [])
    ∷ form keyword.Ended (Number ∷ [])
    ∷ form keyword.Key (Number ∷ [])
    ∷ form keyword.KeyDelete (Number ∷ [])
    ∷ form keyword.Acquire (Name Mutex ∷ [])
    ∷ form keyword.Release (Name Mutex ∷ [])
    ∷ form keyword.Signal (Name Cond ∷ Number ∷ [])
    ∷ form keyword.Broadcast (Name Cond ∷ Number ∷ [])
    ∷ form keyword.CancelWait (Name Cond ∷ [])
    ∷ form keyword.Expire (Name Cond ∷ [])
    ∷ form keyword.HandOn (Name Cond ∷ Number ∷ [])
    ∷ form keyword.Take (Name Sem ∷ [])
    ∷ form keyword.Post (Name Sem ∷ [])
    ∷ form keyword.Once (Name Once ∷ Either keyword.Call keyword.Done ∷ [])
    ∷ form keyword.Fork (Positive ∷ [])
    ∷ form keyword.Prepare (Name Function ∷ [])
    ∷ form keyword.Parent (Name Function ∷ [])
    ∷ form keyword.Child (Name Function ∷ [])
    ∷ form keyword.Exit (Number ∷ [])
    ∷ form keyword.AtExit (Name Function ∷ [])
    ∷ form keyword.ProcessEnd (Number ∷ [])
    ∷ form keyword.Reap (Number ∷ Number ∷ [])
    ∷ form keyword.Undefined (Stop keyword.Undefined ∷ [])
    ∷ form keyword.Profile (Stop keyword.Profile ∷ [])
    ∷ []

-- the forms of verdicts
unfoldable pub verdict_forms : List Form
verdict_forms =
    form keyword.Complete []
    ∷ form keyword.Deadlock []
    ∷ form keyword.Budget []
    ∷ form keyword.Open []
    ∷ form keyword.Undefined (Stop keyword.Undefined ∷ [])
    ∷ form keyword.Profile (Stop keyword.Profile ∷ [])
    ∷ []
