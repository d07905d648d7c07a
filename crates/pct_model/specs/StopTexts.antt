-- The words of each stop: its class, `undefined` or `profile`, and its name.
use Rattle.std.specs.Prelude.{ℕ, List, [], ◌∷◌}
use Rattle.pct_model.specs.declared.stop.Why.{Why}
use Rattle.pct_model.specs.declared.stop.Why.TheVariants as why
use Rattle.pct_model.specs.declared.keyword.Keyword.{Keyword}
use Rattle.pct_model.specs.declared.keyword.Keyword.TheVariants as keyword
use Rattle.pct_model.specs.Keywords.{keyword_text}

-- `undefined`: POSIX leaves the behavior undefined, or this host treats it alike by its choice (each DetachJoined and AsyncCall, an
-- ExitInEnding in what a cancellation request called, an EnableInHandler in a handler that a pop called, a ThreadId at pthread_cancel
-- and a KeyId at pthread_key_delete of a number that no thread or no key ever had). `profile`: this host leaves the behavior out or
-- limits it
abbrev pub class_of_stop : Why → Keyword
class_of_stop why.ForkChildCall = keyword.Profile
class_of_stop why.ForkInEnding = keyword.Profile
class_of_stop why.StackFull = keyword.Profile
class_of_stop why.CleanupFull = keyword.Profile
class_of_stop why.AsyncCall = keyword.Undefined
class_of_stop why.EnableInHandler = keyword.Undefined
class_of_stop why.ExitInEnding = keyword.Undefined
class_of_stop why.ThreadId = keyword.Undefined
class_of_stop why.JoinSelf = keyword.Undefined
class_of_stop why.NotJoinable = keyword.Undefined
class_of_stop why.JoinTwice = keyword.Undefined
class_of_stop why.DetachJoined = keyword.Undefined
class_of_stop why.KeyId = keyword.Undefined
class_of_stop why.NotOwner = keyword.Undefined
class_of_stop why.CondTwoMutexes = keyword.Undefined
class_of_stop why.ExitTwice = keyword.Undefined

-- the word for each stop
abbrev pub name_of_stop : Why → Keyword
name_of_stop why.ForkChildCall = keyword.ForkChildCall
name_of_stop why.AsyncCall = keyword.AsyncCall
name_of_stop why.EnableInHandler = keyword.EnableInHandler
name_of_stop why.ExitInEnding = keyword.ExitInEnding
name_of_stop why.ThreadId = keyword.ThreadId
name_of_stop why.JoinSelf = keyword.JoinSelf
name_of_stop why.NotJoinable = keyword.NotJoinable
name_of_stop why.JoinTwice = keyword.JoinTwice
name_of_stop why.DetachJoined = keyword.DetachJoined
name_of_stop why.KeyId = keyword.KeyId
name_of_stop why.NotOwner = keyword.NotOwner
name_of_stop why.CondTwoMutexes = keyword.CondTwoMutexes
name_of_stop why.ExitTwice = keyword.ExitTwice
name_of_stop why.ForkInEnding = keyword.ForkInEnding
name_of_stop why.StackFull = keyword.StackFull
name_of_stop why.CleanupFull = keyword.CleanupFull

-- the text of a stop
unfoldable pub stop_words : Why → List (List ℕ)
stop_words w = keyword_text (class_of_stop w) ∷ keyword_text (name_of_stop w) ∷ []
