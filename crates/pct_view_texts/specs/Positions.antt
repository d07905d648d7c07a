-- Where a thread is: the statement that it executes next, with the line of the script's text that spells it, and the status of the thread in
-- words. Names and calls are written as in the script, and phases of a fork as in the events.
use Rattle.std.specs.Prelude.{ℕ, Bool, true, false, List, [], ◌∷◌, ◌++◌, Option, Some, None, codes, decimal, slice_get, unwrap_or}
use Rattle.std.specs.Option.{option_map_or}
use Rattle.pct_model.specs.declared.keyword.Keyword.TheVariants as keyword
use Rattle.pct_model.specs.declared.line_kind.LineKind.{LineKind}
use Rattle.pct_model.specs.declared.line_kind.LineKind.TheVariants as line_kind
use Rattle.pct_model.specs.declared.script.Script.{Script}
use Rattle.pct_model.specs.declared.state.Cause.{Cause}
use Rattle.pct_model.specs.declared.state.Cause.TheVariants as cause
use Rattle.pct_model.specs.declared.state.Phase.{Phase}
use Rattle.pct_model.specs.declared.state.Phase.TheVariants as phase
use Rattle.pct_model.specs.declared.state.Status.{Status}
use Rattle.pct_model.specs.declared.state.Status.TheVariants as status
use Rattle.pct_model.specs.declared.statement.Stmt.{Stmt}
use Rattle.pct_model.specs.Canon.{statement_words}
use Rattle.pct_model.specs.EventTexts.{cond_name, func_name, mutex_name, sem_name}
use Rattle.pct_model.specs.Formats.{is_timed}
use Rattle.pct_model.specs.Keywords.{keyword_text}
use Rattle.pct_model.specs.LineKinds.{syntax_of}
use Rattle.pct_model.specs.Spells.{contents_of}
use Rattle.pct_script_lines.specs.StatementLines.{line_at}
use Rattle.pct_view_laws.specs.declared.position.Position.{Position}
use Rattle.pct_view_laws.specs.TracedSteps.{statement_on}
use Rattle.pct_view_texts.specs.Fields.{Phrase}

-- ---- positions and statements; `lines` has the numbers of the lines of the script's statements

-- the number of the line of the statement at a position. It is 0 if there is no such statement; each body closes with `end`
abbrev pub line_on : List (List ℕ) → Position → ℕ
line_on lines position = unwrap_or (line_at lines position.func position.pc) 0

-- `FUNC:LINE`, the name of a function and the number of a line
abbrev pub position_text : List (List ℕ) → Script → Position → List ℕ
position_text lines script position = func_name script position.func ++ 58 ∷ decimal (line_on lines position)

-- the position of a thread, if it has frames
abbrev pub position_phrases : List (List ℕ) → Script → Option Position → List Phrase
position_phrases lines script None = []
position_phrases lines script (Some position) = (position_text lines script position ∷ []) ∷ []

-- the names of the locals of the function at an index
abbrev pub locals_of : Script → ℕ → List (List ℕ)
locals_of script func = option_map_or (λ f. f.locals) (slice_get script.funcs func) []

-- a statement of a function, if there is one, as the canonical text has it
abbrev pub phrases_of_statement : Script → ℕ → Option Stmt → List Phrase
phrases_of_statement script func None = []
phrases_of_statement script func (Some s) = statement_words (contents_of script) (locals_of script func) s ∷ []

-- the statement at the position of a thread, if it has frames
abbrev pub statement_phrases : Script → Option Position → List Phrase
statement_phrases script None = []
statement_phrases script (Some position) = phrases_of_statement script position.func (statement_on script position)

-- the statement at the position of a thread is a wait with a time: pthread_cond_timedwait or sem_timedwait
abbrev pub is_timed_at : Script → Option Position → Bool
is_timed_at script None = false
is_timed_at script (Some position) = option_map_or is_timed (statement_on script position) false

-- ---- statuses

-- the call of a line's kind, in which a thread is, and what it was called with
abbrev pub in_call : LineKind → List (List ℕ) → Phrase
in_call kind arguments = codes "in" ∷ (syntax_of kind).keyword ∷ arguments

-- the phase of a fork: which fork handlers the thread calls (XSH pthread_atfork)
abbrev pub phase_words : Phase → Phrase
phase_words phase.Prepare = keyword_text keyword.Prepare ∷ []
phase_words phase.Parent = keyword_text keyword.Parent ∷ []
phase_words phase.Child = keyword_text keyword.Child ∷ []

-- the kind of a wait for a semaphore: sem_wait or, with the flag, sem_timedwait
abbrev pub sem_wait_kind : Bool → LineKind
sem_wait_kind false = line_kind.SemWait
sem_wait_kind true = line_kind.SemTimedWait

-- the kind of a wait on a condition variable: pthread_cond_wait or, with the flag, pthread_cond_timedwait
abbrev pub cond_wait_kind : Bool → LineKind
cond_wait_kind false = line_kind.CondWait
cond_wait_kind true = line_kind.CondTimedWait

-- why a thread does not wait on a condition variable any more (XSH pthread_cond_wait, pthread_cond_timedwait)
abbrev pub cause_words : Cause → Phrase
cause_words cause.Signalled = codes "unblocked" ∷ codes "by" ∷ codes "a" ∷ codes "signal" ∷ []
cause_words cause.Broadcast = codes "unblocked" ∷ codes "by" ∷ codes "a" ∷ codes "broadcast" ∷ []
cause_words cause.Canceled = codes "acts" ∷ codes "on" ∷ codes "a" ∷ codes "request" ∷ []
cause_words cause.TimedOut = codes "unblocked" ∷ codes "as" ∷ codes "its" ∷ codes "time" ∷ codes "expired" ∷ []

-- the status of a thread; the flag: its next statement is a wait with a time
unfoldable pub status_phrases : Script → Bool → Status → List Phrase
status_phrases script timed status.Running = (codes "running" ∷ []) ∷ []
status_phrases script timed (status.AtPoint index) = in_call (line_kind.Point index) [] ∷ []
status_phrases script timed (status.Joining id) = in_call line_kind.Join (decimal id ∷ []) ∷ []
status_phrases script timed (status.InSem s) = in_call (sem_wait_kind timed) (sem_name script s ∷ []) ∷ []
status_phrases script timed (status.InWaitPid pid) = in_call line_kind.WaitPid (decimal pid ∷ []) ∷ []
status_phrases script timed (status.Waiting c m) = in_call (cond_wait_kind timed) (cond_name script c ∷ mutex_name script m ∷ []) ∷ []
status_phrases script timed (status.Reacquire c m why) = in_call (cond_wait_kind timed) (cond_name script c ∷ mutex_name script m ∷ []) ∷ cause_words why ∷ []
status_phrases script timed status.Ending = (keyword_text keyword.Ending ∷ []) ∷ []
status_phrases script timed (status.Forking at) = in_call line_kind.Fork [] ∷ phase_words at.phase ∷ []
status_phrases script timed status.Exiting = (codes "exiting" ∷ []) ∷ []
status_phrases script timed (status.Ended v) = (keyword_text keyword.Ended ∷ decimal v ∷ []) ∷ []
