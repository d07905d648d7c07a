-- The output of `choices`: the line of the verdict, and for each thread that has not ended a line, with those of its legal entries below it.
use Rattle.std.specs.Prelude.{ℕ, Bool, if◌then◌else◌, List, [], ◌∷◌, ◌++◌, map, flat_map, Option, Some, None, codes, decimal}
use Rattle.pct_model.specs.declared.keyword.Keyword.TheVariants as keyword
use Rattle.pct_model.specs.declared.schedule.Config.{Config}
use Rattle.pct_model.specs.declared.script.Script.{Script}
use Rattle.pct_model.specs.declared.state.Mode.{Mode}
use Rattle.pct_model.specs.declared.state.Mode.TheVariants.{Deferred, Asynchronous}
use Rattle.pct_model.specs.declared.state.State.{State}
use Rattle.pct_model.specs.declared.state.State.TheVariants.{Enable, Disable}
use Rattle.pct_model.specs.declared.state.Status.{Status}
use Rattle.pct_model.specs.declared.state.Status.TheVariants as status
use Rattle.pct_model.specs.EventTexts.{cond_name, func_name, mutex_name, once_name, sem_name}
use Rattle.pct_model.specs.Keywords.{keyword_text, line_text, text_of}
use Rattle.pct_model.specs.Report.{entry_line, thread_text, verdict_line}
use Rattle.pct_model.specs.Run.{verdict_of}
use Rattle.pct_model.specs.World.{Thread, World}
use Rattle.pct_view_laws.specs.declared.wait.Wait.{Wait}
use Rattle.pct_view_laws.specs.declared.wait.Wait.TheVariants as wait
use Rattle.pct_view_laws.specs.Listed.{ListedThread, listed_threads, entries_of}
use Rattle.pct_view_laws.specs.TracedSteps.{position_of}
use Rattle.pct_view_texts.specs.Fields.{Phrase, fields_text, word_field}
use Rattle.pct_view_texts.specs.Positions.{is_timed_at, position_phrases, statement_phrases, status_phrases}

-- ---- statuses and waits

-- `waits for` these words
abbrev pub waits_for : List (List ℕ) → Phrase
waits_for words = codes "waits" ∷ codes "for" ∷ words

-- what a thread of a process with this id waits for; of a mutex also who holds it, and of a once control who called its init routine
unfoldable pub wait_phrases : Script → ℕ → Wait → List Phrase
wait_phrases script pid (wait.Mutex m owner) = waits_for (codes "mutex" ∷ mutex_name script m ∷ []) ∷ (codes "held" ∷ codes "by" ∷ thread_text pid owner ∷ []) ∷ []
wait_phrases script pid (wait.Once o caller) = waits_for (codes "once" ∷ codes "control" ∷ once_name script o ∷ []) ∷ (codes "called" ∷ codes "by" ∷ thread_text pid caller ∷ []) ∷ []
wait_phrases script pid (wait.Thread id) = waits_for (codes "thread" ∷ thread_text pid id ∷ []) ∷ []
wait_phrases script pid (wait.Process child) = waits_for (codes "process" ∷ decimal child ∷ []) ∷ []
wait_phrases script pid (wait.Semaphore s) = waits_for (codes "semaphore" ∷ sem_name script s ∷ []) ∷ []
wait_phrases script pid (wait.Condition c) = waits_for (codes "condition" ∷ codes "variable" ∷ cond_name script c ∷ []) ∷ []
wait_phrases script pid wait.Signal = waits_for (codes "a" ∷ codes "signal" ∷ []) ∷ []

-- the status of a thread that waits: that of a running thread is not named; the flag: its next statement is a wait with a time
abbrev pub status_of_waiting : Script → Bool → Status → List Phrase
status_of_waiting script timed status.Running = []
status_of_waiting script timed s = status_phrases script timed s

-- the status of a thread of a process with this id, and what it waits for, if it waits; the flag: its next statement is a wait with a time
unfoldable pub status_and_wait : Script → ℕ → Bool → Status → Option Wait → List Phrase
status_and_wait script pid timed s None = status_phrases script timed s
status_and_wait script pid timed s (Some wait) = status_of_waiting script timed s ++ wait_phrases script pid wait

-- ---- cancelability and handlers

-- the word of a cancelability state (XSH pthread_setcancelstate)
abbrev pub state_word : State → List ℕ
state_word Enable = keyword_text keyword.Enable
state_word Disable = keyword_text keyword.Disable

-- the word of a cancelability type (XSH pthread_setcancelstate)
abbrev pub mode_word : Mode → List ℕ
mode_word Deferred = keyword_text keyword.Deferred
mode_word Asynchronous = keyword_text keyword.Asynchronous

-- a cancelability state and type, and whether a request is pending (XSH 2.9.5.1)
abbrev pub cancelability : State → Mode → Bool → List Phrase
cancelability state mode pending =
    (state_word state ∷ mode_word mode ∷ [])
    ∷ (if pending then codes "request" ∷ codes "pending" ∷ [] else codes "no" ∷ codes "request" ∷ [])
    ∷ []

-- those of a thread
abbrev pub cancelability_phrases : Thread → List Phrase
cancelability_phrases t = cancelability t.state t.mode t.pending

-- a cleanup handler: a function and its argument
abbrev pub handler_phrase : Script → ℕ × ℕ → Phrase
handler_phrase script handler = func_name script handler.0 ∷ decimal handler.1 ∷ []

-- the cleanup handlers of a thread, newest first
abbrev pub handler_phrases : Script → Thread → List Phrase
handler_phrases script t = map (handler_phrase script) t.handlers

-- ---- the text; `lines` has the numbers of the lines of the script's statements

module _ (lines : List (List ℕ)) (script : Script) where
  -- the fields of a thread: `PID.TID`, its position, the statement there, its status and what it waits for, its cancelability, and its handlers
  unfoldable pub thread_fields : ListedThread → List (List Phrase)
  thread_fields l =
      word_field (thread_text l.pid l.thread.id)
      ∷ position_phrases lines script (position_of l.thread)
      ∷ statement_phrases script (position_of l.thread)
      ∷ status_and_wait script l.pid (is_timed_at script (position_of l.thread)) l.thread.status l.wait
      ∷ cancelability_phrases l.thread
      ∷ handler_phrases script l.thread
      ∷ []

  -- the line of a thread in a state, and below it those of its legal entries, as in a schedule
  abbrev pub thread_lines : World → ListedThread → List ℕ
  thread_lines w l = fields_text (thread_fields l) ++ text_of (map entry_line (entries_of w l))

  -- the output in the state after a run of n entries
  unfoldable pub choices_text : Config → World → ℕ → List ℕ
  choices_text config w n = line_text (verdict_line (verdict_of script config w n)) ++ flat_map (thread_lines w) (listed_threads script config w)
