-- The output of `states`: the line of the verdict, and for each process that has not ended a line, with one for each of its threads that has
-- not ended below it: the values of variables, mutexes, semaphores, keys and once controls, and what is registered.
use Rattle.std.specs.Prelude.{ℕ, Bool, true, false, if◌then◌else◌, List, [], ◌∷◌, ◌++◌, map, flat_map, zip, Option, Some, None, nat_eq, codes, decimal}
use Rattle.std.specs.List.{range_with_len}
use Rattle.std.specs.Option.{option_map_or}
use Rattle.pct_model.specs.declared.frame.Frame.{Frame}
use Rattle.pct_model.specs.declared.keyword.Keyword.TheVariants as keyword
use Rattle.pct_model.specs.declared.limits.TheConstants.{MAX_KEYS}
use Rattle.pct_model.specs.declared.process.ForkHandlers.{ForkHandlers}
use Rattle.pct_model.specs.declared.schedule.Config.{Config}
use Rattle.pct_model.specs.declared.script.Script.{Script}
use Rattle.pct_model.specs.declared.state.OnceState.{OnceState}
use Rattle.pct_model.specs.declared.state.OnceState.TheVariants.{Fresh, Busy, Done}
use Rattle.pct_model.specs.EventTexts.{either, func_name}
use Rattle.pct_model.specs.Keys.{Key, KeyPlace, KeyValues, key_at, number_at, value_at}
use Rattle.pct_model.specs.Keywords.{line_text}
use Rattle.pct_model.specs.Report.{thread_text, verdict_line}
use Rattle.pct_model.specs.Run.{verdict_of}
use Rattle.pct_model.specs.World.{Thread, SharedState, World}
use Rattle.pct_view_laws.specs.ListedProcesses.{ListedProcess, listed_processes}
use Rattle.pct_view_laws.specs.TracedSteps.{position_of}
use Rattle.pct_view_texts.specs.Fields.{Phrase, fields_text, word_field}
use Rattle.pct_view_texts.specs.Positions.{locals_of, position_phrases}

-- ---- variables, mutexes and semaphores

-- a name and its value
abbrev pub value_words : List ℕ × ℕ → Phrase
value_words v = v.0 ∷ decimal v.1 ∷ []

-- names, in the order of their declaration, each with its value
abbrev pub value_phrases : List (List ℕ) → List ℕ → List Phrase
value_phrases names values = map value_words (zip names values)

-- a mutex of a process with this id, by its name and the id of its owner, 0 if there is none (XSH pthread_mutex_lock)
abbrev pub mutex_phrase : ℕ → List ℕ × ℕ → Phrase
mutex_phrase pid m = if nat_eq m.1 0 then m.0 ∷ codes "free" ∷ [] else m.0 ∷ codes "held" ∷ codes "by" ∷ thread_text pid m.1 ∷ []

-- mutexes, in the order of their declaration
abbrev pub mutex_phrases : ℕ → List (List ℕ) → List ℕ → List Phrase
mutex_phrases pid names owners = map (mutex_phrase pid) (zip names owners)

-- ---- thread-specific data (XSH pthread_key_create, pthread_getspecific)

-- the name of a function, or `-` if there is none
abbrev pub func_or_dash : Script → Option ℕ → List ℕ
func_or_dash script None = codes "-"
func_or_dash script (Some f) = func_name script f

-- a key: its number and its destructor
abbrev pub key_phrase : Script → Key → Phrase
key_phrase script key = decimal key.number ∷ func_or_dash script key.destructor ∷ []

-- the key on a place, if there is one
abbrev pub key_on : Script → List KeyPlace → ℕ → List Phrase
key_on script places place = option_map_or (λ key. key_phrase script key ∷ []) (key_at places place) []

-- the keys of a process, by rising place
unfoldable pub key_phrases : Script → List KeyPlace → List Phrase
key_phrases script places = flat_map (key_on script places) (range_with_len 0 MAX_KEYS)

-- the key on a place and a thread's value of it, unless this is 0 (NULL)
abbrev pub specific_on : List KeyPlace → KeyValues → ℕ → List Phrase
specific_on places own place = if nat_eq (value_at place own) 0 then [] else (decimal (number_at places place) ∷ decimal (value_at place own) ∷ []) ∷ []

-- the thread-specific data of a thread, by rising place
unfoldable pub specific_phrases : List KeyPlace → KeyValues → List Phrase
specific_phrases places own = flat_map (specific_on places own) (range_with_len 0 MAX_KEYS)

-- ---- what is registered (XSH atexit, pthread_atfork), and how far the process is

-- exit began with this value (XSH exit)
abbrev pub exit_phrases : Option ℕ → List Phrase
exit_phrases None = []
exit_phrases (Some value) = (codes "exiting" ∷ decimal value ∷ []) ∷ []

-- the process is the child of one that had several threads (XSH fork)
abbrev pub restricted_phrases : Bool → List Phrase
restricted_phrases true = (codes "restricted" ∷ []) ∷ []
restricted_phrases false = []

-- a function that exit calls
abbrev pub exit_function_phrase : Script → ℕ → Phrase
exit_function_phrase script f = codes "atexit" ∷ func_name script f ∷ []

-- the fork handlers of one registration
abbrev pub fork_handlers_phrase : Script → ForkHandlers → Phrase
fork_handlers_phrase script h = codes "atfork" ∷ func_or_dash script h.prepare ∷ func_or_dash script h.parent ∷ func_or_dash script h.child ∷ []

-- a once control of a process with this id that is busy, and with which thread, or done; nothing for one that is fresh (XSH pthread_once)
abbrev pub once_phrases : ℕ → List ℕ × OnceState → List Phrase
once_phrases pid (name, Fresh) = []
once_phrases pid (name, Busy id) = (codes "once" ∷ name ∷ codes "called" ∷ codes "by" ∷ thread_text pid id ∷ []) ∷ []
once_phrases pid (name, Done) = (codes "once" ∷ name ∷ codes "done" ∷ []) ∷ []

-- the exit functions, newest first, and the fork handlers, in the order of their registration; before them how far the process is, and
-- after them its once controls, in the order of their declaration
abbrev pub registered_phrases : Script → ℕ → SharedState → List Phrase
registered_phrases script pid s =
    exit_phrases s.exit_value
    ++ restricted_phrases s.restricted
    ++ map (exit_function_phrase script) s.exit_functions
    ++ map (fork_handlers_phrase script) s.fork_handlers
    ++ flat_map (once_phrases pid) (zip script.onces s.onces)

-- ---- the text; `lines` has the numbers of the lines of the script's statements

-- a frame: its function, and each local that the function declares, with its value
abbrev pub frame_phrase : Script → Frame → Phrase
frame_phrase script frame = func_name script frame.func ∷ flat_map value_words (zip (locals_of script frame.func) frame.locals)

-- the fields of a process: its id, its globals, mutexes, semaphores and keys, and what is registered, with its once controls
unfoldable pub process_fields : Script → ListedProcess → List (List Phrase)
process_fields script p =
    word_field (decimal p.pid)
    ∷ value_phrases script.globals p.shared.globals
    ∷ mutex_phrases p.pid script.mutexes p.shared.owners
    ∷ value_phrases (map (λ d. d.name) script.sems) p.shared.counts
    ∷ key_phrases script p.shared.keys
    ∷ registered_phrases script p.pid p.shared
    ∷ []

module _ (lines : List (List ℕ)) (script : Script) where
  -- the fields of a thread of a process: `PID.TID`, its position, its frames, newest first, its thread-specific data, and whether it is
  -- detached
  unfoldable pub values_fields : ListedProcess → Thread → List (List Phrase)
  values_fields p t =
      word_field (thread_text p.pid t.id)
      ∷ position_phrases lines script (position_of t)
      ∷ map (frame_phrase script) t.frames
      ∷ specific_phrases p.shared.keys t.specific
      ∷ word_field (either keyword.Detached keyword.Joinable t.detached)
      ∷ []

  -- the line of a process, and below it those of its threads
  abbrev pub process_lines : ListedProcess → List ℕ
  process_lines p = fields_text (process_fields script p) ++ flat_map (λ t. fields_text (values_fields p t)) p.threads

  -- the output in the state after a run of n entries
  unfoldable pub states_text : Config → World → ℕ → List ℕ
  states_text config w n = line_text (verdict_line (verdict_of script config w n)) ++ flat_map process_lines (listed_processes config w)
