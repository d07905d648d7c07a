-- The lines of processes and of their threads, with their values.
use Rattle.pct_names.proofs.Names.{◌+◌, ◌++◌, ◌<◌, [], ap, arith, Bool, cond, Config, decimal, either, false, filter, filter-append}
use Rattle.pct_names.proofs.Names.{flat_map, get_or, is_some, KeyPlace, length, line_text, List, map, None, none-some, OnOk, option_map_or}
use Rattle.pct_names.proofs.Names.{refl, Result, Script, SharedState, slice_get, Some, sym, take, take_all, take_more, Thread, thread_text}
use Rattle.pct_names.proofs.Names.{true, Verdict, verdict_line, verdict_of, World, ℕ, ◌∙◌, ◌∷◌, ◌≡◌, ◌≤◌}
use Rattle.std.proofs.Common.{append-nil}
use Rattle.std.proofs.lemmas.Grind.{flat_map-append}
use Rattle.pct_model.specs.declared.keyword.Keyword.TheVariants as keyword
use Rattle.pct_keys.specs.Tables.{row_at}
use Rattle.pct_engine_laws.specs.Seen.{SeenSlot, SeenProcess, Seen, seen, threads_on}
use Rattle.pct_engine_laws.proofs.ListFacts.{flat_map_agree, flat_map-flat_map}
use Rattle.pct_view_laws.specs.Listed.{is_unended}
use Rattle.pct_view_laws.specs.ListedProcesses.{ListedProcess, process_in, processes_seen}
use Rattle.pct_view_laws.proofs.ProcessesSeen.{processes_are_seen}
use Rattle.pct_views.specs.declared.thread_state.ThreadState.{ThreadState}
use Rattle.pct_views.specs.ShownStates.{ShowsState, ShowsOneState}
use Rattle.pct_view_texts.specs.Fields.{Phrase, field_text, fields_text, word_field}
use Rattle.pct_view_texts.specs.ListedLines.{process_lines_seen, values_lines}
use Rattle.pct_view_texts.specs.Positions.{position_phrases}
use Rattle.pct_view_texts.specs.States.{frame_phrase, key_phrases, mutex_phrases, process_fields, process_lines, registered_phrases, specific_phrases, states_text, value_phrases, values_fields}
use Rattle.pct_view_texts.proofs.FieldTexts.{last_field, next_field, one_word}
use Rattle.pct_view_texts.proofs.Appending.{as_text, first_texts, then_text}
use Rattle.pct_view_texts.proofs.ListedTexts.{next_text}

-- ---- threads

-- a view is that of the one thread
pub one_state : (keys : List KeyPlace) (threads : List Thread) (view : ThreadState) → ShowsOneState keys threads (Some view) → (t : Thread) × (threads ≡ t ∷ []) × ShowsState keys t view
one_state keys [] view shown = absurd (none-some view (sym shown))
one_state keys (t ∷ []) view shown = (t, refl, shown)
one_state keys (t ∷ next ∷ rest) view shown = absurd shown

-- without a view there is no thread
pub no_state : (keys : List KeyPlace) (threads : List Thread) → ShowsOneState keys threads None → threads ≡ []
no_state keys [] shown = refl
no_state keys (t ∷ []) shown = absurd shown
no_state keys (t ∷ next ∷ rest) shown = absurd shown

-- the line of the one thread was appended
pub one_line : {E : Type 0} (r : Result (Unit {0}) E) (old new : List ℕ) (f : Thread → List ℕ) (threads : List Thread) (t : Thread) → threads ≡ t ∷ [] → OnOk r (new ≡ old ++ f t) → OnOk r (new ≡ old ++ flat_map f threads)
one_line r old new f threads t one line = as_text r old new (f t) (flat_map f threads) (sym (append-nil (f t)) ∙ ap (flat_map f) (sym one)) line

-- the threads on one slot more
pub next_slot : (f : Thread → List ℕ) (slots : List SeenSlot) (i : ℕ) (d : SeenSlot) → i < length slots
    → flat_map f (filter is_unended (threads_on (take i slots))) ++ flat_map f (filter is_unended (get_or slots i d).here) ≡ flat_map f (filter is_unended (threads_on (take (i + 1) slots)))
next_slot f slots i d inside =
    let first = threads_on (take i slots) in
    let here = (get_or slots i d).here in
    sym (flat_map-append f (filter is_unended first) (filter is_unended here))
    ∙ ap (flat_map f)
    (sym (filter-append is_unended first here)
    ∙ ap (filter is_unended)
    (ap (λ (ts : List Thread). first ++ ts) (sym (append-nil here))
    ∙ sym (flat_map-append (λ (s : SeenSlot). s.here) (take i slots) (get_or slots i d ∷ []))
    ∙ ap threads_on (sym (take_more slots i d inside))))

-- the line of a thread, in parts
thread_parts : (thread how : List ℕ) (position frames values : List Phrase)
    → thread ++ ((9 ∷ []) ++ (field_text position ++ ((9 ∷ field_text frames) ++ ((9 ∷ field_text values) ++ (9 ∷ (how ++ (10 ∷ [])))))))
    ≡ fields_text (word_field thread ∷ position ∷ frames ∷ values ∷ word_field how ∷ [])
thread_parts thread how position frames values =
    rw (next_field (word_field thread) _ _, next_field position _ _, next_field frames _ _, next_field values _ _, last_field (word_field how), one_word thread, one_word how) refl

-- the line of a thread that is shown so
shown_line : (lines : List (List ℕ)) (script : Script) (p : ListedProcess) (pid : ℕ) (t : Thread) (view : ThreadState) → p.pid ≡ pid → ShowsState p.shared.keys t view
    → fields_text
    (word_field (thread_text pid view.tid)
    ∷ position_phrases lines script view.position
    ∷ map (frame_phrase script) view.frames
    ∷ specific_phrases view.keys.now.places (row_at view.keys.now view.slot)
    ∷ word_field (either keyword.Detached keyword.Joinable view.detached)
    ∷ [])
    ≡ fields_text (values_fields lines script p t)
unfolding values_fields
shown_line lines script p pid t view same shows = rw (sym same, shows.tid_is, shows.position_is, shows.frames_are, shows.keys_are, shows.specific_is, shows.detached_is)

-- the parts of the line of a thread were appended
pub thread_line : {E : Type 0} (r : Result (Unit {0}) E) (old t0 t1 t2 t3 t4 new : List ℕ) (lines : List (List ℕ)) (script : Script) (pid : ℕ) (p : ListedProcess) (t : Thread) (view : ThreadState)
    → p.pid ≡ pid → ShowsState p.shared.keys t view
    → t0 ≡ old ++ thread_text pid view.tid
    → t1 ≡ t0 ++ (9 ∷ [])
    → t2 ≡ t1 ++ field_text (position_phrases lines script view.position)
    → t3 ≡ t2 ++ (9 ∷ field_text (map (frame_phrase script) view.frames))
    → t4 ≡ t3 ++ (9 ∷ field_text (specific_phrases view.keys.now.places (row_at view.keys.now view.slot)))
    → OnOk r (new ≡ t4 ++ (9 ∷ (either keyword.Detached keyword.Joinable view.detached ++ (10 ∷ []))))
    → OnOk r (new ≡ old ++ fields_text (values_fields lines script p t))
thread_line r old t0 t1 t2 t3 t4 new lines script pid p t view same shows first tab second third fourth last =
    as_text r old new _ _ (thread_parts _ _ _ _ _ ∙ shown_line lines script p pid t view same shows)
    (then_text r old t0 new _ _ first (then_text r t0 t1 new _ _ tab (then_text r t1 t2 new _ _ second (then_text r t2 t3 new _ _ third (then_text r t3 t4 new _ _ fourth last)))))

-- ---- processes

-- the line of a process, in parts
process_parts : (pid : List ℕ) (globals mutexes semaphores keys registered : List Phrase)
    → pid ++ ((9 ∷ field_text globals) ++ ((9 ∷ field_text mutexes) ++ ((9 ∷ field_text semaphores) ++ ((9 ∷ field_text keys) ++ ((9 ∷ field_text registered) ++ (10 ∷ []))))))
    ≡ fields_text (word_field pid ∷ globals ∷ mutexes ∷ semaphores ∷ keys ∷ registered ∷ [])
process_parts pid globals mutexes semaphores keys registered =
    rw (next_field (word_field pid) _ _, next_field globals _ _, next_field mutexes _ _, next_field semaphores _ _, next_field keys _ _, last_field registered, one_word pid) refl

-- the line of a process with this id and this shared state
line_of : (script : Script) (p : ListedProcess) (pid : ℕ) (s : SharedState) → p.pid ≡ pid → p.shared ≡ s
    → fields_text
    (word_field (decimal pid)
    ∷ value_phrases script.globals s.globals
    ∷ mutex_phrases pid script.mutexes s.owners
    ∷ value_phrases (map (λ d. d.name) script.sems) s.counts
    ∷ key_phrases script s.keys
    ∷ registered_phrases script pid s
    ∷ [])
    ≡ fields_text (process_fields script p)
unfolding process_fields
line_of script p pid s same shared = λ i. fields_text (process_fields script (record { pid = sym same i; shared = sym shared i; threads = p.threads }))

-- the parts of the line of a process were appended
pub process_line : {E : Type 0} (r : Result (Unit {0}) E) (old t0 t1 t2 t3 t4 t5 new : List ℕ) (script : Script) (pid : ℕ) (p : ListedProcess) (s : SharedState)
    → p.pid ≡ pid → p.shared ≡ s
    → t0 ≡ old ++ decimal pid
    → t1 ≡ t0 ++ (9 ∷ field_text (value_phrases script.globals s.globals))
    → t2 ≡ t1 ++ (9 ∷ field_text (mutex_phrases pid script.mutexes s.owners))
    → t3 ≡ t2 ++ (9 ∷ field_text (value_phrases (map (λ d. d.name) script.sems) s.counts))
    → t4 ≡ t3 ++ (9 ∷ field_text (key_phrases script s.keys))
    → t5 ≡ t4 ++ (9 ∷ field_text (registered_phrases script pid s))
    → OnOk r (new ≡ t5 ++ (10 ∷ []))
    → OnOk r (new ≡ old ++ fields_text (process_fields script p))
process_line r old t0 t1 t2 t3 t4 t5 new script pid p s same shared number globals mutexes semaphores keys registered last =
    as_text r old new _ _ (process_parts _ _ _ _ _ _ ∙ line_of script p pid s same shared)
    (then_text r old t0 new _ _ number (then_text r t0 t1 new _ _ globals (then_text r t1 t2 new _ _ mutexes (then_text r t2 t3 new _ _ semaphores (then_text r t3 t4 new _ _ keys (then_text r t4 t5 new _ _ registered last))))))

-- the line of a process was appended, and then those of its threads
pub process_text : {E : Type 0} (r : Result (Unit {0}) E) (old mid new : List ℕ) (lines : List (List ℕ)) (script : Script) (p : SeenProcess) (slots : List SeenSlot) → is_some p.ended ≡ false → slots ≡ p.slots
    → mid ≡ old ++ fields_text (process_fields script (process_in p)) → OnOk r (new ≡ mid ++ flat_map (values_lines lines script (process_in p)) (filter is_unended (threads_on slots)))
    → OnOk r (new ≡ old ++ process_lines_seen lines script p)
process_text r old mid new lines script p slots going same first second =
    let line = fields_text (process_fields script (process_in p)) in
    let threads : List SeenSlot → List ℕ = λ some. flat_map (values_lines lines script (process_in p)) (filter is_unended (threads_on some)) in
    as_text r old new (line ++ threads slots) (process_lines_seen lines script p)
    (ap (λ (some : List SeenSlot). line ++ threads some) same ∙ ap (λ (ended : Bool). cond ended [] (process_lines lines script (process_in p))) (sym going))
    (then_text r old mid new line (threads slots) first second)

-- the texts of the first processes were appended. The number of the processes is known once one was looked for
pub record AreAppended (old new : List ℕ) (text : SeenProcess → List ℕ) (ps : List SeenProcess) (i : ℕ) : Type 0 where
  pub text_is : new ≡ old ++ flat_map text (take i ps)
  pub few : 0 < i → length ps ≤ 8

-- and then that of the next one, if there is one
pub next_process : (old mid new : List ℕ) (text : SeenProcess → List ℕ) (ps : List SeenProcess) (i : ℕ) → AreAppended old mid text ps i
    → length ps ≤ 8 → new ≡ mid ++ option_map_or text (slice_get ps i) [] → AreAppended old new text ps (i + 1)
next_process old mid new text ps i appended few next = record {
  text_is = next_text text ps i (slice_get ps i) old mid new refl appended.text_is next;
  few = λ some. few;
}

-- and so those of all processes: there are at most eight
pub all_processes : (old new : List ℕ) (text : SeenProcess → List ℕ) (ps : List SeenProcess) (i : ℕ) → AreAppended old new text ps i → 8 ≤ i → new ≡ old ++ flat_map text ps
all_processes old new text ps i appended end =
    let few : length ps ≤ 8 = appended.few (omega arith) in
    appended.text_is ∙ ap (λ (all : List SeenProcess). old ++ flat_map text all) (take_all i ps (omega arith))

-- ---- the text

module _ (lines : List (List ℕ)) (script : Script) where
  -- the lines of a process, if it has not ended
  lines_by : (ended : Bool) (p : ListedProcess) → cond ended [] (process_lines lines script p) ≡ flat_map (process_lines lines script) (cond ended [] (p ∷ []))
  lines_by true p = refl
  lines_by false p = sym (append-nil (process_lines lines script p))

  -- the lines of all processes
  all_lines : (v : Seen) → flat_map (process_lines_seen lines script) v.processes ≡ flat_map (process_lines lines script) (processes_seen v)
  unfolding processes_seen
  all_lines v =
      let listed : SeenProcess → List ListedProcess = λ p. cond (is_some p.ended) [] (process_in p ∷ []) in
      flat_map_agree (process_lines_seen lines script) (λ p. flat_map (process_lines lines script) (listed p)) (λ p. lines_by (is_some p.ended) (process_in p)) v.processes
      ∙ sym (flat_map-flat_map (process_lines lines script) listed v.processes)

-- the line of the verdict was appended to an empty text, and then the lines of the processes
pub all_text : (start mid new : List ℕ) (lines : List (List ℕ)) (source script : Script) (config : Config) (w : World) (n : ℕ) (verdict : Verdict)
    → 0 < config.slots → source ≡ script → verdict ≡ verdict_of script config w n → start ≡ [] → mid ≡ start ++ line_text (verdict_line verdict)
    → new ≡ mid ++ flat_map (process_lines_seen lines source) (seen config.slots w).processes → new ≡ states_text lines script config w n
unfolding states_text
all_text start mid new lines source script config w n verdict some same is none first second =
    let v : Seen = seen config.slots w in
    let line = line_text (verdict_line (verdict_of script config w n)) in
    first_texts start mid new (line_text (verdict_line verdict)) (flat_map (process_lines_seen lines source) v.processes) none first second
    ∙ (λ i. line_text (verdict_line (is i)) ++ flat_map (process_lines_seen lines (same i)) v.processes)
    ∙ ap (λ (text : List ℕ). line ++ text) (all_lines lines script v ∙ ap (flat_map (process_lines lines script)) (sym (processes_are_seen config w some)))
