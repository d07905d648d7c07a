-- The lines of steps and of threads, as the parts in which they are appended.
use Rattle.pct_names.proofs.Names.{◌++◌, [], alt_words, ap, decimal, event_names, event_words, join_with_byte, List, map, OnOk, option_map_or, refl}
use Rattle.pct_names.proofs.Names.{Result, Script, thread_text, ℕ, ◌∙◌, ◌∷◌, ◌≡◌}
use Rattle.std.proofs.Common.{append_assoc}
use Rattle.pct_view_laws.specs.Listed.{ListedThread}
use Rattle.pct_view_laws.specs.TracedSteps.{TracedStep}
use Rattle.pct_views.specs.declared.thread_view.ThreadView.{ThreadView}
use Rattle.pct_views.specs.ShownThreads.{ShowsThread}
use Rattle.pct_view_texts.specs.Fields.{Phrase, phrase_text, field_text, fields_text, word_field}
use Rattle.pct_view_texts.specs.Positions.{is_timed_at, position_phrases, statement_phrases}
use Rattle.pct_view_texts.specs.Trace.{start_phrases, step_fields}
use Rattle.pct_view_texts.specs.Choices.{cancelability, handler_phrase, status_and_wait, thread_fields}
use Rattle.pct_view_texts.proofs.Appending.{as_text, then_text}
use Rattle.pct_view_texts.proofs.FieldTexts.{one_phrase, one_word, next_field, last_field}

-- a byte before two texts
cons_append : (x : ℕ) (xs ys : List ℕ) → (x ∷ xs) ++ ys ≡ x ∷ (xs ++ ys)
cons_append x xs ys = refl

-- the line of a step, in three parts
step_parts : (number thread : List ℕ) (place statement : List Phrase) (choice : Phrase) (events : List Phrase)
    → (number ++ 9 ∷ thread ++ 9 ∷ []) ++ ((field_text place ++ 9 ∷ field_text statement) ++ (9 ∷ phrase_text choice ++ 9 ∷ field_text events ++ 10 ∷ []))
    ≡ fields_text (word_field number ∷ word_field thread ∷ place ∷ statement ∷ (choice ∷ []) ∷ events ∷ [])
step_parts number thread place statement choice events =
    rw (next_field (word_field number) _ _, next_field (word_field thread) _ _, next_field place _ _, next_field statement _ _, next_field (choice ∷ []) _ _, last_field events, one_word number, one_word thread, one_phrase choice)
    (simp (append_assoc, cons_append))

-- the line of a thread, in two parts
thread_parts : (thread : List ℕ) (place statement wait state handlers : List Phrase)
    → (thread ++ 9 ∷ field_text place ++ 9 ∷ field_text statement) ++ (9 ∷ field_text wait ++ 9 ∷ field_text state ++ 9 ∷ field_text handlers ++ 10 ∷ [])
    ≡ fields_text (word_field thread ∷ place ∷ statement ∷ wait ∷ state ∷ handlers ∷ [])
thread_parts thread place statement wait state handlers =
    rw (next_field (word_field thread) _ _, next_field place _ _, next_field statement _ _, next_field wait _ _, next_field state _ _, last_field handlers, one_word thread)
    (simp (append_assoc, cons_append) (ap (λ text. thread ++ 9 ∷ (field_text place ++ 9 ∷ (field_text statement ++ 9 ∷ text))) (append_assoc (field_text wait) (9 ∷ field_text state) (9 ∷ (field_text handlers ++ 10 ∷ [])))))

-- the line of a thread that is shown so
shown_line : (lines : List (List ℕ)) (script : Script) (l : ListedThread) (view : ThreadView) → ShowsThread l view
    → fields_text
    (word_field (thread_text view.pid view.tid)
    ∷ position_phrases lines script view.start.position
    ∷ statement_phrases script view.start.position
    ∷ status_and_wait script view.pid (is_timed_at script view.start.position) view.start.status view.wait
    ∷ cancelability view.cancel.state view.cancel.mode view.cancel.pending
    ∷ map (handler_phrase script) view.handlers.now
    ∷ [])
    ≡ fields_text (thread_fields lines script l)
unfolding thread_fields
shown_line lines script l view shows = rw (shows.pid_is, shows.tid_is, shows.start_is, shows.cancel_is.state_is, shows.cancel_is.mode_is, shows.cancel_is.pending_is, shows.handlers_are, shows.wait_is)

module _ {E : Type 0} (r : Result (Unit {0}) E) (old : List ℕ) (lines : List (List ℕ)) (script : Script) where
  -- the parts of a step's line were appended
  pub step_line : (threads places new : List ℕ) (number : ℕ) (s : TracedStep)
      → threads ≡ old ++ (decimal number ++ 9 ∷ thread_text s.entry.pid s.entry.tid ++ 9 ∷ [])
      → places ≡ threads ++ (field_text (option_map_or (start_phrases lines script) s.start []) ++ 9 ∷ field_text (option_map_or (λ start. statement_phrases script start.position) s.start []))
      → OnOk r (new ≡ places ++ (9 ∷ join_with_byte 32 (alt_words s.entry.alt) ++ 9 ∷ field_text (map (event_words (event_names script)) s.events) ++ 10 ∷ []))
      → OnOk r (new ≡ old ++ fields_text (step_fields lines script number s))
  unfolding step_fields
  step_line threads places new number s first second third =
      let place = option_map_or (start_phrases lines script) s.start [] in
      let statement = option_map_or (λ start. statement_phrases script start.position) s.start [] in
      let events = map (event_words (event_names script)) s.events in
      let outcome = 9 ∷ phrase_text (alt_words s.entry.alt) ++ 9 ∷ field_text events ++ 10 ∷ [] in
      as_text r old new _ _ (step_parts (decimal number) (thread_text s.entry.pid s.entry.tid) place statement (alt_words s.entry.alt) events)
      (then_text r old threads new (decimal number ++ 9 ∷ thread_text s.entry.pid s.entry.tid ++ 9 ∷ []) ((field_text place ++ 9 ∷ field_text statement) ++ outcome) first
      (then_text r threads places new (field_text place ++ 9 ∷ field_text statement) outcome second third))

  -- the parts of a thread's line were appended
  pub thread_line : (places new : List ℕ) (l : ListedThread) (view : ThreadView) → ShowsThread l view
      → places ≡ old ++ (thread_text view.pid view.tid ++ 9 ∷ field_text (position_phrases lines script view.start.position) ++ 9 ∷ field_text (statement_phrases script view.start.position))
      → OnOk r (new ≡ places ++ (9 ∷ field_text (status_and_wait script view.pid (is_timed_at script view.start.position) view.start.status view.wait) ++ 9 ∷ field_text (cancelability view.cancel.state view.cancel.mode view.cancel.pending) ++ 9 ∷ field_text (map (handler_phrase script) view.handlers.now) ++ 10 ∷ []))
      → OnOk r (new ≡ old ++ fields_text (thread_fields lines script l))
  thread_line places new l view shows first second =
      let place = position_phrases lines script view.start.position in
      let statement = statement_phrases script view.start.position in
      let wait = status_and_wait script view.pid (is_timed_at script view.start.position) view.start.status view.wait in
      let state = cancelability view.cancel.state view.cancel.mode view.cancel.pending in
      let handlers = map (handler_phrase script) view.handlers.now in
      as_text r old new _ _ (thread_parts (thread_text view.pid view.tid) place statement wait state handlers ∙ shown_line lines script l view shows)
      (then_text r old places new (thread_text view.pid view.tid ++ 9 ∷ field_text place ++ 9 ∷ field_text statement) (9 ∷ field_text wait ++ 9 ∷ field_text state ++ 9 ∷ field_text handlers ++ 10 ∷ []) first second)
