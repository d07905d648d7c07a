-- The lines of the steps of a run, and of a run with one entry more; and which entries an engine has made the steps of.
use Rattle.pct_names.proofs.Names.{◌+◌, ◌++◌, [], ap, arith, Config, drop, drop-append_seam, Entry, enumerate_from, Event, event_of}
use Rattle.pct_names.proofs.Names.{flat_map, flat_map-cons, get_or, length, length-map, List, map, map-id, Option, reverse, Run, run, Script, Some}
use Rattle.pct_names.proofs.Names.{step, Successor, sym, take, take_more, What, ℕ, ◌<◌, ◌∙◌, ◌∷◌, ◌≡◌, ◌≤◌}
use Rattle.std.proofs.Common.{length-append}
use Rattle.std.proofs.lemmas.Grind.{flat_map-append}
use Rattle.std.proofs.lemmas.List.{append-nil}
use Rattle.pct_engine_laws.proofs.ListFacts.{map-map}
use Rattle.pct_engine.specs.EngineStates.{EngineValue, IsRunOf}
use Rattle.pct_view_laws.specs.declared.position.StepStart.{StepStart}
use Rattle.pct_view_laws.specs.TracedSteps.{TracedStep, start_in, steps_from, steps_of}
use Rattle.pct_view_laws.proofs.TracedRuns.{traces_runs, steps_more, events_more}
use Rattle.pct_view_texts.specs.Fields.{fields_text}
use Rattle.pct_view_texts.specs.NextSteps.{MakesSomeOf, steps_text}
use Rattle.pct_view_texts.specs.Trace.{step_fields, steps_text_from}

-- ---- one line more

-- a numbered list with one item more
enumerate-more : {A : Type 0} (n : ℕ) (xs : List A) (x : A) → enumerate_from n (xs ++ x ∷ []) ≡ enumerate_from n xs ++ (n + length xs, x) ∷ []
enumerate-more n [] x = ap (λ (k : ℕ). (k, x) ∷ []) (omega arith)
enumerate-more n (y ∷ ys) x =
    ap (λ rest. (n, y) ∷ rest) (enumerate-more (n + 1) ys x)
    ∙ ap (λ (k : ℕ). enumerate_from n (y ∷ ys) ++ (k, x) ∷ []) (omega arith)

-- the lines of one step more
steps_text-more : (lines : List (List ℕ)) (script : Script) (steps : List TracedStep) (s : TracedStep) → steps_text_from lines script 1 (steps ++ s ∷ []) ≡ steps_text_from lines script 1 steps ++ fields_text (step_fields lines script (length steps + 1) s)
steps_text-more lines script steps s =
    let line : ℕ × TracedStep → List ℕ = λ numbered. fields_text (step_fields lines script numbered.0 numbered.1) in
    let last : ℕ × TracedStep = (1 + length steps, s) in
    ap (flat_map line) (enumerate-more 1 steps s)
    ∙ flat_map-append line (enumerate_from 1 steps) (last ∷ [])
    ∙ ap (λ text. flat_map line (enumerate_from 1 steps) ++ text) (flat_map-cons line last [] ∙ append-nil (line last))
    ∙ ap (λ (n : ℕ). flat_map line (enumerate_from 1 steps) ++ line (n, s)) (omega arith)

-- a run has as many steps as entries
steps_count : (script : Script) (config : Config) (entries : List Entry) (r : Run) → run script config entries ≡ Some r → length (steps_of script config entries) ≡ length entries
steps_count script config entries r is = sym (length-map (steps_of script config entries) (λ (s : TracedStep). s.entry)) ∙ ap length (traces_runs script config entries r is).entries_are

-- an engine without entries has no lines
pub no_lines : (lines : List (List ℕ)) (engine : EngineValue) → engine.history ≡ [] → steps_text lines engine ≡ []
unfolding steps_from
no_lines lines engine none = ap (λ (history : List Entry). steps_text_from lines engine.script 1 (steps_of engine.script engine.config history)) none

-- ---- the step that an engine made

-- the events of an entry are what they say
what_of : (e : Entry) (events : List What) → map (λ (x : Event). x.what) (map (event_of e) events) ≡ events
what_of e events = map-map (λ (x : Event). x.what) (event_of e) events ∙ map-id events

-- the line of a step that is the same
same_line : (lines : List (List ℕ)) (script script' : Script) (n n' : ℕ) (s s' : TracedStep) → script ≡ script' → n ≡ n' → s ≡ s' → fields_text (step_fields lines script n s) ≡ fields_text (step_fields lines script' n' s')
same_line lines script script' n n' s s' script_is number_is step_is = cc

-- an engine has made the step of an entry
module _ (engine engine_after : EngineValue) (e : Entry) (before after : Run) (made : engine_after ≡ record engine { history = engine.history ++ e ∷ [] }) (is : IsRunOf engine before) (after_is : IsRunOf engine_after after) where
  -- the step that the entry made, whose events come after those before
  made_step : (s : Successor) × (step engine.script engine.config before.world e ≡ Some s) × (reverse after.events ≡ reverse before.events ++ map (event_of e) s.events)
  made_step = events_more engine.script engine.config engine.history before e after is (ap (λ (v : EngineValue). run v.script v.config v.history) (sym made) ∙ after_is)

  -- there are no fewer events than before
  pub no_fewer : length (reverse before.events) ≤ length (reverse after.events)
  no_fewer = omega (arith, ap length made_step.2, length-append (reverse before.events) (map (event_of e) made_step.0.events))

  -- its line is that of the entry, where it begins in the state before, and the events that are new
  pub text_of_step : (lines : List (List ℕ)) (script : Script) (history : List Entry) (start : Option StepStart) (recent : List Event)
      → script ≡ engine_after.script → history ≡ engine_after.history → start ≡ start_in before.world e → recent ≡ drop (length (reverse before.events)) (reverse after.events)
      → steps_text lines engine_after ≡ steps_text lines engine ++ fields_text (step_fields lines script (length history) (record { start = start; entry = e; events = map (λ (x : Event). x.what) recent }))
  text_of_step lines script history start recent script_is history_is begins ends =
      let s : Successor = made_step.0 in
      let steps : List TracedStep = steps_of engine.script engine.config engine.history in
      let events : s.events ≡ map (λ (x : Event). x.what) recent =
      sym (ap (λ (all : List Event). map (λ (x : Event). x.what) (drop (length (reverse before.events)) all)) made_step.2
      ∙ ap (map (λ (x : Event). x.what)) (drop-append_seam (reverse before.events) (map (event_of e) s.events))
      ∙ what_of e s.events)
      ∙ sym (ap (map (λ (x : Event). x.what)) ends) in
      let count : length steps + 1 ≡ length history =
      omega (arith, steps_count engine.script engine.config engine.history before is, length-append engine.history (e ∷ []), ap length history_is, ap (λ (v : EngineValue). length v.history) made) in
      ap (steps_text lines) made
      ∙ ap (steps_text_from lines engine.script 1) (steps_more engine.script engine.config engine.history before e s is made_step.1)
      ∙ steps_text-more lines engine.script steps (record { start = start_in before.world e; entry = e; events = s.events })
      ∙ ap (λ (text : List ℕ). steps_text lines engine ++ text)
      (same_line lines engine.script script (length steps + 1) (length history) _ _
      (sym (script_is ∙ ap (λ (v : EngineValue). v.script) made)) count
      (ap (λ (o : Option StepStart). record { start = o; entry = e; events = s.events }) (sym begins) ∙ ap (λ (xs : List What). record { start = start; entry = e; events = xs }) events))

-- ---- some of the entries

-- from an engine without entries, the steps of the first entries were made
pub some_made : (opened engine : EngineValue) (entries : List Entry) (count : ℕ) → opened.history ≡ [] → engine ≡ record opened { history = take count entries } → MakesSomeOf entries opened engine
some_made opened engine entries count none made = record {
  count = count;
  engine_is = made ∙ ap (λ (before : List Entry). record opened { history = before ++ take count entries }) (sym none);
}

-- and then that of the next one
pub some_more : (opened so_far engine : EngineValue) (entries : List Entry) (i : ℕ) (d : Entry) → opened.history ≡ [] → so_far ≡ record opened { history = take i entries } → i < length entries
    → engine ≡ record so_far { history = so_far.history ++ get_or entries i d ∷ [] } → MakesSomeOf entries opened engine
some_more opened so_far engine entries i d none made within next =
    some_made opened engine entries (i + 1) none
    (next
    ∙ ap (λ (v : EngineValue). record v { history = v.history ++ get_or entries i d ∷ [] }) made
    ∙ ap (λ (history : List Entry). record opened { history = history }) (sym (take_more entries i d within)))
