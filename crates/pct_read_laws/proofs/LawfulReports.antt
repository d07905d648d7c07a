-- What is read of the report of a run: its events, with the numbers of their names, which keep the laws that the events keep.
use Rattle.pct_names.proofs.Names.{◌≡◌, ℕ, List, [], ◌∷◌, ◌++◌, map, reverse, All, All-head, All-push, All-tail, Config, Event, Script}
use Rattle.pct_names.proofs.Names.{ap, event_line, length, length-map, length-reverse, map-append, refl, reverse-append, reverse-reverse, subst, sym, words_of, ◌∙◌}
use Rattle.pct_name_numbers.specs.EventReading.{events_of, no_names}
use Rattle.pct_report_reader.specs.Reading.{event_lines}
use Rattle.pct_event_laws.specs.EventLaws.{EventLaws}
use Rattle.pct_event_laws.specs.Renamed.{RenamingKeepsLaws, renamed_event, renamed_events}
use Rattle.pct_event_lines.specs.EventLines.{AreReadBack}
use Rattle.pct_report_laws.specs.ReportsRead.{IsReadAs}
use Rattle.pct_read_laws.specs.RunsRead.{IsLawfulReport}

reverse-map : (f : Event → Event) (xs : List Event) → reverse (map f xs) ≡ map f (reverse xs)
reverse-map f [] = refl
reverse-map f (x ∷ xs) =
    reverse-append (f x ∷ []) (map f xs) ∙ ap (λ (ys : List Event). ys ++ f x ∷ []) (reverse-map f xs)
    ∙ sym (map-append f (reverse xs) (x ∷ [])) ∙ ap (map f) (sym (reverse-append (x ∷ []) xs))

restored : (f : Event → Event) (xs : List Event) → reverse (map f (reverse xs)) ≡ map f xs
restored f xs = reverse-map f (reverse xs) ∙ ap (map f) (reverse-reverse xs)

pub all_reversed : {A : Type 0} (P : A → Type 0) (xs : List A) → All P xs → All P (reverse xs)
all_reversed P [] all = all
all_reversed P (x ∷ xs) all =
    subst (All P) (sym (reverse-append (x ∷ []) xs)) (All-push P (reverse xs) x (all_reversed P xs (All-tail P x xs all)) (All-head P x xs all))

-- the events are those of a run, the newest first
pub lawful : (script : Script) (config : Config) (events : List Event) (text : List ℕ) → RenamingKeepsLaws → EventLaws config.passes config.slots events
    → IsReadAs script config (reverse events) text → AreReadBack script (reverse events) → IsLawfulReport config (length events) text
lawful script config events text renaming laws report lines = record {
  names = lines.names;
  events = renamed_events lines.naming (reverse events);
  report = report.report;
  read = ap (events_of no_names) report.words ∙ lines.read;
  events_count = length-map (reverse events) (renamed_event lines.naming) ∙ length-reverse events;
  lines_count =
      sym (length-map (event_lines text) (λ (line : ℕ × List ℕ). words_of line.1)) ∙ ap length report.words
      ∙ length-map (reverse events) (event_line script) ∙ length-reverse events;
  laws = subst (EventLaws config.passes config.slots) (sym (restored (renamed_event lines.naming) events)) (renaming config.passes config.slots lines.naming events lines.apart laws);
}
