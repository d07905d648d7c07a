-- The events of lines, one after the other.
use Rattle.pct_names.proofs.Names.{[], All, All-cons, All-head, All-nil, All-tail, ap, List, map, map-append, None, refl, Some, some_pair_parts, sym, take, words_of, ℕ, ◌++◌, ◌+◌, ◌<◌, ◌∙◌, ◌∷◌, ◌≡◌}
use Rattle.pct_names.proofs.Names.{length, slice_index_or, take_more}
use Rattle.pct_expect.specs.declared.span.Span.{Span}
use Rattle.pct_expect.specs.Events.{part_at}
use Rattle.pct_model.specs.declared.event.Event.{Event}
use Rattle.pct_model.specs.EventTexts.{EventNames}
use Rattle.pct_model.specs.Lines.{◌>>=◌}
use Rattle.pct_name_numbers.specs.EventReading.{Reading, event_of, events_of, no_names}
use Rattle.pct_event_reader.specs.declared.numbers.EventNumbers.{EventNumbers}
use Rattle.pct_event_reader.specs.Numberings.{IsNumberings, Numbers}
use Rattle.pct_event_reader.specs.Values.{read_map}

-- what all of the images have
pub All-of_map : {X Y : Type 0} (P : Y → Type 0) (f : X → Y) (xs : List X) → All P (map f xs) → All (λ x. P (f x)) xs
All-of_map P f [] all = All-nil (λ x. P (f x))
All-of_map P f (x ∷ xs) all = All-cons (λ x. P (f x)) x xs (All-head P (f x) (map f xs) all) (All-of_map P f xs (All-tail P (f x) (map f xs) all))

-- ---- one more line

module _ (line : List (List ℕ)) (m k : EventNames) (e : Event) (read : event_of m line ≡ Some (k, e)) where
  only_line : (n : EventNames) (events : List Event) → ◌≡◌ {A = Reading (List Event)} (Some (n, [])) (Some (m, events)) → events_of n (line ∷ []) ≡ Some (k, events ++ e ∷ [])
  only_line n events is =
      let parts = some_pair_parts _ _ _ _ is in
      ap (λ (names : EventNames). events_of names (line ∷ [])) parts.0 ∙ ap (λ (o : Reading Event). o >>= λ r. read_map (λ more. r.1 ∷ more) (Some (r.0, []))) read
      ∙ ap (λ (before : List Event). Some (k, before ++ e ∷ [])) parts.1

  after_first : (lines : List (List (List ℕ))) (r : EventNames × Event) (events : List Event)
      → ((others : List Event) → events_of r.0 lines ≡ Some (m, others) → events_of r.0 (lines ++ line ∷ []) ≡ Some (k, others ++ e ∷ []))
      → (rest : Reading (List Event)) → events_of r.0 lines ≡ rest → read_map (λ more. r.1 ∷ more) rest ≡ Some (m, events)
      → read_map (λ more. r.1 ∷ more) (events_of r.0 (lines ++ line ∷ [])) ≡ Some (k, events ++ e ∷ [])
  after_first lines r events later None is whole = absurd cc
  after_first lines r events later (Some s) is whole =
      let parts = some_pair_parts _ _ _ _ whole in
      ap (read_map (λ more. r.1 ∷ more)) (later s.1 (is ∙ ap (λ (names : EventNames). Some (names, s.1)) parts.0)) ∙ ap (λ (before : List Event). Some (k, before ++ e ∷ [])) parts.1

  by_first : (lines : List (List (List ℕ))) (events : List Event)
      → ((n : EventNames) (others : List Event) → events_of n lines ≡ Some (m, others) → events_of n (lines ++ line ∷ []) ≡ Some (k, others ++ e ∷ []))
      → (o : Reading Event) → (o >>= λ r. read_map (λ more. r.1 ∷ more) (events_of r.0 lines)) ≡ Some (m, events)
      → (o >>= λ r. read_map (λ more. r.1 ∷ more) (events_of r.0 (lines ++ line ∷ []))) ≡ Some (k, events ++ e ∷ [])
  by_first lines events later None is = absurd cc
  by_first lines events later (Some r) is = after_first lines r events (later r.0) (events_of r.0 lines) refl is

  line_more : (lines : List (List (List ℕ))) (n : EventNames) (events : List Event) → events_of n lines ≡ Some (m, events) → events_of n (lines ++ line ∷ []) ≡ Some (k, events ++ e ∷ [])
  line_more [] n events is = only_line n events is
  line_more (first ∷ lines) n events is = by_first lines events (line_more lines) (event_of n first) is

pub numbers_more : (lines : List (List (List ℕ))) (line : List (List ℕ)) (before after : EventNumbers) (events grown : List Event) (e : Event) → grown ≡ events ++ e ∷ [] → Numbers (events_of no_names lines) before events
    → ((names : EventNames) → IsNumberings before names → Numbers (event_of names line) after e) → Numbers (events_of no_names (lines ++ line ∷ [])) after grown
numbers_more lines line before after events grown e pushed so_far next =
    let here = next so_far.0 so_far.2 in
    (here.0, line_more line so_far.0 here.0 e here.1 lines no_names events so_far.1 ∙ ap (λ (all : List Event). Some (here.0, all)) (sym pushed), here.2)

-- the words of one more part of a text
pub part_more : (text : List ℕ) (spans : List Span) (i : ℕ) (d : Span) → i < length spans
    → map (λ span. words_of (part_at text span)) (take (i + 1) spans)
    ≡ map (λ span. words_of (part_at text span)) (take i spans) ++ words_of (part_at text (slice_index_or spans i d)) ∷ []
part_more text spans i d within =
    ap (map (λ span. words_of (part_at text span))) (take_more spans i d within)
    ∙ map-append (λ span. words_of (part_at text span)) (take i spans) (slice_index_or spans i d ∷ [])
