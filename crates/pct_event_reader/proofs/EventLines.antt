-- The event of a line, from its words.
use Rattle.pct_names.proofs.Names.{and_parts, ap, bytes_eq, false≢true, find, is_some, keyword_text, length, List, list_any, None, option_map, Option, refl, Some, sym, true, words_of, ℕ, ◌&&◌, ◌∙◌, ◌∷◌, ◌≡◌, ◌≤◌}
use Rattle.std.specs.Borrow.{Bor}
use Rattle.pct_model.proofs.Bytes.{same_bytes}
use Rattle.pct_model.specs.declared.event.What.{What}
use Rattle.pct_model.specs.EventTexts.{EventNames}
use Rattle.pct_model.specs.Lines.{◌>>=◌}
use Rattle.pct_name_numbers.specs.EventReading.{Reading, event_keyword, event_of, fields_of, thread_of, what_of}
use Rattle.pct_report_reader.proofs.WordsLeft.{list_any-never}
use Rattle.pct_report_reader.specs.Forms.{words_left}
use Rattle.pct_report_reader.specs.Reading.{is_event, is_event_of_words, is_thread}
use Rattle.pct_report_reader.specs.Texts.{Form, are_words, event_forms, has_form}
use Rattle.pct_event_reader.specs.declared.value.Value.{Value}
use Rattle.pct_event_reader.specs.EventReports.{HasCreatedId}
use Rattle.pct_event_reader.specs.Values.{values_of, what_with}
use Rattle.pct_event_reader.proofs.FormRows.{IsEventForm, event_rows}
use Rattle.pct_event_reader.proofs.FoundForms.{found_passes}

-- ---- the words of an event

module _ (line thread : List ℕ) (after : Option (Bor (List ℕ))) (words : words_of line ≡ thread ∷ words_left after) (is : is_event line ≡ true) where
  both : (is_thread thread && list_any (has_form (words_left after)) event_forms) ≡ true
  unfolding is_event
  both = sym (ap is_event_of_words words) ∙ is

  pub begins_thread : is_thread thread ≡ true
  begins_thread = (and_parts (is_thread thread) (list_any (has_form (words_left after)) event_forms) both).0

  pub has_event : list_any (has_form (words_left after)) event_forms ≡ true
  has_event = (and_parts (is_thread thread) (list_any (has_form (words_left after)) event_forms) both).1

pub some_after : (after : Option (Bor (List ℕ))) → list_any (has_form (words_left after)) event_forms ≡ true → is_some after ≡ true
some_after None has = absurd (false≢true (sym (list_any-never event_forms) ∙ has))
some_after (Some bytes) has = refl

-- ---- the form that is found

module _ (first : List ℕ) (rest : List (List ℕ)) (form : Form) (found : find (has_form (first ∷ rest)) event_forms ≡ Some form) where
  passed : (has_form (first ∷ rest) form ≡ true) × IsEventForm form
  passed = found_passes IsEventForm (has_form (first ∷ rest)) event_forms form event_rows found

  parts : (bytes_eq (keyword_text form.first) first ≡ true) × (are_words form.kinds rest ≡ true)
  parts = and_parts (bytes_eq (keyword_text form.first) first) (are_words form.kinds rest) passed.0

  pub form_words : are_words form.kinds rest ≡ true
  form_words = parts.1

  pub few_kinds : length form.kinds ≤ 4
  few_kinds = passed.1.few

  module _ (names after : EventNames) (values : List Value) (read : values_of form.kinds names rest ≡ Some (after, values)) where
    pub what_read : what_of names (first ∷ rest) ≡ Some (after, what_with form.first values)
    unfolding what_of
    what_read =
        ap (λ o. o >>= λ k. fields_of k names rest) (ap event_keyword (sym (same_bytes (keyword_text form.first) first parts.0)) ∙ passed.1.keyword)
        ∙ passed.1.read names after rest values read

    pub created_ids : HasCreatedId (what_with form.first values)
    created_ids = passed.1.created names after rest values read

-- ---- the event

pub event_read : (line thread : List ℕ) (after : Option (Bor (List ℕ))) (first : List ℕ) (rest : List (List ℕ)) (pid tid : ℕ) (what : What) (names next : EventNames) → words_of line ≡ thread ∷ words_left after
    → words_left after ≡ first ∷ rest → thread_of thread ≡ Some (pid, tid) → what_of names (first ∷ rest) ≡ Some (next, what)
    → event_of names (words_of line) ≡ Some (next, record { pid = pid; tid = tid; what = what })
event_read line thread after first rest pid tid what names next words others ids read =
    ap (event_of names) (words ∙ ap (λ (ws : List (List ℕ)). thread ∷ ws) others)
    ∙ ap (λ (o : Option (ℕ × ℕ)). o >>= λ t. option_map (λ r. (r.0, record { pid = t.0; tid = t.1; what = r.1 })) (what_of names (first ∷ rest))) ids
    ∙ ap (λ (o : Reading What). option_map (λ r. (r.0, record { pid = pid; tid = tid; what = r.1 })) o) read
