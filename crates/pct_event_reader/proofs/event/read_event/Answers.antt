use Rattle.pct_names.proofs.Names.{ap, List, list_any, Some, subst, sym, ℕ, ◌∙◌, ◌≡◌}
use Rattle.pct_model.specs.declared.event.What.{What}
use Rattle.pct_report_reader.specs.Forms.{as_form, words_left}
use Rattle.pct_report_reader.specs.Texts.{event_forms, has_form}
use Rattle.pct_event_reader.specs.EventReports.{HasCreatedId}
use Rattle.pct_event_reader.specs.Values.{what_with}
use Rattle.pct_event_reader.proofs.EventLines.{begins_thread, created_ids, event_read, few_kinds, form_words, has_event, some_after, what_read}
use Rattle.pct_event_reader.proofs.event.read_event.Goals as goal

pub thread_of-pid-requires : goal.thread_of-pid-requires
thread_of-pid-requires c = begins_thread c.args.line.now c.first_word.result.0.now c.first_word.result.1 c.first_word.ensures c.requires.event

pub unwrap-requires : goal.unwrap-requires
unwrap-requires c = some_after c.first_word.result.1 (has_event c.args.line.now c.first_word.result.0.now c.first_word.result.1 c.first_word.ensures c.requires.event)

pub form_of-keyword-requires : goal.form_of-keyword-requires
form_of-keyword-requires c =
    ap (λ (words : List (List ℕ)). list_any (has_form words) event_forms) (sym (ap words_left c.unwrap.ensures ∙ c.first_word-2.ensures))
    ∙ has_event c.args.line.now c.first_word.result.0.now c.first_word.result.1 c.first_word.ensures c.requires.event

pub read_words-requires-clause-kinds : goal.read_words-requires-clause-kinds
read_words-requires-clause-kinds c = form_words c.first_word-2.result.0.now (words_left c.first_word-2.result.1) (as_form c.form_of-keyword.result) c.form_of-keyword.ensures

pub read_words-requires-clause-few : goal.read_words-requires-clause-few
read_words-requires-clause-few c = few_kinds c.first_word-2.result.0.now (words_left c.first_word-2.result.1) (as_form c.form_of-keyword.result) c.form_of-keyword.ensures

pub returns-clause-event : goal.returns-clause-event
returns-clause-event c = λ before numbering.
    let first = c.first_word-2.result.0.now in
    let rest = words_left c.first_word-2.result.1 in
    let form = as_form c.form_of-keyword.result in
    let values = c.in_ok-values.ensures.values before numbering in
    let made : c.what.result ≡ what_with form.first c.in_ok-values.values.items = c.what.ensures ∙ ap (what_with form.first) c.as_slice.ensures.value in (
      values.0,
      event_read c.args.line.now c.first_word.result.0.now c.first_word.result.1 first rest c.thread_of-pid.result.0 c.thread_of-pid.result.1 c.what.result before values.0 c.first_word.ensures
          (ap words_left c.unwrap.ensures ∙ c.first_word-2.ensures) c.thread_of-pid.ensures.thread
          (what_read first rest form c.form_of-keyword.ensures before values.0 c.in_ok-values.values.items values.1 ∙ ap (λ (what : What). Some (values.0, what)) (sym made)),
      values.2,
    )

pub returns-clause-ids : goal.returns-clause-ids
returns-clause-ids c = λ before numbering.
    let form = as_form c.form_of-keyword.result in
    let values = c.in_ok-values.ensures.values before numbering in
    let made : c.what.result ≡ what_with form.first c.in_ok-values.values.items = c.what.ensures ∙ ap (what_with form.first) c.as_slice.ensures.value in
    record {
      process = c.thread_of-pid.ensures.ids.0;
      thread = c.thread_of-pid.ensures.ids.1;
      created = subst HasCreatedId (sym made)
          (created_ids c.first_word-2.result.0.now (words_left c.first_word-2.result.1) form c.form_of-keyword.ensures before values.0 c.in_ok-values.values.items values.1);
    }
