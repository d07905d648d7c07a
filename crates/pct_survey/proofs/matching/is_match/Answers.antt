use Rattle.pct_names.proofs.Names.{ap, event_line, List, thread_text, ℕ, ◌∙◌}
use Rattle.pct_expect.specs.Events.{word_matches}
use Rattle.pct_io.specs.Fields.{field_text}
use Rattle.pct_model.specs.EventTexts.{event_names, event_words}
use Rattle.pct_survey.proofs.FieldMatches.{other_word, too_short}
use Rattle.pct_survey.proofs.matching.is_match.Goals as goal

pub returns-then-pattern-lt2 : goal.returns-then-pattern-lt2
unfolding event_line
returns-then-pattern-lt2 c =
    let event = c.args.event.now in
    too_short (thread_text event.pid event.tid) (field_text c.word_of-word.result) c.args.pattern.now (event_words (event_names c.args.script.now) event.what) c.word_of-word.ensures c.if-pattern-lt2.true

pub returns-then-not-word_matches : goal.returns-then-not-word_matches
unfolding event_line
returns-then-not-word_matches c =
    let event = c.args.event.now in
    other_word (thread_text event.pid event.tid) (field_text c.word_of-word.result) c.args.pattern.now (event_words (event_names c.args.script.now) event.what) c.index-pattern-1.result c.word_of-word.ensures c.if-pattern-lt2.false
    (c.if-not-word_matches.ensures ∙ ap (λ (asked : List ℕ). word_matches asked (field_text c.word_of-word.result)) (c.as_slice.ensures ∙ c.index-pattern-1.is))
