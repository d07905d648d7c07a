use Rattle.pct_names.proofs.Names.{◌++◌, [], codes, ◌∷◌}
use Rattle.pct_io.specs.Fields.{field_text as word_text}
use Rattle.pct_view_texts.specs.Choices.{waits_for}
use Rattle.pct_view_texts.specs.Fields.{phrase_text}
use Rattle.pct_view_texts.proofs.Appending.{both_texts, then_text}
use Rattle.pct_view_texts.proofs.wait.push_once_wait.Goals as goal

pub returns : goal.returns
returns c =
    let waits = phrase_text (waits_for (codes "once" ∷ codes "control" ∷ word_text c.args.name ∷ [])) in
    let called = phrase_text (codes "called" ∷ codes "by" ∷ word_text c.args.caller ∷ []) in
    then_text _ _ _ _ (waits ++ codes ", ") called (both_texts _ _ _ waits (codes ", ") c.in_ok-push_wait_for.ensures c.in_ok-push.ensures) c.push_words.ensures
