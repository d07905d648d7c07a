use Rattle.pct_names.proofs.Names.{◌++◌, [], codes, ◌∷◌}
use Rattle.pct_io.specs.Fields.{field_text as word_text}
use Rattle.pct_view_texts.specs.Choices.{waits_for}
use Rattle.pct_view_texts.specs.Fields.{phrase_text}
use Rattle.pct_view_texts.proofs.Appending.{both_texts, then_text}
use Rattle.pct_view_texts.proofs.wait.push_mutex_wait.Goals as goal

pub returns : goal.returns
returns c =
    let waits = phrase_text (waits_for (codes "mutex" ∷ word_text c.args.name ∷ [])) in
    let held = phrase_text (codes "held" ∷ codes "by" ∷ word_text c.args.owner ∷ []) in
    then_text _ _ _ _ (waits ++ codes ", ") held (both_texts _ _ _ waits (codes ", ") c.in_ok-push_wait_for.ensures c.in_ok-push.ensures) c.push_words.ensures
