use Rattle.pct_names.proofs.Names.{[], ap, arith, length, List, ℕ, ◌∙◌, ◌∷◌}
use Rattle.pct_view_texts.proofs.Appending.{as_text, then_text}
use Rattle.pct_view_texts.proofs.PhraseTexts.{no_phrases, some_phrases}
use Rattle.pct_view_texts.proofs.phrases.push_phrases.Goals as goal

pub returns-then-bytes-lt2 : goal.returns-then-bytes-lt2
returns-then-bytes-lt2 c = λ all is.
    let bytes = c.as_slice-bytes.ensures ∙ is in
    as_text _ _ _ _ _ (ap (λ (text : List ℕ). 9 ∷ text) (no_phrases all (omega (arith, c.if-bytes-lt2.true, ap length bytes))))
    (then_text _ _ _ _ (9 ∷ []) _ c.in_ok-push.ensures c.push-then-bytes-lt2.ensures)

pub returns-else-bytes-lt2 : goal.returns-else-bytes-lt2
returns-else-bytes-lt2 c = λ all is.
    as_text _ _ _ _ _ (ap (λ (text : List ℕ). 9 ∷ text) (some_phrases all c.as_slice-bytes.result.now (c.as_slice-bytes.ensures ∙ is) c.if-bytes-lt2.false))
    (then_text _ _ _ _ (9 ∷ []) _ c.in_ok-push.ensures c.push-else-bytes-lt2.ensures)
